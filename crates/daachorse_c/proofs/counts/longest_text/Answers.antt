-- The longest so far is compared with each pattern that is given.
use Rattle.std.proofs.Common.{◌≡◌, ℕ, List, ◌∷◌, length, refl, sym, ap, ◌∙◌, subst, arith, rules}
use Rattle.std.specs.Prelude.{max}
use Rattle.std.specs.List.{fold}
use Rattle.std.specs.Str.{chars}
use Rattle.daachorse_model.specs.Prefixes.{IsListing}
use Rattle.daachorse_model.specs.Units.{char_width, size}
use Rattle.daachorse_haystack.proofs.TextLaws.{size-chars}
use Rattle.daachorse.specs.charwise.Automata.{dictionary_of}
use Rattle.daachorse_c.proofs.counts.longest_text.Goals as goal

abbrev greatest : List (List ℕ × ℕ) → ℕ → ℕ
greatest listed longest = fold (λ n r. max n (size char_width r.0)) longest listed

pub loop-item-init : goal.loop-item-init
loop-item-init c =
    let P : List (List ℕ × ℕ) → Type 0 = λ listed. IsListing (dictionary_of c.args.automaton.now) listed in
    record { so_far = (c.into_iter-item-iterator.result, subst P (sym c.into_iter-item-iterator.ensures.into_iter_gives) c.in_ok-item-items.ensures.ok, refl) }

pub loop-item-preserved : goal.loop-item-preserved
loop-item-preserved c =
    let (listed, is, all) = c.loop-item.invariant.so_far in let bs = c.as_str.result.now in
    let first : c.loop-item.item-iterator ≡ (chars bs, c.in_ok-pattern._value) ∷ c.next.new.self = rw c.in_ok-pattern.was at c.in-Some.ensures.steps ∙ ap (λ t. (chars t, c.in_ok-pattern._value) ∷ c.next.new.self) (sym c.as_str.ensures.value) in
    let longer : c.max-longest.result ≡ max c.loop-item.longest (length bs) = search (rules, arith) in
    record { so_far = (listed, is, ap (greatest c.next.new.self) (longer ∙ ap (max c.loop-item.longest) (sym (size-chars bs c.as_str.utf8))) ∙ sym (ap (λ l. greatest l c.loop-item.longest) first) ∙ all) }

pub returns-clause-longest : goal.returns-clause-longest
returns-clause-longest c =
    let (listed, is, all) = c.loop-item.invariant.so_far in
    (listed, is, sym (ap (λ l. greatest l c.loop-item.longest) c.in-None.ensures.steps.0) ∙ all)
