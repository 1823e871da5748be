-- The longest so far is compared with each pattern that is given.
use Rattle.std.proofs.Common.{◌≡◌, ℕ, List, length, refl, sym, ap, ◌∙◌, subst, arith, rules}
use Rattle.std.proofs.lemmas.Iterator.{YieldsList-from_chars}
use Rattle.std.proofs.lemmas.Iterator.Consumers.{count_from_yields_List}
use Rattle.std.specs.Prelude.{max}
use Rattle.std.specs.List.{fold}
use Rattle.std.specs.Str.{chars}
use Rattle.std.specs.String.{string_bytes}
use Rattle.daachorse_model.specs.Prefixes.{IsListing}
use Rattle.daachorse.specs.charwise.Automata.{dictionary_of}
use Rattle.daachorse.proofs.charwise.CharwiseDoubleArrayAhoCorasick+V+A.max_pattern_len.Goals as goal

abbrev greatest : {V : Type 0} → List (List ℕ × V) → ℕ → ℕ
greatest listed longest = fold (λ n r. max n (length r.0)) longest listed

pub loop-item-init : goal.loop-item-init
loop-item-init g c =
    let P : List (List ℕ × g.row.V.Denot) → Type 0 = λ listed. IsListing (dictionary_of c.args.self.now) listed in
    record { so_far = (c.into_iter-item-iterator.result, subst P (sym c.into_iter-item-iterator.ensures.into_iter_gives) c.in_ok-item-items.ensures.ok, refl) }

pub loop-item-preserved : goal.loop-item-preserved
loop-item-preserved g c =
    let (listed, is, all) = c.loop-item.invariant.so_far in
    let first = rw c.in_ok-pattern.was at c.in-Some.ensures.steps in
    let spelled : c.count.result ≡ length (chars c.as_str.result.now) = count_from_yields_List c.chars.result c.count.result c.count.ensures.ran (YieldsList-from_chars c.as_str.result.now c.as_str.utf8 c.chars.ensures.rest) in
    let counted : c.count.result ≡ length (chars (string_bytes c.in_ok-pattern.pattern)) = spelled ∙ ap (λ b. length (chars b)) c.as_str.ensures.value in
    let longer : c.max-longest.result ≡ max c.loop-item.longest c.count.result = search (rules, arith) in
    record { so_far = (listed, is, ap (greatest c.next.new.self) (longer ∙ ap (max c.loop-item.longest) counted) ∙ sym (ap (λ l. greatest l c.loop-item.longest) first) ∙ all) }

pub returns-clause-ok : goal.returns-clause-ok
returns-clause-ok g c =
    let (listed, is, all) = c.loop-item.invariant.so_far in
    (listed, is, sym (ap (λ l. greatest l c.loop-item.longest) c.in-None.ensures.steps.0) ∙ all)
