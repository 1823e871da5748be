-- The characters of one more pattern are counted after those of the patterns before it.
use Rattle.std.proofs.Common.{◌≡◌, ℕ, ◌+◌, List, [], ◌∷◌, ◌++◌, map, take, sym, ap, ◌∙◌, subst, arith, rules}
use Rattle.std.specs.Borrow.{Bor}
use Rattle.std.specs.Prelude.{IsTrue}
use Rattle.std.specs.List.{AllByRecursion}
use Rattle.std.specs.Str.{all_scalars, chars}
use Rattle.std.proofs.lemmas.List.{map_push, take_all, take_more}
use Rattle.daachorse_patterns.proofs.Keys.{all-push}
use Rattle.daachorse.specs.charwise.Frequencies.{AreFrequencies, HasCounted, concatenation}
use Rattle.daachorse.proofs.CountLaws.{counted_both, concatenation-push, none_counted}
use Rattle.daachorse.proofs.charwise.frequencies.frequencies.Goals as goal

pub loop-pattern-preserved : goal.loop-pattern-preserved
loop-pattern-preserved g c =
    let pair : Bor (List ℕ) × g.row.V.Denot = c.loop-pattern-item.result in
    let text : Bor (List ℕ) × g.row.V.Denot → List ℕ = λ p. chars p.0.now in
    let i = c.loop-pattern.pattern-index in
    let so_far : List (List ℕ) = map text (take i c.args.patterns.now) in
    let push : take (i + 1) c.args.patterns.now ≡ take i c.args.patterns.now ++ pair ∷ [] =
    take_more c.args.patterns.now i pair c.loop-pattern-test.true ∙ ap (λ x. take i c.args.patterns.now ++ x ∷ []) (sym c.loop-pattern-item.is) in
    let more : map text (take (i + 1) c.args.patterns.now) ≡ so_far ++ text pair ∷ [] = ap (map text) push ∙ map_push text (take i c.args.patterns.now) pair in
    let P : List ℕ → Type 0 = λ w. HasCounted [] w c.count_chars.new.freqs.items in
    let T : Bor (List ℕ) × g.row.V.Denot → Type 0 = λ p. IsTrue (all_scalars (chars p.0.now)) in
    let A : List (Bor (List ℕ) × g.row.V.Denot) → Type 0 = λ ps. AllByRecursion T ps in
    record {
      counted = subst P (sym (ap concatenation more ∙ concatenation-push so_far (text pair))) (counted_both [] c.loop-pattern.freqs.items c.count_chars.new.freqs.items (concatenation so_far) (text pair) c.loop-pattern.invariant.counted c.in_ok-count_chars.ensures.ok);
      texts = subst A (sym push) (all-push T (take i c.args.patterns.now) pair c.loop-pattern.invariant.texts c.in_ok-count_chars.ensures.text);
    }

pub loop-pattern-init : goal.loop-pattern-init
loop-pattern-init g c =
    let none : c.new-freqs.result.items ≡ [] = search rules in
    record { counted = none_counted c.new-freqs.result.items none; texts = tt }

pub count_chars-requires : goal.count_chars-requires
count_chars-requires g c = c.loop-pattern.invariant.counted.few

pub returns-clause-ok : goal.returns-clause-ok
returns-clause-ok g c =
    let F : List (Bor (List ℕ) × g.row.V.Denot) → Type 0 = λ ps. AreFrequencies (map (λ p. chars p.0.now) ps) c.loop-pattern.freqs.items in
    subst F (take_all c.loop-pattern.pattern-index c.args.patterns.now (omega arith)) c.loop-pattern.invariant.counted

pub returns-clause-texts : goal.returns-clause-texts
returns-clause-texts g c =
    let T : List (Bor (List ℕ) × g.row.V.Denot) → Type 0 = λ ps. AllByRecursion (λ p. IsTrue (all_scalars (chars p.0.now))) ps in
    subst T (take_all c.loop-pattern.pattern-index c.args.patterns.now (omega arith)) c.loop-pattern.invariant.texts
