-- The next item is paired with the value that its index is converted to, and at the end the items so far are all of them.
use Rattle.std.proofs.Common.{◌≡◌, ◌<◌, ◌+◌, ◌∷◌, ◌++◌, [], List, length, take, ◌∙◌, ap, sym, subst, arith, length-take}
use Rattle.std.proofs.lemmas.List.{take_more}
use Rattle.std.proofs.lemmas.Grind.{common_steps}
use Rattle.daachorse_patterns.specs.Patterns.{AreIndexed}
use Rattle.daachorse_patterns.proofs.IndexLaws.{AreIndexed-push}
use Rattle.daachorse_patterns.proofs.gathering.indexed.Goals as goal

pub loop-index-preserved : goal.loop-index-preserved
loop-index-preserved g c =
    let gives = g.V.TryFrom.try_from_gives in let ts = c.args.items.now in let i = c.loop-index.index in
    let item : g.row.T.Denot = c.index-items-index.result in
    let l : i < length ts = c.loop-index-test.true in
    let fits = length-take i ts in
    let more : take i ts ++ item ∷ [] ≡ take (i + 1) ts = ap (λ x. take i ts ++ x ∷ []) c.index-items-index.is ∙ sym (take_more ts i item l) in
    let P : List g.row.T.Denot → Type 0 = λ xs. AreIndexed gives 0 xs c.push.new.self.items in
    let Q : List (g.row.T.Denot × g.row.V.Denot) → Type 0 = λ rs. AreIndexed gives 0 (take i ts ++ item ∷ []) rs in
    subst P more (subst Q (sym c.in_ok-push.ensures.items) (AreIndexed-push gives 0 i (take i ts) c.loop-index.pairs.items item c.in-Ok.value c.loop-index.invariant (omega (arith, l, fits)) c.in-Ok.ensures))

pub returns-clause-ok : goal.returns-clause-ok
returns-clause-ok g c = grind (arith, common_steps)
