-- At first no rank was looked at, so each counts as a leaf, and at the end all were, so the leaves are those of the whole list of parents.
use Rattle.std.proofs.Common.{◌≡◌, length, subst, arith}
use Rattle.daachorse_checker.specs.Chains.{AreLeavesOf}
use Rattle.daachorse_checker.proofs.chains.leaves.Goals as goal

pub returns-clause-ok : goal.returns-clause-ok
returns-clause-ok g c =
    let parents = c.args.parents.now in
    let e : c.loop-rank.rank ≡ length parents = omega (arith, c.loop-rank.auto.rank-end, c.requires.some, c.loop-rank-test.false) in
    subst (λ m. AreLeavesOf parents c.loop-rank.leaves.items m) e c.loop-rank.invariant.are
