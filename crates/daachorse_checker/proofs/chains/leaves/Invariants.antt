-- A rank counts as a leaf just as long as no rank looked at so far, from 1 on, has it for its parent.
use Rattle.daachorse_checker.specs.Chains.{AreLeavesOf}
use Rattle.daachorse_checker.proofs.chains.leaves.Given as goal

abbrev pub invariant-loop-rank : goal.invariant-loop-rank
invariant-loop-rank g l = record {
  are : AreLeavesOf l.parents l.leaves.items l.rank;
}
