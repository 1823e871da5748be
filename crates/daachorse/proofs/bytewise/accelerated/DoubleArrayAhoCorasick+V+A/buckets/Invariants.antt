-- The patterns that are left are to be marked still, and those before them are marked.
use Rattle.std.proofs.Common.{length}
use Rattle.daachorse_prefilter.proofs.BucketLaws.{AreMarkedSoFar}
use Rattle.daachorse.specs.bytewise.Automata.{dictionary_of}
use Rattle.daachorse.proofs.bytewise.accelerated.DoubleArrayAhoCorasick+V+A.buckets.Given as goal

abbrev pub invariant-texts : goal.invariant-texts
invariant-texts g l = record {
  so_far : AreMarkedSoFar (λ w. w) (dictionary_of l.self) l.texts.left l.builder;
}

abbrev pub decreases-texts : goal.decreases-texts
decreases-texts g l = length l.texts.left
