-- The patterns that are left are to be marked still, and those before them are marked.
use Rattle.std.proofs.Common.{length}
use Rattle.std.specs.Prelude.{encode_utf8_all}
use Rattle.daachorse_prefilter.proofs.BucketLaws.{AreMarkedSoFar}
use Rattle.daachorse.specs.charwise.Automata.{dictionary_of}
use Rattle.daachorse.proofs.charwise.accelerated.CharwiseDoubleArrayAhoCorasick+V+A.buckets.Given as goal

abbrev pub invariant-texts : goal.invariant-texts
invariant-texts g l = record {
  so_far : AreMarkedSoFar encode_utf8_all (dictionary_of l.self) l.texts.left l.builder;
}

abbrev pub decreases-texts : goal.decreases-texts
decreases-texts g l = length l.texts.left
