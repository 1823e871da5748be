-- There are as many counts as states.
use Rattle.std.proofs.Common.{length}
use Rattle.daachorse_build.specs.Counts.{HasCounts}
use Rattle.daachorse_patterns.proofs.corpus.count_all.Given as goal

abbrev pub invariant-loop-document : goal.invariant-loop-document
invariant-loop-document g l = HasCounts (length l.nfa.states) l.profile
