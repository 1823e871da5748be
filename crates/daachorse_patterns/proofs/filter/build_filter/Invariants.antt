-- The first patterns were shown.
use Rattle.std.proofs.Common.{take}
use Rattle.daachorse_prefilter.specs.Builders.{HasAdded}
use Rattle.daachorse_patterns.specs.Patterns.{texts_of}
use Rattle.daachorse_patterns.proofs.FilterLaws.{words}
use Rattle.daachorse_patterns.proofs.filter.build_filter.Given as goal

abbrev pub invariant-loop-pattern : goal.invariant-loop-pattern
invariant-loop-pattern g l = HasAdded l.builder (words g.P.Pattern.spell (texts_of g.P.Pattern.units (take l.pattern-index l.patterns)))
