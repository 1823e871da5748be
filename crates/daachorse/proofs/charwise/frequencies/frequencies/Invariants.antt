-- The patterns so far are counted, and they are of characters alone.
use Rattle.std.proofs.Common.{take, map}
use Rattle.std.specs.Prelude.{IsTrue}
use Rattle.std.specs.List.{AllByRecursion}
use Rattle.std.specs.Str.{all_scalars, chars}
use Rattle.daachorse.specs.charwise.Frequencies.{AreFrequencies}
use Rattle.daachorse.proofs.charwise.frequencies.frequencies.Given as goal

abbrev pub invariant-loop-pattern : goal.invariant-loop-pattern
invariant-loop-pattern g l = record {
  counted : AreFrequencies (map (λ p. chars p.0.now) (take l.pattern-index l.patterns)) l.freqs.items;
  texts : AllByRecursion (λ p. IsTrue (all_scalars (chars p.0.now))) (take l.pattern-index l.patterns);
}
