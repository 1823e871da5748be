-- The texts so far are the first patterns.
use Rattle.std.proofs.Common.{◌≡◌, take}
use Rattle.daachorse_model.specs.Dictionary.{registrations_of}
use Rattle.daachorse.specs.charwise.Building.{registrations_of_strings}
use Rattle.daachorse_c.specs.declared.unit.Unit.TheVariants.{Character}
use Rattle.daachorse_c.specs.Patterns.{AreTexts}
use Rattle.daachorse_c.proofs.patterns.texts_of.Given as goal

abbrev pub invariant-loop-pattern : goal.invariant-loop-pattern
invariant-loop-pattern l = record {
  texts : AreTexts Character (registrations_of (take l.pattern-index l.patterns));
  all : registrations_of_strings l.texts.items ≡ registrations_of_strings (take l.pattern-index l.patterns);
}
