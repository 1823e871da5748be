-- The stepper consumed just these characters, and no match ends with any.
use Rattle.std.proofs.Common.{◌≡◌, []}
use Rattle.daachorse_model.specs.Folding.{as_read}
use Rattle.daachorse_model.specs.Matches.{standard}
use Rattle.daachorse_model.specs.Units.{char_width}
use Rattle.daachorse.specs.charwise.Automata.{dictionary_of, states_of}
use Rattle.daachorse_uses.proofs.stream.first_in_characters.Given as goal

abbrev pub invariant-loop-character : goal.invariant-loop-character
invariant-loop-character g l = record {
  can : (goal.iterator-loop-character g).can_next l.character-iterator;
  is_finite : (goal.iterator-loop-character g).is_finite l.character-iterator;
  automaton : l.stepper.automaton ≡ states_of l.fn.words;
  folds : l.stepper.folds ≡ l.fn.words.folds;
  read : l.stepper.read ≡ as_read l.fn.words.folds l.yielded;
  none : standard char_width (dictionary_of l.fn.words) (as_read l.fn.words.folds l.yielded) ≡ [];
}
