-- Each byte so far has its mark, and the stepper consumed just these bytes.
use Rattle.std.proofs.Common.{◌≡◌, length}
use Rattle.daachorse_model.specs.Folding.{as_read}
use Rattle.daachorse_model.specs.Matches.{standard}
use Rattle.daachorse_model.specs.Units.{byte_width}
use Rattle.daachorse.specs.bytewise.Automata.{dictionary_of, states_of}
use Rattle.daachorse_uses.specs.Covered.{AreMarks}
use Rattle.daachorse_uses.proofs.highlight.highlight.Given as goal

abbrev pub invariant-loop-byte : goal.invariant-loop-byte
invariant-loop-byte g l = record {
  can : (goal.iterator-loop-byte g).can_next l.byte-iterator;
  is_finite : (goal.iterator-loop-byte g).is_finite l.byte-iterator;
  automaton : l.stepper.automaton ≡ states_of l.fn.words;
  folds : l.stepper.folds ≡ l.fn.words.folds;
  read : l.stepper.read ≡ as_read l.fn.words.folds l.yielded;
  marks : AreMarks (standard byte_width (dictionary_of l.fn.words) (as_read l.fn.words.folds l.yielded)) (length l.yielded) l.marks.items;
}
