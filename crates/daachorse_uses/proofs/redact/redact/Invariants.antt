-- Each byte that lies in one of the matches so far is a star, and behind these come those that are left.
use Rattle.std.proofs.Common.{◌≡◌, ◌<◌, ◌++◌, ℕ, cond, length, slice_index}
use Rattle.daachorse_model.specs.Folding.{as_read}
use Rattle.daachorse_model.specs.Leftmost.{leftmost}
use Rattle.daachorse_model.specs.Units.{byte_width}
use Rattle.daachorse.specs.bytewise.Automata.{dictionary_of}
use Rattle.daachorse_uses.specs.Covered.{is_covered}
use Rattle.daachorse_uses.proofs.redact.redact.Given as goal

abbrev pub invariant-loop-found : goal.invariant-loop-found
invariant-loop-found l = record {
  stars : (i : ℕ) → i < length l.fn.text → slice_index l.out i ≡ cond (is_covered l.yielded i) 42 (slice_index l.fn.text i);
  parts : leftmost byte_width (dictionary_of l.fn.words) (as_read l.fn.words.folds l.fn.text) ≡ l.yielded ++ l.found-iterator.left;
}
