-- The stream goes on over its automaton, and has no match to give.
use Rattle.std.proofs.Common.{◌≡◌, false}
use Rattle.daachorse_table.proofs.streamed.gives_over.Given as goal

abbrev pub invariant-loop-place : goal.invariant-loop-place
invariant-loop-place g l = record { quiet : l.stream.waiting ≡ false; open_yet : l.stream.ended ≡ false; automaton : l.stream.automaton ≡ l.fn.stream.automaton }
