-- No match ends the stream or changes its automaton.
use Rattle.std.proofs.Common.{◌≡◌}
use Rattle.daachorse_table.proofs.streamed.gives.Given as goal

abbrev pub invariant-loop : goal.invariant-loop
invariant-loop g l = record { ended : l.stream.ended ≡ l.fn.stream.ended; automaton : l.stream.automaton ≡ l.fn.stream.automaton }
