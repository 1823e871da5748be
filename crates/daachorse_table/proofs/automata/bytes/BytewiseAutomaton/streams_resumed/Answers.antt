-- The stream stood in this automaton.
use Rattle.std.proofs.Common.{rules, ◌∙◌}
use Rattle.daachorse_table.proofs.automata.bytes.BytewiseAutomaton.streams_resumed.Goals as goal

pub resume_leftmost_stream-resumed-requires : goal.resume_leftmost_stream-resumed-requires
resume_leftmost_stream-resumed-requires c =
    let stands = rw (c.gives_over-is_saved.ensures.automaton ∙ c.in-Ok-leftmost_stream.ensures.ok.automaton) at c.into_standing.ensures.stands in
    search (rules, stands)
