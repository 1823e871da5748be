-- Each number is that of the automaton.
use Rattle.std.proofs.Common.{length, ap, arith}
use Rattle.daachorse_c.proofs.counts.counts_of_characters.Goals as goal

pub returns-clause-counts : goal.returns-clause-counts
returns-clause-counts c = record {
  patterns = c.in_ok-num_patterns.ensures.ok;
  states = c.num_states.ensures;
  longest = c.in_ok-longest_text.ensures.longest;
  size = omega (arith, c.len.ensures, c.in_ok-serialize.field-0.ok, ap length c.in_ok-serialize.ensures.ok);
}
