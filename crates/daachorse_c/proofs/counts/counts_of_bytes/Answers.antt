-- Each number is that of the automaton.
use Rattle.std.proofs.Common.{length, ap, arith, sym, ◌∙◌}
use Rattle.daachorse_c.proofs.Longest.{longest-bytes}
use Rattle.daachorse_c.proofs.counts.counts_of_bytes.Goals as goal

pub returns-clause-counts : goal.returns-clause-counts
returns-clause-counts c =
    let longest = c.in_ok-max_pattern_len.ensures.ok in
    record {
      patterns = c.in_ok-num_patterns.ensures.ok;
      states = c.num_states.ensures;
      longest = (longest.0, longest.1, longest.2 ∙ sym (longest-bytes longest.0 0));
      size = omega (arith, c.len.ensures, c.in_ok-serialize.field-0.ok, ap length c.in_ok-serialize.ensures.ok);
    }
