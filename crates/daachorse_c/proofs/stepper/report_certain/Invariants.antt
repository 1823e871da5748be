-- What was given was written.
use Rattle.std.proofs.Common.{◌≡◌, ℕ, ◌-◌, ◌≤◌, List, length}
use Rattle.daachorse_model.specs.declared.Match.{Match}
use Rattle.daachorse_streams.specs.Streamed.{IsSameStream}
use Rattle.daachorse_c.specs.Streams.{HasGiven, ReportsMore}
use Rattle.daachorse_c.proofs.stepper.report_certain.Given as goal

abbrev pub invariant-loop-written : goal.invariant-loop-written
invariant-loop-written g l = record {
  same : IsSameStream l.fn.stream l.stream;
  long : length l.out ≡ length l.fn.out;
  room : l.written ≤ length l.fn.out;
  reported : (reported : List (Match ℕ)) → HasGiven g.L.Unit.EdgeLabel.width g.L.Automaton.sees l.fn.stream reported → ReportsMore (HasGiven g.L.Unit.EdgeLabel.width g.L.Automaton.sees l.stream) reported l.fn.out l.out l.written;
}

abbrev pub decreases-loop-written : goal.decreases-loop-written
decreases-loop-written g l = length l.out - l.written
