-- The search stands right before each unit, and each round reads one.
use Rattle.std.proofs.Common.{◌-◌}
use Rattle.std.specs.VecDeque.{deque_len}
use Rattle.daachorse_streams.specs.Searching.{IsSearching, WalksOn}
use Rattle.daachorse_streams.proofs.search.walk.Given as goal

abbrev pub invariant-units : goal.invariant-units
invariant-units g l = record {
  stands : IsSearching g.A.Unit.EdgeLabel.width (g.A.Automaton.sees l.automaton) g.A.Unit.EdgeLabel.unit l.search;
  on : WalksOn l.fn.search l.search;
}

abbrev pub decreases-units : goal.decreases-units
decreases-units g l = deque_len l.search.ring - l.search.walked
