-- Nothing occurs in the units read so far, a scan that may stop was at the root behind none of them, the state's text is the longest end of them that begins a key, and each round takes one unit off the source.
use Rattle.std.proofs.Common.{◌≡◌, ◌+◌, ◌-◌, true, length, None}
use Rattle.daachorse_search.specs.BestScans.{IsScanning, PendsBefore}
use Rattle.daachorse_search.proofs.best.scan_to_match.Given as goal

abbrev pub invariant-units : goal.invariant-units
invariant-units g l =
    let view = g.A.Automaton.sees l.automaton in let rest = g.H.Haystack.rest in
    record {
      reached : view.reached l.state;
      scanning : IsScanning g.A.Unit.EdgeLabel.width view (rest l.fn.source) (rest l.source) (view.text l.state) None l.fn.turns l.turns;
      pends : l.may_stop ≡ true → PendsBefore view.content (1 + (length (rest l.fn.source) - length (rest l.source))) (rest l.fn.source);
    }

abbrev pub decreases-units : goal.decreases-units
decreases-units g l = length (g.H.Haystack.rest l.source)
