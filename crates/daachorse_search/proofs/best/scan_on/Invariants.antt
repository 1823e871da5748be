-- The match of the mark is the best in all that was read, and none starts before the state's text, the longest end of it that begins a key; each round takes a unit off the source.
use Rattle.std.proofs.Common.{ℕ, ◌≤◌, length, Some}
use Rattle.daachorse_model.specs.Units.{size}
use Rattle.daachorse_search.specs.BestScans.{IsScanning}
use Rattle.daachorse_search.proofs.best.scan_on.Given as goal

abbrev pub invariant-units : goal.invariant-units
invariant-units g l =
    let view = g.A.Automaton.sees l.automaton in let width = g.A.Unit.EdgeLabel.width in let rest = g.H.Haystack.rest in
    let Scanning = IsScanning width view (rest l.haystack) in
    record {
      reached : view.reached l.state;
      left : size width (rest l.source) ≤ size width (rest l.haystack);
      behind : size width (rest l.mark.behind) ≤ size width (rest l.haystack);
      scanning : (before : ℕ) → Scanning (rest l.fn.source) (view.text l.fn.state) (Some (l.fn.position.value, size width (rest l.fn.source))) before l.fn.turns
          → Scanning (rest l.source) (view.text l.state) (Some (l.mark.position.value, size width (rest l.mark.behind))) before l.turns;
    }

abbrev pub decreases-units : goal.decreases-units
decreases-units g l = length (g.H.Haystack.rest l.source)
