-- The step ends where it would end from the state that the links led to so far, and each link took one turn and left a shorter text, whose length is also the measure.
use Rattle.std.proofs.Common.{◌≡◌, ◌+◌, ◌≤◌, List, ℕ, length}
use Rattle.daachorse_core.specs.Looks.{StepEnds}
use Rattle.daachorse_search.proofs.walk.follow.Given as goal

abbrev pub invariant-links : goal.invariant-links
invariant-links g l =
    let A = g.A.Automaton in let view = A.sees l.automaton in
    record {
      reached : view.reached l.at;
      on : (unit : ℕ) (t : List ℕ) → A.labels l.automaton l.label unit → StepEnds view.content view.dead (view.text l.at) unit t → StepEnds view.content view.dead (view.text l.fn.state) unit t;
      counted : l.turns + length (view.text l.at) ≤ l.fn.turns + length (view.text l.fn.state);
      more : l.fn.turns ≤ l.turns;
      linked : view.ends_at_once → l.turns ≡ l.fn.turns;
    }

abbrev pub decreases-links : goal.decreases-links
decreases-links g l = length ((g.A.Automaton.sees l.automaton).text l.at)
