-- The table has a code for each character of a pattern, so a character that has none is in no key.
use Rattle.daachorse_charwise_states.proofs.ViewLaws.{view_label}
use Rattle.daachorse_charwise_states.proofs.view.ViewAutomaton.label.Goals as goal

pub returns : goal.returns
returns g c = view_label _ _ _ c.self.view_is c.self.invariant.0 c.args.unit c.ranges.unit.0 c.code_in.result c.code_in.ensures
