-- A state's outputs are those that the view tells.
use Rattle.std.proofs.Common.{subst}
use Rattle.daachorse_model.specs.Units.{char_width}
use Rattle.daachorse_search.specs.Views.{HasFirst}
use Rattle.daachorse_charwise_states.specs.Parts.{Parts}
use Rattle.daachorse_charwise_states.specs.StateRows.{sees_ascii}
use Rattle.daachorse_charwise_states.proofs.for_rows.ForRowsAutomaton.output_pos.Goals as goal

pub returns : goal.returns
returns g c =
    let P : Parts g.row.V.Denot → Type 0 = λ p. HasFirst char_width (sees_ascii p) c.args.state c.output_pos.result in
    subst P c.self.view_is c.output_pos.ensures
