-- The table of rows tells the row of each state that has one, and that row begins with the state; any other state stands behind all rows in
-- order.
use Rattle.std.proofs.Common.{subst, sym, ap, ◌∙◌, ◌+◌, ◌*◌, ◌%◌, ◌^◌}
use Rattle.std.specs.Prelude.{slice_index}
use Rattle.daachorse_rows.specs.Rows.{Rowed, StandsFor}
use Rattle.daachorse_rows.proofs.RowLaws.{cell_home, cell_past}
use Rattle.daachorse_rows.proofs.view.RowView.cell.Goals as goal

pub returns-then-self-index : goal.returns-then-self-index
returns-then-self-index g c =
    let s = c.self.inside in
    let P : Rowed g.row.A.Denot → Type 0 = λ p. (g.A.Automaton.sees p.automaton).reached c.args.state
    → StandsFor p.rows (slice_index s.homes.now c.args.state * s.width) c.args.state in
    subst P c.self.view_is (λ there. cell_home g.A.Unit.EdgeLabel.width
    (g.A.Automaton.sees s.automaton) _ g.A.Label.RowLabel.most _ c.self.invariant c.args.state c.if-index-self.true
    c.if-self-index.true)

pub returns : goal.returns
returns g c =
    let s = c.self.inside in
    let P : Rowed g.row.A.Denot → Type 0 = λ p. (g.A.Automaton.sees p.automaton).reached c.args.state
    → StandsFor p.rows ((c.end.result + c.args.state) % 2 ^ 32) c.args.state in
    let end = c.end.ensures.end ∙ sym (ap (λ (p : Rowed g.row.A.Denot). p.rows.count * p.rows.width) c.self.view_is) in
    subst P c.self.view_is (λ there. cell_past _ c.args.state _ c.self.invariant.size (ap (λ n. (n + c.args.state) % 2 ^ 32) end)
    (c.self.invariant.small c.args.state there))
