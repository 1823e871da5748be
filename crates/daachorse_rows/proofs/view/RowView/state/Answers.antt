-- A row's first two slots hold its state, so a cell within the rows is read there, and behind them the states stand in order.
use Rattle.std.proofs.Common.{ap, sym, ◌∙◌, ◌*◌, ◌-◌, arith}
use Rattle.daachorse_rows.specs.Rows.{Rowed, state_at}
use Rattle.daachorse_rows.proofs.RowLaws.{state_at-past, state_at-slot}
use Rattle.daachorse_rows.proofs.view.RowView.state.Goals as goal

pub returns-then-cell-end : goal.returns-then-cell-end
returns-then-cell-end g c =
    let end = ap (λ (p : Rowed g.row.A.Denot). p.rows.count * p.rows.width) c.self.view_is in
    state_at-slot c.self.inside.top.now c.args.cell (omega (arith, c.if-cell-end.true, c.end.ensures.end, end, c.self.invariant.size))
    ∙ ap (λ (p : Rowed g.row.A.Denot). state_at p.rows.top c.args.cell) c.self.view_is

pub returns : goal.returns
returns g c =
    let end = ap (λ (p : Rowed g.row.A.Denot). p.rows.count * p.rows.width) c.self.view_is in
    ap (λ n. c.args.cell - n) (c.end-2.ensures.end ∙ sym end)
    ∙ (state_at-past c.self.inside.top.now _ c.args.cell c.self.invariant.size (omega (arith, c.if-cell-end.false, c.end.ensures.end, end))
    ∙ ap (λ (p : Rowed g.row.A.Denot). state_at p.rows.top c.args.cell) c.self.view_is)
