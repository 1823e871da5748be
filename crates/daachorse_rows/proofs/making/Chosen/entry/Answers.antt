-- A state has a row where its cell is before the end of the rows; that cell is even, so that the mark of outputs is told from it.
use Rattle.std.proofs.Common.{inl, inr, refl, arith}
use Rattle.daachorse_rows.proofs.MakingLaws.{IsEntry-inside, IsEntry-outside}
use Rattle.daachorse_rows.proofs.making.Chosen.entry.Goals as goal

pub returns-then-cell-end : goal.returns-then-cell-end
returns-then-cell-end g c = IsEntry-outside c.args.self.now.order.items c.args.width _ c.args.state _ c.cell-cell.ensures
    c.requires.rows.wide (omega (arith, c.if-cell-end.true, c.end.ensures))

pub returns-in-None : goal.returns-in-None
returns-in-None g c = IsEntry-inside c.args.self.now.order.items c.args.self.now.homes.items c.args.width _ c.args.state _ _ c.requires.rows
    c.cell-cell.ensures (omega (arith, c.if-cell-end.false, c.end.ensures)) (inl (refl, c.in-None.is))

pub returns-in-Some : goal.returns-in-Some
returns-in-Some g c = IsEntry-inside c.args.self.now.order.items c.args.self.now.homes.items c.args.width _ c.args.state _ _ c.requires.rows
    c.cell-cell.ensures (omega (arith, c.if-cell-end.false, c.end.ensures)) (inr refl)
