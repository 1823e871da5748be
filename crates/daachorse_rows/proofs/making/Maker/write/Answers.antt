-- The rows are written one after the other.
use Rattle.std.proofs.Common.{◌≡◌, ℕ, length, subst, arith}
use Rattle.daachorse_rows.specs.Rows.{AreWritten, labelled}
use Rattle.daachorse_rows.proofs.MakingLaws.{AreWritten-none, HaveRows-chosen}
use Rattle.daachorse_rows.proofs.making.Maker.write.Goals as goal

pub loop-row-init : goal.loop-row-init
loop-row-init g c =
    let seen = labelled g.A.Automaton.sees g.A.Automaton.labels g.A.Label.RowLabel.number c.args.self.now in let order = c.args.chosen.now.order.items in
    AreWritten-none g.A.Unit.EdgeLabel.width seen order c.in_ok-top.top.items c.in_ok-top.ensures.items

pub write_row-requires : goal.write_row-requires
write_row-requires g c = record {
  chosen = c.requires;
  row = omega (arith, c.loop-row-test.true, c.loop-row.auto.row-end, c.len-row-end.ensures, c.args.chosen.now.order.ok.0);
  written = c.loop-row.invariant;
}

pub loop-row-preserved : goal.loop-row-preserved
loop-row-preserved g c = c.in_ok-write_row.ensures

pub returns : goal.returns
returns g c =
    let seen = labelled g.A.Automaton.sees g.A.Automaton.labels g.A.Label.RowLabel.number c.args.self.now in let order = c.args.chosen.now.order.items in
    let e : c.loop-row.row ≡ length order = omega (arith, c.loop-row-test.false, c.loop-row.auto.row-end, c.len-row-end.ensures, c.args.chosen.now.order.ok.0) in
    let P : ℕ → Type 0 = λ n. AreWritten g.A.Unit.EdgeLabel.width seen order n 0 c.loop-row.top.items in
    subst P e c.loop-row.invariant

pub end-requires : goal.end-requires
end-requires g c = HaveRows-chosen _ _ _ c.self.invariant (rw (← c.self.view_is) at c.requires)
