-- There are twice as many slots as cells.
use Rattle.std.proofs.Common.{◌≡◌, ◌*◌, ◌/◌, length, subst, ap, ◌∙◌, arith}
use Rattle.daachorse_rows.specs.Rows.{AreRows, Rowed, stands_by}
use Rattle.daachorse_rows.proofs.view.RowView.end.Goals as goal

pub returns : goal.returns
returns g c =
    let A = g.A.Automaton in let s = c.self.inside in
    let half : length s.top.now / 2 ≡ s.count * s.width = omega (arith, c.self.invariant.size) in
    let P : Rowed g.row.A.Denot → Type 0 = λ p. AreRows g.A.Unit.EdgeLabel.width (A.sees p.automaton)
    (stands_by g.A.Label.RowLabel.number (A.labels p.automaton)) p.rows in
    record {
      end = half ∙ ap (λ (p : Rowed g.row.A.Denot). p.rows.count * p.rows.width) c.self.view_is;
      right = subst P c.self.view_is c.self.invariant;
    }
