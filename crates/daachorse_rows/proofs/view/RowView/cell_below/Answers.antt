-- The root's cell stands for a state with the empty text, and behind all rows each state stands for itself, whether it has a row or not.
use Rattle.std.proofs.Common.{subst, sym, ap, ◌∙◌, ◌+◌, ◌*◌, ◌%◌, ◌^◌}
use Rattle.daachorse_rows.specs.Rows.{Rowed, SharesText}
use Rattle.daachorse_rows.proofs.RowLaws.{cell_past, shares_root, shares_state}
use Rattle.daachorse_rows.proofs.view.RowView.cell_below.Goals as goal

pub returns-then-state-root : goal.returns-then-state-root
returns-then-state-root g c =
    let A = g.A.Automaton in let s = c.self.inside in
    let P : Rowed g.row.A.Denot → Type 0 = λ p. (A.sees p.automaton).reached c.args.state
    → SharesText (A.sees p.automaton) p.rows s.root c.args.state in
    subst P c.self.view_is (λ there. shares_root g.A.Unit.EdgeLabel.width
    (A.sees s.automaton) _ g.A.Label.RowLabel.most _ c.self.invariant c.args.state
    (ap (A.sees s.automaton).text c.if-state-root.true ∙ c.root.ensures.text))

pub returns : goal.returns
returns g c =
    let A = g.A.Automaton in let s = c.self.inside in
    let P : Rowed g.row.A.Denot → Type 0 = λ p. (A.sees p.automaton).reached c.args.state
    → SharesText (A.sees p.automaton) p.rows ((c.end.result + c.args.state) % 2 ^ 32) c.args.state in
    let end = c.end.ensures.end ∙ sym (ap (λ (p : Rowed g.row.A.Denot). p.rows.count * p.rows.width) c.self.view_is) in
    subst P c.self.view_is (λ there. shares_state (A.sees s.automaton) _ _ c.args.state
    (cell_past _ c.args.state _ c.self.invariant.size (ap (λ n. (n + c.args.state) % 2 ^ 32) end)
    (c.self.invariant.small c.args.state there)) there)
