-- A slot holds the end of its label's step, so one look at it tells what all looks of the automaton would; elsewhere the automaton looks
-- itself, and its states are told as cells.
use Rattle.std.proofs.Common.{ℕ, List, refl, sym, ◌∙◌, subst, arith}
use Rattle.daachorse_core.specs.Looks.{IsFirstOutput}
use Rattle.daachorse_core.specs.declared.turns.Look.TheVariants.{Next, Fail}
use Rattle.daachorse_search.specs.Views.{HasFirst, SeesLook}
use Rattle.daachorse_rows.specs.Rows.{AreClosed, Rowed, stands_by}
use Rattle.daachorse_rows.proofs.RowLaws.{look_below, look_link, look_loud, look_quiet, never_outside, output_quiet, reached_loud}
use Rattle.daachorse_rows.proofs.view.RowViewAutomaton.turn.Goals.{After-state, then-cell-end+then-number+else-entry-eq0+else-entry}
use Rattle.daachorse_rows.proofs.view.RowViewAutomaton.turn.Goals.{else-cell-end, else-cell-end-via-then-cell-end+else-number}
use Rattle.daachorse_rows.proofs.view.RowViewAutomaton.turn.Goals.{else-cell-end-via-else-cell-end}
use Rattle.daachorse_rows.proofs.view.RowViewAutomaton.turn.Goals as goal

-- where the rows are closed, no look is below them, and each slot tells where its step ends
never_below : (g : _) (c : After-state g) → AreClosed g.A.Label.RowLabel.most
    (stands_by g.A.Label.RowLabel.number (g.A.Automaton.labels c.args.self.now.automaton)) c.args.self.now.rows
    → (unit : ℕ) → g.A.Automaton.labels c.args.self.now.automaton c.args.label unit → ⊥
never_below g c closed unit coded =
    let A = g.A.Automaton in let p = c.args.self.now in let a = p.automaton in
    let low = closed.slots (g.A.Label.RowLabel.number c.args.label) unit c.index-number.ensures.below (c.args.label, refl, coded) in
    elim c.if-cell-end.branch [
      | then-cell-end+then-number+else-entry-eq0+else-entry w ↦
          absurd (never_outside g.A.Unit.EdgeLabel.width (A.sees a) _ g.A.Label.RowLabel.most p.rows c.end.ensures.right c.args.state
          c.index-number.result c.requires.0 (c.requires.2 closed) w.if-number.true closed
          (sym w.slot-entry.ensures ∙ w.if-entry.false))
      | else-cell-end v ↦
          elim v.else-cell-end.branch [
            | else-cell-end-via-then-cell-end+else-number w ↦ absurd (omega (arith, w.if-number.false, c.index-number.ensures.is, low))
            | else-cell-end-via-else-cell-end w ↦ absurd (omega (arith, w.if-cell-end.false, c.end.ensures.end, c.requires.2 closed))
          ]
    ]

-- at a row, by the entry
pub returns-then-entry-eq0-clause-look : goal.returns-then-entry-eq0-clause-look
returns-then-entry-eq0-clause-look g c = λ unit coded.
    let A = g.A.Automaton in let p = c.args.self.now in
    look_quiet g.A.Unit.EdgeLabel.width (A.sees p.automaton) _ g.A.Label.RowLabel.most _ c.end.ensures.right c.args.state
    c.index-number.result c.slot-entry.result c.requires.0
    (omega (arith, c.if-cell-end.true, c.end.ensures.end)) c.if-number.true c.slot-entry.ensures
    (λ none. omega (arith, c.if-entry-eq0.true, none)) c.if-entry-eq0.true unit (c.args.label, sym c.index-number.ensures.is, coded)

pub returns-then-entry-eq0-clause-output :
    goal.returns-then-entry-eq0-clause-output
returns-then-entry-eq0-clause-output g c = λ unit coded.
    let A = g.A.Automaton in let p = c.args.self.now in
    output_quiet g.A.Unit.EdgeLabel.width (A.sees p.automaton) _ g.A.Label.RowLabel.most _ c.end.ensures.right c.args.state
    c.index-number.result c.slot-entry.result c.requires.0
    (omega (arith, c.if-cell-end.true, c.end.ensures.end)) c.if-number.true c.slot-entry.ensures
    (λ none. omega (arith, c.if-entry-eq0.true, none)) c.if-entry-eq0.true

pub output_pos-requires : goal.output_pos-requires
output_pos-requires g c =
    let A = g.A.Automaton in let p = c.args.self.now in
    reached_loud g.A.Unit.EdgeLabel.width (A.sees p.automaton) _ g.A.Label.RowLabel.most _ c.end.ensures.right c.args.state
    c.index-number.result c.slot-entry.result c.requires.0
    (omega (arith, c.if-cell-end.true, c.end.ensures.end)) c.if-number.true c.slot-entry.ensures c.if-entry.true c.if-entry-eq0.false

pub returns-then-entry-clause-look : goal.returns-then-entry-clause-look
returns-then-entry-clause-look g c = λ unit coded.
    let A = g.A.Automaton in let p = c.args.self.now in
    look_loud g.A.Unit.EdgeLabel.width (A.sees p.automaton) _ g.A.Label.RowLabel.most _ c.end.ensures.right c.args.state
    c.index-number.result c.slot-entry.result c.requires.0
    (omega (arith, c.if-cell-end.true, c.end.ensures.end)) c.if-number.true c.slot-entry.ensures c.if-entry.true c.if-entry-eq0.false
    unit (c.args.label, sym c.index-number.ensures.is, coded)

-- below the rows, by a label with no slot, and where a slot tells nothing: what the automaton's own look tells
pub turn-requires : goal.turn-requires
turn-requires g c =
    let A = g.A.Automaton in
    let R : Rowed g.row.A.Denot → Type 0 = λ p. (A.sees p.automaton).reached c.state.result in
    let Q : ℕ → Type 0 = λ x. (A.sees c.args.self.now.automaton).reached x in
    subst R (sym c.self.view_is) (subst Q (sym c.state.ensures) c.requires.1)

pub returns-in-Next-clause-look : goal.returns-in-Next-clause-look
returns-in-Next-clause-look g c = λ unit coded.
    let A = g.A.Automaton in let p = c.args.self.now in let a = p.automaton in
    let told = Next c.in-Next.next c.in-Next.position in
    let P : Rowed g.row.A.Denot → Type 0 = λ q. A.labels q.automaton c.args.label unit
    → SeesLook (A.sees q.automaton) c.state.result unit told in
    let own : P p = subst P c.self.view_is (c.in-Next.ensures.look unit) in
    let Q : ℕ → Type 0 = λ x. SeesLook (A.sees a) x unit told in
    let look = subst Q c.state.ensures (own coded) in
    look_below (A.sees a) (stands_by g.A.Label.RowLabel.number (A.labels a)) g.A.Label.RowLabel.most p.rows c.args.state unit c.in-Next.next
    c.cell_below.result
    (λ closed. absurd (never_below g (goal.at.returns-in-Next-clause-look g c).After-state closed unit coded))
    c.in-Next.position (c.cell_below.ensures look.0) look

pub returns-in-Next-clause-output : goal.returns-in-Next-clause-output
returns-in-Next-clause-output g c = λ unit coded.
    let A = g.A.Automaton in let p = c.args.self.now in let view = A.sees p.automaton in
    let P : Rowed g.row.A.Denot → Type 0 = λ q. A.labels q.automaton c.args.label unit → (A.sees q.automaton).reached c.in-Next.next
    × HasFirst g.A.Unit.EdgeLabel.width (A.sees q.automaton) c.in-Next.next c.in-Next.position in
    let own : P p = subst P c.self.view_is (λ coded. ((c.in-Next.ensures.look unit coded).0, c.in-Next.ensures.output unit coded)) in
    let Q : List ℕ → Type 0 = λ t. IsFirstOutput g.A.Unit.EdgeLabel.width view.content view.dead view.has_output view.outputs
    view.most_outputs t c.in-Next.position in
    subst Q (sym (c.cell_below.ensures (own coded).0).same) (own coded).1

pub returns-in-Fail-clause-look : goal.returns-in-Fail-clause-look
returns-in-Fail-clause-look g c = λ unit coded.
    let A = g.A.Automaton in let p = c.args.self.now in let a = p.automaton in
    let told = Fail c.in-Fail.link in
    let P : Rowed g.row.A.Denot → Type 0 = λ q. A.labels q.automaton c.args.label unit
    → SeesLook (A.sees q.automaton) c.state.result unit told in
    let own : P p = subst P c.self.view_is (c.in-Fail.ensures.look unit) in
    let Q : ℕ → Type 0 = λ x. SeesLook (A.sees a) x unit told in
    let look = subst Q c.state.ensures (own coded) in
    look_link (A.sees a) (stands_by g.A.Label.RowLabel.number (A.labels a)) g.A.Label.RowLabel.most p.rows c.args.state unit c.in-Fail.link
    c.cell.result
    (λ closed. absurd (never_below g (goal.at.returns-in-Fail-clause-look g c).After-state closed unit coded))
    (c.cell.ensures look.0) look

pub returns-in-Fail-clause-single : goal.returns-in-Fail-clause-single
returns-in-Fail-clause-single g c = λ closed unit link coded _.
    never_below g (goal.at.returns-in-Fail-clause-single g c).After-state closed unit coded
