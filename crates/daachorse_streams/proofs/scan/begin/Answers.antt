-- At the root the best match so far is that of the empty key, if it is one.
use Rattle.std.proofs.Common.{ℕ, List, [], false, Option, sym, ap, ◌∙◌, subst, arith}
use Rattle.std.specs.Prelude.{slice_index_or, not}
use Rattle.std.specs.declared.num.NonZeroU32.{NonZeroU32}
use Rattle.daachorse_core.specs.Outputs.{number}
use Rattle.daachorse_model.specs.Best.{IsSteady}
use Rattle.daachorse_model.specs.Outputs.{IsChain}
use Rattle.daachorse_model.proofs.BestLaws.{IsSteady-nil}
use Rattle.daachorse_search.specs.Views.{HasFirst}
use Rattle.daachorse_streams.proofs.ScanLaws.{mark_within, mark_tells, new_best, no_best}
use Rattle.daachorse_streams.proofs.scan.begin.Goals as goal

pub bounds-marks-state : goal.bounds-marks-state
bounds-marks-state g c = mark_within (g.A.Automaton.sees c.args.automaton.now) c.args.marks.now c.requires.marks c.root-state.result c.root-state.ensures.reached

pub returns-in-Some : goal.returns-in-Some
returns-in-Some g c =
    let view = g.A.Automaton.sees c.args.automaton.now in let width = g.A.Unit.EdgeLabel.width in let state = c.root-state.result in let reached = c.root-state.ensures.reached in
    let P : List ℕ → Type 0 = λ x. IsSteady view.content [] x in
    let F : Option NonZeroU32 → Type 0 = λ p. HasFirst width view state p in
    new_best width g.met.A.Unit.EdgeLabel.wide view c.requires.kind c.args.place [] state c.args.place c.in-Some.position (not (slice_index_or c.args.marks.now state false)) reached (omega arith)
    (subst P (sym c.root-state.ensures.text) (IsSteady-nil view.content)) (subst F c.in-Some.is c.output_pos.ensures) (mark_tells view c.args.marks.now c.requires.marks state reached)

pub returns-in-None : goal.returns-in-None
returns-in-None g c =
    let view = g.A.Automaton.sees c.args.automaton.now in let width = g.A.Unit.EdgeLabel.width in let state = c.root-state.result in
    let C : List (g.row.V.Denot × ℕ) → Type 0 = λ l. IsChain width view.content view.dead (view.text state) l in
    no_best width g.met.A.Unit.EdgeLabel.wide view c.requires.kind c.args.place state c.root-state.ensures.reached c.root-state.ensures.text
    (subst C (ap (λ p. view.outputs (number p)) c.in-None.is ∙ (g.met.A.Automaton.no_output c.args.automaton.now).1) c.output_pos.ensures.chain)
