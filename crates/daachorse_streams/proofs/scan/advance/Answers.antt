-- A step to the root decides the best match, one to a state with an output finds a better one, and any other keeps it.
use Rattle.std.proofs.Common.{◌≡◌, ◌≢◌, ℕ, ◌+◌, true, false, List, [], ◌∷◌, ◌++◌, Option, refl, ap, ◌∙◌, subst, arith}
use Rattle.std.specs.Prelude.{slice_index_or, not}
use Rattle.std.proofs.lemmas.Bool.{not_from_true}
use Rattle.std.specs.declared.num.NonZeroU32.{NonZeroU32}
use Rattle.daachorse_core.specs.Outputs.{number}
use Rattle.daachorse_model.specs.Outputs.{IsChain}
use Rattle.daachorse_model.proofs.Suffixes.{size-push}
use Rattle.daachorse_search.specs.Views.{HasFirst}
use Rattle.daachorse_search.proofs.BestScanLaws.{steady_of}
use Rattle.daachorse_streams.proofs.ScanLaws.{mark_within, mark_tells, new_best, at_root, none_stays, best_stays}
use Rattle.daachorse_streams.proofs.scan.advance.Given as given
use Rattle.daachorse_streams.proofs.scan.advance.Goals as goal
use Rattle.daachorse_streams.proofs.scan.advance.Goals.{In_default}

pub bounds-marks-state : goal.bounds-marks-state
bounds-marks-state g c = mark_within (g.A.Automaton.sees c.args.automaton.now) c.args.marks.now c.requires.marks c.step-state.result.0 c.step-state.ensures.reached

pub bounds-marks-state-2 : goal.bounds-marks-state-2
bounds-marks-state-2 g c = mark_within (g.A.Automaton.sees c.args.automaton.now) c.args.marks.now c.requires.marks c.step-state.result.0 c.step-state.ensures.reached

pub returns-then-is_root-clause-scan : goal.returns-then-is_root-clause-scan
returns-then-is_root-clause-scan g c from w behind is =
    let view = g.A.Automaton.sees c.args.automaton.now in
    at_root g.A.Unit.EdgeLabel.width g.met.A.Unit.EdgeLabel.wide view c.requires.kind is c.requires.open (g.A.Unit.EdgeLabel.unit c.args.unit) c.step-state.result.0 (c.args.scan.now.place + c.num_bytes.result)
    c.step-state.ensures.reached (λ x steady. c.step-state.ensures.leftmost c.requires.kind x steady) (omega arith) (c.if-is_root.ensures.0 refl) c.is_some-scan.result c.is_some-scan.ensures

pub returns-in-Some-clause-scan : goal.returns-in-Some-clause-scan
returns-in-Some-clause-scan g c from w behind is =
    let view = g.A.Automaton.sees c.args.automaton.now in let width = g.A.Unit.EdgeLabel.width in let u : ℕ = g.A.Unit.EdgeLabel.unit c.args.unit in
    let state = c.step-state.result.0 in let reached = c.step-state.ensures.reached in
    let going : view.text state ≢ [] = λ e. let bad = c.if-is_root.ensures.1 e in cc in
    let F : Option NonZeroU32 → Type 0 = λ p. HasFirst width view state p in
    let steps = c.step-state.ensures.leftmost c.requires.kind w (is.steady c.requires.open) in
    new_best width g.met.A.Unit.EdgeLabel.wide view c.requires.kind from (w ++ u ∷ []) state (c.args.scan.now.place + c.num_bytes.result) c.in-Some.position (not (slice_index_or c.args.marks.now state false)) reached
    (omega (arith, is.place, c.num_bytes.ensures, size-push width w u)) (steady_of view.content w (view.text state) u steps going) (subst F c.in-Some.is c.step-state.ensures.output) (mark_tells view c.args.marks.now c.requires.marks state reached)

-- without an output
record Keeps (g : given.Over) (c : In_default g) : Type 0 where
  chain : IsChain g.A.Unit.EdgeLabel.width (g.A.Automaton.sees c.args.automaton.now).content (g.A.Automaton.sees c.args.automaton.now).dead ((g.A.Automaton.sees c.args.automaton.now).text c.step-state.result.0) []
  going : (g.A.Automaton.sees c.args.automaton.now).text c.step-state.result.0 ≢ []

keeps : (g : given.Over) (c : In_default g) → Keeps g c
keeps g c =
    let view = g.A.Automaton.sees c.args.automaton.now in
    let C : List (g.row.V.Denot × ℕ) → Type 0 = λ l. IsChain g.A.Unit.EdgeLabel.width view.content view.dead (view.text c.step-state.result.0) l in
    record {
      chain = subst C (ap (λ p. view.outputs (number p)) c.in_default.is ∙ (g.met.A.Automaton.no_output c.args.automaton.now).1) c.step-state.ensures.output.chain;
      going = λ e. (let bad = c.if-is_root.ensures.1 e in cc);
    }

pub returns-then-is_none-clause-scan : goal.returns-then-is_none-clause-scan
returns-then-is_none-clause-scan g c from w behind is =
    let view = g.A.Automaton.sees c.args.automaton.now in let on = keeps g (goal.at.returns-then-is_none-clause-scan g c).In_default in
    none_stays g.A.Unit.EdgeLabel.width g.met.A.Unit.EdgeLabel.wide view c.requires.kind is c.requires.open (g.A.Unit.EdgeLabel.unit c.args.unit) c.step-state.result.0 (c.args.scan.now.place + c.num_bytes.result)
    c.step-state.ensures.reached (λ x steady. c.step-state.ensures.leftmost c.requires.kind x steady) (omega arith) on.chain on.going (c.is_none.ensures ∙ not_from_true c.is_none.result c.if-is_none.true)

pub returns-clause-scan : goal.returns-clause-scan
returns-clause-scan g c from w behind is =
    let view = g.A.Automaton.sees c.args.automaton.now in let on = keeps g (goal.at.returns-clause-scan g c).In_default in
    let state = c.step-state.result.0 in let reached = c.step-state.ensures.reached in
    let some : not c.is_none.result ≡ true = rw c.if-is_none.false refl in
    best_stays g.A.Unit.EdgeLabel.width g.met.A.Unit.EdgeLabel.wide view c.requires.kind is c.requires.open (g.A.Unit.EdgeLabel.unit c.args.unit) state (c.args.scan.now.place + c.num_bytes.result)
    reached (λ x steady. c.step-state.ensures.leftmost c.requires.kind x steady) (omega arith) on.chain on.going (c.is_none.ensures ∙ some)
    (not (slice_index_or c.args.marks.now state false)) (mark_tells view c.args.marks.now c.requires.marks state reached)
