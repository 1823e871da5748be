-- Each round puts out what is settled, and takes one unit more.
use Rattle.std.proofs.Common.{◌≡◌, inr, ℕ, ◌∷◌, ◌++◌, [], List, Option, ap, ◌∙◌, subst}
use Rattle.std.proofs.lemmas.Result.{IfErr-weaker, err_from_is_err_and, on_ok_weaker}
use Rattle.std.specs.Io.KnownBytes.{Appends}
use Rattle.daachorse_model.specs.declared.Match.{Match}
use Rattle.daachorse_model.specs.Folding.{as_read}
use Rattle.daachorse_model.specs.Matches.{standard_after}
use Rattle.daachorse_search.specs.Views.{AutomatonView}
use Rattle.daachorse_streams.proofs.GoesLaws.{
  goes-first,
  goes-fits,
  goes-more,
  goes-to-end,
  fails-settled,
  goes-within,
  refuses-finishing,
  refuses-settling,
  stops-before,
}
use Rattle.daachorse_streams.proofs.replacing_standard.replace_from.Goals as goal

-- the automaton is that of the start
as_started : {V A : Type 0} (sees : A → AutomatonView V) (width : ℕ → ℕ) {now start : A} {found : Option (Match V)} (read : List ℕ)
    → now ≡ start
    → found ≡ standard_after width (sees now).content read → found ≡ standard_after width (sees start).content read
as_started sees width {found = found} read same here = subst (λ a. found ≡ standard_after width (sees a).content read) same here

pub returns-in_err-held-clause-beginning : goal.returns-in_err-held-clause-beginning
returns-in_err-held-clause-beginning g c =
    let p = err_from_is_err_and c.from_residual.result c.from_residual.ensures.1 in
    let S = g.S.Iterator in let label = g.A.Unit.EdgeLabel in
    rw p.1 (stops-before _ _ _ _ _ S.can_next S.next_gives S.remaining _ label.unit label.form label.width
    (g.A.Automaton.sees c.args.automaton).content c.args.longest c.args.folds _ _ p.2)

pub units-init : goal.units-init
units-init g c =
    let S = g.S.Iterator in let label = g.A.Unit.EdgeLabel in
    record {
      callable = c.requires.callable;
      automaton = c.new-stepper.ensures.automaton ∙ c.new-walk.ensures.automaton;
      folds = c.new-stepper.ensures.folds;
      goes =
          goes-first _ _ _ _ _ S.can_next S.next_gives S.remaining _ label.unit label.form label.width _ _ _ _ g.met.A.Unit.EdgeLabel.wide
          (g.met.S.Source.ready c.args.source [] c.requires.may) c.new-stepper.result.read c.in_ok-held.held.items
          c.new-stepper.ensures.read c.in_ok-held.ensures.items;
    }

pub settle-requires-clause-within : goal.settle-requires-clause-within
settle-requires-clause-within g c =
    let was = c.units.invariant in
    goes-within g.met.A.Unit.EdgeLabel.wide g.met.A.Unit.AsciiFold.as_wide c.requires.longest was.goes c.matches.result
    (as_started g.A.Automaton.sees g.A.Unit.EdgeLabel.width c.units.stepper.read was.automaton c.matches.ensures)

pub settle-requires-clause-callable : goal.settle-requires-clause-callable
settle-requires-clause-callable g c = c.units.invariant.callable

pub returns-in_err-settle-clause-beginning : goal.returns-in_err-settle-clause-beginning
returns-in_err-settle-clause-beginning g c =
    let p = err_from_is_err_and c.from_residual-in_err-settle.result c.from_residual-in_err-settle.ensures.1 in
    let was = c.units.invariant in
    rw p.1 (refuses-settling g.met.A.Unit.EdgeLabel.wide g.met.A.Unit.AsciiFold.as_wide c.requires.longest was.goes c.matches.result
    (as_started g.A.Automaton.sees g.A.Unit.EdgeLabel.width c.units.stepper.read was.automaton c.matches.ensures) _ _
    c.in_err-settle.ensures.stops _ p.2)

pub next-requires : goal.next-requires
next-requires g c = c.units.invariant.goes.gave.ready.callable

pub returns-in_default-clause-whole : goal.returns-in_default-clause-whole
returns-in_default-clause-whole g c =
    let was = c.units.invariant in
    on_ok_weaker c.finish.result
    (λ out. goes-to-end g.met.A.Unit.EdgeLabel.wide g.met.A.Unit.AsciiFold.as_wide c.requires.longest was.goes c.matches.result
    (as_started g.A.Automaton.sees g.A.Unit.EdgeLabel.width c.units.stepper.read was.automaton c.matches.ensures) _ _ _
    c.in_ok-settle.ensures.whole _ _ c.in_default.ensures.steps out.0 (subst (Appends _ _) c.deref.ensures.value out.1))
    c.finish.ensures.whole

pub returns-in_default-clause-beginning : goal.returns-in_default-clause-beginning
returns-in_default-clause-beginning g c =
    let was = c.units.invariant in
    IfErr-weaker c.finish.result _ _
    (λ e out. refuses-finishing g.met.A.Unit.EdgeLabel.wide g.met.A.Unit.AsciiFold.as_wide c.requires.longest was.goes c.matches.result
    (as_started g.A.Automaton.sees g.A.Unit.EdgeLabel.width c.units.stepper.read was.automaton c.matches.ensures) _ _ _
    c.in_ok-settle.ensures.whole
    _ _ _ e c.deref.ensures.value c.in_default.ensures.steps out) c.finish.ensures.stops

pub returns-in_err-append_to-clause-beginning : goal.returns-in_err-append_to-clause-beginning
returns-in_err-append_to-clause-beginning g c =
    let p = err_from_is_err_and c.from_residual-in_err-append_to.result c.from_residual-in_err-append_to.ensures.1 in
    let was = c.units.invariant in
    rw p.1 (fails-settled g.met.A.Unit.EdgeLabel.wide g.met.A.Unit.AsciiFold.as_wide c.requires.longest was.goes c.matches.result
    (as_started g.A.Automaton.sees g.A.Unit.EdgeLabel.width c.units.stepper.read was.automaton c.matches.ensures) _ _ _
    c.in_ok-settle.ensures.whole _ (inr p.2))

pub consume-requires : goal.consume-requires
consume-requires g c =
    goes-fits g.met.A.Unit.EdgeLabel.wide g.met.A.Unit.AsciiFold.as_wide c.requires.longest c.units.invariant.goes c.in-Some.unit _
    c.in-Some.ensures.steps c.in-Some.ensures.goes

pub units-smaller : goal.units-smaller
units-smaller g c = (c.in-Some.ensures.goes.on c.units.invariant.goes.gave.ready.ends).2

pub units-preserved : goal.units-preserved
units-preserved g c =
    let was = c.units.invariant in let label = g.A.Unit.EdgeLabel in
    record {
      callable = c.in_ok-settle.ensures.callable;
      automaton = c.consume.ensures.automaton ∙ was.automaton;
      folds = c.consume.ensures.folds ∙ was.folds;
      goes =
          goes-more g.met.A.Unit.EdgeLabel.wide g.met.A.Unit.AsciiFold.as_wide c.requires.longest was.goes c.matches.result
          (as_started g.A.Automaton.sees g.A.Unit.EdgeLabel.width c.units.stepper.read was.automaton c.matches.ensures) _ _ _
          c.in_ok-settle.ensures.whole
          c.in-Some.unit _ _ _ c.in-Some.ensures.steps c.in-Some.ensures.goes
          (g.met.A.Unit.EdgeLabel.sized c.in-Some.unit c.in_range.ensures)
          (c.consume.ensures.read ∙ ap (λ b. c.units.stepper.read ++ as_read b (label.unit c.in-Some.unit ∷ [])) was.folds)
          c.in_ok-append_to.ensures;
    }
