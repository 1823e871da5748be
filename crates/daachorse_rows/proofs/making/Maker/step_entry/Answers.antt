-- Where the step ends as from a row before, its slot serves, and else the step ends where the links lead.
use Rattle.std.proofs.Common.{◌≡◌, ℕ, ◌+◌, ◌*◌, ◌<◌, ap, subst, refl, arith}
use Rattle.std.specs.Prelude.{slice_index}
use Rattle.daachorse_rows.specs.Rows.{IsSlot, Listed, labelled}
use Rattle.daachorse_rows.proofs.MakingLaws.{HaveRows-chosen, slot_link, slot_step}
use Rattle.daachorse_rows.proofs.making.Maker.step_entry.Goals as goal

-- the slot of the row before
pub returns-in-Some : goal.returns-in-Some
returns-in-Some g c =
    let seen = labelled g.A.Automaton.sees g.A.Automaton.labels g.A.Label.RowLabel.number c.args.self.now in let order = c.args.chosen.now.order.items in
    let width = c.args.self.now.width in let k = c.args.k in let before = c.in-Some.before in
    let at : 2 * (before * width) + (3 + k) ≡ 2 * (before * width) + 3 + k = omega arith in
    let P : ℕ → Type 0 = λ i. IsSlot g.A.Unit.EdgeLabel.width seen order c.args.row (3 + k) (slice_index c.args.top.now i) in
    let fits : 3 + k < 2 * width = rw (← c.self.view_is) (omega (arith, (rw (← c.self.view_is) at c.requires.k), c.self.invariant.width)) in
    let slot = subst P at (slot_link g.A.Unit.EdgeLabel.width seen order c.args.row before k (3 + k) _ refl (c.requires.written.rows before (3 + k) c.in-Some.ensures.0 fits) c.in-Some.ensures.1) in
    rw (ap (λ (p : Listed g.row.A.Denot). p.width) c.self.view_is) slot

pub entry-requires : goal.entry-requires
entry-requires g c = record {
  rows = HaveRows-chosen _ _ _ c.self.invariant (rw (← c.self.view_is) at c.requires.chosen);
  fits = c.requires.chosen.fits c.step-next.result.0 c.step-next.ensures.leads.is_state;
}

pub returns : goal.returns
returns g c =
    let seen = labelled g.A.Automaton.sees g.A.Automaton.labels g.A.Label.RowLabel.number c.args.self.now in let row = c.args.row in let k = c.args.k in
    let entry = rw (ap (λ (p : Listed g.row.A.Denot). p.width) c.self.view_is) at c.entry.ensures in
    slot_step g.A.Unit.EdgeLabel.width seen c.args.chosen.now.order.items row (3 + k) k c.entry.result c.step-next.result.0 c.step-next.result.1 refl entry c.step-next.ensures.output c.step-next.ensures.leads
