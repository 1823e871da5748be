-- A step by a listed label ends where `follow` tells, and one by a label that no key has at the root, so each slot holds the cell of the
-- state to which its label leads.
use Rattle.std.proofs.Common.{◌≡◌, ℕ, List, ◌+◌, ◌*◌, ◌/◌, ◌%◌, ◌≤◌, length, ap, subst, refl, sym, arith}
use Rattle.std.proofs.Math.Nat.{mul_assoc}
use Rattle.std.proofs.lemmas.List.{get_or_read, length-map}
use Rattle.daachorse_rows.specs.Rows.{AreLabelled, AreWritten, Listed, labelled}
use Rattle.daachorse_rows.proofs.MakingLaws.{AreWritten-next, AreWritten-push, HaveRows-chosen, slot_foreign}
use Rattle.daachorse_rows.proofs.RowLaws.{next_row}
use Rattle.daachorse_rows.proofs.making.Maker.write_row.Goals as goal

-- the state, and the slot of the labels that are not listed
pub loop-k-init : goal.loop-k-init
loop-k-init g c =
    let seen = labelled g.A.Automaton.sees g.A.Automaton.labels g.A.Label.RowLabel.number c.args.self.now in
    let order = c.args.chosen.now.order.items in
    let state = get_or_read order c.args.row c.index-state.result.now c.requires.row c.index-state.ensures 0 in
    let low = AreWritten-push g.A.Unit.EdgeLabel.width seen order c.args.row 0 1 _ c.args.top.now.items c.push.new.self.items
    c.requires.written c.in_ok-push.ensures.items (ap (λ n. n % 65536) state) refl in
    let high = AreWritten-push g.A.Unit.EdgeLabel.width seen order c.args.row 1 2 _ c.push.new.self.items c.push-2.new.self.items low
    c.in_ok-push-2.ensures.items (ap (λ n. n / 65536) state) refl in
    let entry = rw (ap (λ (p : Listed g.row.A.Denot). p.width) c.self.view_is) at c.entry.ensures in
    let foreign = slot_foreign g.A.Unit.EdgeLabel.width seen order
    (rw (← c.self.view_is) c.self.invariant) c.args.row c.entry.result c.root-root.result c.output_pos-position.result entry
    (rw (← c.self.view_is) c.output_pos-position.ensures) (rw (← c.self.view_is) c.root-root.ensures.reached)
    (rw (← c.self.view_is) c.root-root.ensures.text) in
    AreWritten-push g.A.Unit.EdgeLabel.width seen order c.args.row 2 3 c.entry.result c.push-2.new.self.items c.push-3.new.self.items high
    c.in_ok-push-3.ensures.items foreign refl

pub step_entry-entry-requires : goal.step_entry-entry-requires
step_entry-entry-requires g c = record {
  chosen = c.requires.chosen;
  row = c.requires.row;
  k = rw (← c.self.view_is) (omega (
    arith,
    c.loop-k-test.true,
    c.loop-k.auto.k-end,
    length-map c.self.inside.labels.now g.A.Label.RowLabel.number,
  ));
  written =
      let seen = labelled g.A.Automaton.sees g.A.Automaton.labels g.A.Label.RowLabel.number c.args.self.now in
      let P : List ℕ → Type 0 = λ top. AreWritten g.A.Unit.EdgeLabel.width seen c.args.chosen.now.order.items c.args.row
      (3 + c.loop-k.k) top in
      subst P (sym c.as_slice.ensures.value) c.loop-k.invariant;
}

pub loop-k-preserved : goal.loop-k-preserved
loop-k-preserved g c =
    let seen = labelled g.A.Automaton.sees g.A.Automaton.labels g.A.Label.RowLabel.number c.args.self.now in
    AreWritten-push g.A.Unit.EdgeLabel.width seen c.args.chosen.now.order.items c.args.row (3 + c.loop-k.k) (3 + (c.loop-k.k + 1))
    c.step_entry-entry.result c.loop-k.top.items c.push-in-loop-k.new.self.items c.loop-k.invariant c.in_ok-push-4.ensures.items
    c.step_entry-entry.ensures (omega arith)

pub returns : goal.returns
returns g c =
    let seen = labelled g.A.Automaton.sees g.A.Automaton.labels g.A.Label.RowLabel.number c.args.self.now in
    let width = c.args.self.now.width in
    let named : AreLabelled seen = rw (← c.self.view_is) c.self.invariant in
    let end : c.loop-k.k ≡ length seen.labels = rw (← c.self.view_is)
    (omega (arith, c.loop-k-test.false, c.loop-k.auto.k-end, length-map c.self.inside.labels.now g.A.Label.RowLabel.number)) in
    let size : length c.resize.new.self.items ≡ 2 * ((c.args.row + 1) * width) =
    rw (← c.self.view_is) (omega (
      arith,
      c.in_ok-resize.ensures.len,
      c.resize.new.self.ok.0,
      mul_assoc 2 (c.args.row + 1) c.self.inside.width,
    )) in
    let more : length c.loop-k.top.items ≤ length c.resize.new.self.items =
    omega (arith, c.loop-k.invariant.size, end, named.width, size, next_row c.args.row width) in
    AreWritten-next g.A.Unit.EdgeLabel.width seen c.args.chosen.now.order.items c.args.row
    (3 + c.loop-k.k) c.loop-k.top.items c.resize.new.self.items c.loop-k.invariant
    named.width (omega (arith, end)) size
    (λ i below. c.in_ok-resize.ensures.by_index.0 i 0 (omega (arith, below, more, c.in_ok-resize.ensures.len, c.resize.new.self.ok.0))
    (omega (arith, below, c.loop-k.top.ok.0)))

pub index-state-requires : goal.index-state-requires
index-state-requires g c = omega (arith, c.requires.row, c.args.chosen.now.order.ok.0)

pub output_pos-position-requires : goal.output_pos-position-requires
output_pos-position-requires g c = c.root-root.ensures.reached

pub entry-requires : goal.entry-requires
entry-requires g c = record {
  rows = HaveRows-chosen _ _ _ c.self.invariant (rw (← c.self.view_is) at c.requires.chosen);
  fits = c.requires.chosen.fits c.root-root.result (rw (← c.self.view_is) c.root-root.ensures.reached);
}
