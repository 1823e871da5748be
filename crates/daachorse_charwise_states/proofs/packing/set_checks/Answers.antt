-- Each group's children are given their parent's place.
use Rattle.std.proofs.Common.{◌≡◌, ◌<◌, ℕ, List, length, ◌∙◌, subst, sym, arith}
use Rattle.std.specs.Prelude.{slice_index}
use Rattle.daachorse_placement.specs.Placement.{AreIds, children_of, group_parent}
use Rattle.daachorse_placement.proofs.PlaceStart.{children_at, parent_at}
use Rattle.daachorse_charwise_states.specs.Writing.{HaveCheck, HaveChecks}
use Rattle.daachorse_charwise_states.proofs.WritingLaws.{checks_more}
use Rattle.daachorse_charwise_states.proofs.packing.set_checks.Goals as goal

pub bounds-idx_map-group : goal.bounds-idx_map-group
bounds-idx_map-group g c =
    let gs = c.args.groups.now in let m = c.loop-group.group-index in
    let low : group_parent gs m < length c.args.idx_map.now = c.requires.parents m c.loop-group-test.true in
    omega (arith, low, parent_at gs m c.group-item.result c.loop-group-test.true c.group-item.is)

pub set_check-requires-clause-ids : goal.set_check-requires-clause-ids
set_check-requires-clause-ids g c =
    let gs = c.args.groups.now in let m = c.loop-group.group-index in
    let P : List (ℕ × ℕ) → Type 0 = λ cs. AreIds (length c.args.idx_map.now) cs in
    subst P (children_at gs m c.group-item.result c.loop-group-test.true c.group-item.is ∙ sym c.deref.ensures.value) (c.requires.ids m c.loop-group-test.true)

pub loop-group-preserved : goal.loop-group-preserved
loop-group-preserved g c =
    let gs = c.args.groups.now in let m = c.loop-group.group-index in
    let idx = c.args.idx_map.now in
    let mid = c.loop-group.elements in let new = c.set_check.new.elements in
    let C : List (ℕ × ℕ) → Type 0 = λ cs. HaveCheck cs (length cs) (slice_index idx c.group-item.result.parent) idx mid new in
    let P : ℕ → Type 0 = λ p. HaveCheck (children_of gs m) (length (children_of gs m)) (slice_index idx p) idx mid new in
    let more = subst C (c.deref.ensures.value ∙ sym (children_at gs m c.group-item.result c.loop-group-test.true c.group-item.is)) c.set_check.ensures in
    record {
      checked = checks_more gs m idx c.args.elements.now mid new c.loop-group.invariant.checked c.loop-group-test.true c.requires.apart (subst P (sym (parent_at gs m c.group-item.result c.loop-group-test.true c.group-item.is)) more);
    }

pub returns : goal.returns
returns g c =
    let P : ℕ → Type 0 = λ m. HaveChecks c.args.groups.now m c.args.idx_map.now c.args.elements.now c.loop-group.elements in
    subst P (let ends : c.loop-group.group-index ≡ length c.args.groups.now = omega (arith, c.loop-group-test.false, c.loop-group.auto.group-index-end) in ends) c.loop-group.invariant.checked
