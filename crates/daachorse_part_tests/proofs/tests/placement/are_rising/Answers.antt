-- One group more rises; groups that rise may be placed.
use Rattle.std.proofs.Common.{◌≡◌, ◌+◌, ◌<◌, ◌≤◌, ℕ, List, length, arith, subst, sym, ◌∙◌}
use Rattle.std.proofs.lemmas.Bool.Decides.{nat_tests}
use Rattle.daachorse_placement.specs.Placement.{children_of, group_parent}
use Rattle.daachorse_part_tests.specs.Rising.{AreRising, RiseTo}
use Rattle.daachorse_placement.proofs.PlaceStart.{children_at, parent_at}
use Rattle.daachorse_part_tests.proofs.RisingLaws.{rise_more, rising_groups}
use Rattle.daachorse_part_tests.proofs.tests.placement.are_rising.Goals as goal

pub loop-group-preserved : goal.loop-group-preserved
loop-group-preserved c =
    let gs = c.args.groups.now in
    let i = c.loop-group.group-index in
    let inv = c.loop-group.invariant in
    let inside : i < length gs = omega arith in
    let e : children_of gs i ≡ c.as_slice.result.now = children_at gs i c.group-item.result inside c.group-item.is ∙ sym c.as_slice.ensures.value in
    let p : group_parent gs i ≡ c.group-item.result.parent = parent_at gs i c.group-item.result inside c.group-item.is in
    let here : AreRising (children_of gs i) (length (children_of gs i)) c.args.block_len c.loop-group.id_from c.in-Some.next =
    subst (λ (cs : List (ℕ × ℕ)). AreRising cs (length cs) c.args.block_len c.loop-group.id_from c.in-Some.next) (sym e) c.in-Some.ensures in
    let some : 0 < length (children_of gs i) = subst (λ (cs : List (ℕ × ℕ)). 0 < length cs) (sym e) (grind (arith, nat_tests, c.if-is_empty.ensures, c.as_slice.ensures.len)) in
    record {
      rising = subst (λ (n : ℕ). RiseTo gs (i + 1) c.args.block_len (n + 1) c.in-Some.next) p
          (rise_more gs i c.args.block_len c.loop-group.parent_from c.loop-group.id_from c.in-Some.next inv.rising inv.two (omega arith) some here);
      two = let h = here.grows in omega arith;
    }

pub returns-then-parent_from-num_nfa_states : goal.returns-then-parent_from-num_nfa_states
returns-then-parent_from-num_nfa_states c = λ t.
    let gs = c.args.groups.now in
    let end : c.loop-group.group-index ≡ length gs = omega arith in
    let ids : c.loop-group.id_from ≤ c.args.num_nfa_states = grind (arith, nat_tests, t) in
    rising_groups gs c.args.block_len c.loop-group.parent_from c.loop-group.id_from c.args.num_nfa_states
    (subst (λ (n : ℕ). RiseTo gs n c.args.block_len c.loop-group.parent_from c.loop-group.id_from) end c.loop-group.invariant.rising) (omega arith) ids
