-- The element's child ends the step, and without one the root does if the look is at the root or at a dead link; else the link is told. In valid parts child and link are those of the dictionary.
use Rattle.std.proofs.Common.{◌≢◌, ◌<◌, ◌/◌, ◌∙◌, ap, arith, cond, length, sym}
use Rattle.daachorse_core.specs.declared.turns.Look.TheVariants.{Next, Fail}
use Rattle.daachorse_array.proofs.MachineLaws.{Reached-root, first-output, turn-dead, turn-link, turn-next, turn-root}
use Rattle.daachorse_bytewise_states.proofs.ByteLaws.{gives_label}
use Rattle.daachorse_bytewise_states.proofs.ViewLaws.{seen_alive, seen_base, seen_by, seen_child, seen_entry, seen_inside, seen_link, seen_machine}
use Rattle.daachorse_bytewise_states.proofs.view.ViewAutomaton.turn.Goals.{else-are_leftmost-via-then-are_leftmost+else-link-eq-DEAD_STATE_IDX, else-are_leftmost-via-else-are_leftmost}
use Rattle.daachorse_bytewise_states.proofs.view.ViewAutomaton.turn.Goals as goal

pub from_root-requires : goal.from_root-requires
from_root-requires g c standard = c.self.invariant.size_beside ∙ ap (λ b. cond b (length c.self.inside.states.now) 256) standard

-- by the table of the root
pub returns-in-Some-clause-once : goal.returns-in-Some-clause-once
returns-in-Some-clause-once g c =
    let seen = seen_by c.self.view_is c.self.invariant in
    let entry = seen_entry seen c.in-Some.ensures.0 c.args.state c.args.label (c.in-Some.child, c.in-Some.word) c.requires (omega arith) c.if-state-eq-ROOT_STATE_IDX.true c.in-Some.ensures.1 c.position_in.result c.position_in.ensures in
    entry.0

pub returns-in-Some-clause-look : goal.returns-in-Some-clause-look
returns-in-Some-clause-look g c = gives_label c.args.self.now c.args.state c.args.label (Next c.in-Some.child c.position_in.result) (returns-in-Some-clause-once g c)

pub returns-in-Some-clause-output : goal.returns-in-Some-clause-output
returns-in-Some-clause-output g c = λ unit same.
    let seen = seen_by c.self.view_is c.self.invariant in
    let entry = seen_entry seen c.in-Some.ensures.0 c.args.state c.args.label (c.in-Some.child, c.in-Some.word) c.requires (omega arith) c.if-state-eq-ROOT_STATE_IDX.true c.in-Some.ensures.1 c.position_in.result c.position_in.ensures in
    first-output _ _ _ _ _ (seen_machine seen) c.in-Some.child c.position_in.result entry.0.0 entry.1

pub bounds-states-state : goal.bounds-states-state
bounds-states-state g c = seen_inside (seen_by c.self.view_is c.self.invariant) c.args.state c.requires

pub offset_bounds-states-state : goal.offset_bounds-states-state
offset_bounds-states-state g c = omega (arith, seen_inside (seen_by c.self.view_is c.self.invariant) c.args.state c.requires)

pub child_and_word-requires-clause-inside : goal.child_and_word-requires-clause-inside
child_and_word-requires-clause-inside g c = seen_base (seen_by c.self.view_is c.self.invariant) _ c.args.state c.index-states-state.is c.requires

-- by the element's own child
pub returns-in-Some-child_and_word-clause-once :
    goal.returns-in-Some-child_and_word-clause-once
returns-in-Some-child_and_word-clause-once g c =
    let seen = seen_by c.self.view_is c.self.invariant in
    let at = c.in-Some-child_and_word in
    let next = seen_child seen _ c.args.state c.index-states-state.is c.requires c.args.label ∙ at.ensures.0 in
    turn-next _ _ _ _ _ (seen_machine seen) c.args.state c.args.label at.child c.requires next c.position_in-in-Some-child_and_word.result

pub returns-in-Some-child_and_word-clause-look :
    goal.returns-in-Some-child_and_word-clause-look
returns-in-Some-child_and_word-clause-look g c =
    gives_label c.args.self.now c.args.state c.args.label (Next c.in-Some-child_and_word.child c.position_in-in-Some-child_and_word.result) (returns-in-Some-child_and_word-clause-once g c)

pub returns-in-Some-child_and_word-clause-output :
    goal.returns-in-Some-child_and_word-clause-output
returns-in-Some-child_and_word-clause-output g c = λ unit same.
    let seen = seen_by c.self.view_is c.self.invariant in
    let at = c.in-Some-child_and_word in
    let reached = (returns-in-Some-child_and_word-clause-once g c).0 in
    first-output _ _ _ _ _ (seen_machine seen) at.child c.position_in-in-Some-child_and_word.result reached (seen.output at.child _ (seen_inside seen at.child reached) ∙ (sym (ap (λ w. w / 256) at.ensures.1) ∙ sym c.position_in-in-Some-child_and_word.ensures))

pub returns-then-state-eq-ROOT_STATE_IDX-2-clause-once :
    goal.returns-then-state-eq-ROOT_STATE_IDX-2-clause-once
returns-then-state-eq-ROOT_STATE_IDX-2-clause-once g c =
    let seen = seen_by c.self.view_is c.self.invariant in
    let none = seen_child seen _ c.args.state c.index-states-state.is c.requires c.args.label ∙ c.in_default-child_and_word.ensures in
    turn-root _ _ _ _ _ (seen_machine seen) c.args.state c.args.label c.requires none c.if-state-eq-ROOT_STATE_IDX-2.true c.output_pos.result

pub returns-then-state-eq-ROOT_STATE_IDX-2-clause-look :
    goal.returns-then-state-eq-ROOT_STATE_IDX-2-clause-look
returns-then-state-eq-ROOT_STATE_IDX-2-clause-look g c =
    gives_label c.args.self.now c.args.state c.args.label (Next 0 c.output_pos.result) (returns-then-state-eq-ROOT_STATE_IDX-2-clause-once g c)

pub link-link-requires : goal.link-link-requires
link-link-requires g c left =
    let size = c.self.invariant.size_beside ∙ ap (λ b. cond b (length c.self.inside.states.now) 256) left in
    let inside = seen_inside (seen_by c.self.view_is c.self.invariant) c.args.state c.requires in
    let all : c.args.state < length c.self.inside.beside.now = omega (arith, inside, size) in
    all

-- the root is a state
pub output_pos-requires-then-link-eq-DEAD_STATE_IDX :
    goal.output_pos-requires-then-link-eq-DEAD_STATE_IDX
output_pos-requires-then-link-eq-DEAD_STATE_IDX g c = Reached-root _ _ _ _ _ (seen_machine (seen_by c.self.view_is c.self.invariant))

pub returns-then-link-eq-DEAD_STATE_IDX-clause-once :
    goal.returns-then-link-eq-DEAD_STATE_IDX-clause-once
returns-then-link-eq-DEAD_STATE_IDX-clause-once g c =
    let seen = seen_by c.self.view_is c.self.invariant in
    let none = seen_child seen _ c.args.state c.index-states-state.is c.requires c.args.label ∙ c.in_default-child_and_word.ensures in
    let link = seen_link seen _ c.args.state c.index-states-state.is c.requires ∙ (sym c.link-link.ensures ∙ c.if-link-eq-DEAD_STATE_IDX.true) in
    turn-dead _ _ _ _ _ (seen_machine seen) c.args.state c.args.label c.requires none c.if-state-eq-ROOT_STATE_IDX-2.false link c.output_pos-then-link-eq-DEAD_STATE_IDX.result

pub returns-then-link-eq-DEAD_STATE_IDX-clause-look :
    goal.returns-then-link-eq-DEAD_STATE_IDX-clause-look
returns-then-link-eq-DEAD_STATE_IDX-clause-look g c =
    gives_label c.args.self.now c.args.state c.args.label (Next 0 c.output_pos-then-link-eq-DEAD_STATE_IDX.result) (returns-then-link-eq-DEAD_STATE_IDX-clause-once g c)

-- the link was seen not to be dead, or the searches are standard
pub returns-clause-once : goal.returns-clause-once
returns-clause-once g c =
    let seen = seen_by c.self.view_is c.self.invariant in
    let none = seen_child seen _ c.args.state c.index-states-state.is c.requires c.args.label ∙ c.in_default-child_and_word.ensures in
    let to = c.link-link.result in
    let link = seen_link seen _ c.args.state c.index-states-state.is c.requires ∙ sym c.link-link.ensures in
    let live : to ≢ 1 = elim c.else-are_leftmost.branch [
      | else-are_leftmost-via-then-are_leftmost+else-link-eq-DEAD_STATE_IDX w ↦ w.if-link-eq-DEAD_STATE_IDX.false
      | else-are_leftmost-via-else-are_leftmost w ↦ seen_alive seen (sym c.are_leftmost.ensures ∙ w.if-are_leftmost.false) c.args.state to c.requires c.if-state-eq-ROOT_STATE_IDX-2.false link
    ] in
    turn-link _ _ _ _ _ (seen_machine seen) c.args.state c.args.label to c.requires none c.if-state-eq-ROOT_STATE_IDX-2.false link live

pub returns-clause-look : goal.returns-clause-look
returns-clause-look g c = gives_label c.args.self.now c.args.state c.args.label (Fail c.link-link.result) (returns-clause-once g c)
