-- The element's child ends the step, and without one the root does if the look is at the root or at a dead link; else the link is told. In valid parts child and link are those of the dictionary.
use Rattle.std.proofs.Common.{◌≡◌, ◌≢◌, ◌∙◌, None, ap, rules, subst, sym}
use Rattle.daachorse_core.specs.declared.turns.Look.TheVariants.{Next, Fail}
use Rattle.daachorse_array.proofs.MachineLaws.{Reached-root, first-output, turn-dead, turn-link, turn-next, turn-root}
use Rattle.daachorse_charwise_states.specs.Elements.{element, vacant}
use Rattle.daachorse_charwise_states.specs.Parts.{output_of}
use Rattle.daachorse_charwise_states.specs.Views.{IsRootOutput}
use Rattle.daachorse_charwise_states.proofs.ViewLaws.{look_gives, view_alive, view_child, view_fail, view_inside, view_machine, view_output, view_root_output}
use Rattle.daachorse_charwise_states.proofs.view.ViewAutomaton.turn.Goals.{else-are_leftmost-via-then-are_leftmost+else-link-eq-DEAD_STATE_IDX, else-are_leftmost-via-else-are_leftmost}
use Rattle.daachorse_charwise_states.proofs.view.ViewAutomaton.turn.Goals as goal

pub bounds-self-inside-state : goal.bounds-self-inside-state
bounds-self-inside-state g c = view_inside _ _ _ c.self.view_is c.self.invariant.0 c.args.state c.requires

-- what a code leads to, with its output
pub returns-in-Some-clause-output : goal.returns-in-Some-clause-output
returns-in-Some-clause-output g c = λ unit coded.
    let machine = view_machine _ _ _ c.self.view_is c.self.invariant.0 in
    let next = view_child _ _ _ c.self.view_is c.self.invariant.0 (element 0 0 0 0) c.args.state unit c.args.code c.requires coded ∙ c.in-Some.ensures.0 in
    let reached = (turn-next _ _ _ _ _ machine c.args.state unit c.in-Some.child c.requires next c.in-Some.position).0 in
    first-output _ _ _ _ _ machine c.in-Some.child c.in-Some.position reached (view_output _ _ _ c.self.view_is c.self.invariant.0 vacant c.in-Some.child reached ∙ sym c.in-Some.ensures.1)

pub returns-in-Some-clause-once : goal.returns-in-Some-clause-once
returns-in-Some-clause-once g c = λ unit coded.
    let next = view_child _ _ _ c.self.view_is c.self.invariant.0 (element 0 0 0 0) c.args.state unit c.args.code c.requires coded ∙ c.in-Some.ensures.0 in
    turn-next _ _ _ _ _ (view_machine _ _ _ c.self.view_is c.self.invariant.0) c.args.state unit c.in-Some.child c.requires next c.in-Some.position

pub returns-in-Some-clause-look : goal.returns-in-Some-clause-look
returns-in-Some-clause-look g c = λ unit coded. look_gives c.args.self.now c.args.state unit (Next c.in-Some.child c.in-Some.position) (returns-in-Some-clause-once g c unit coded)

pub returns-then-state-eq-ROOT_STATE_IDX-clause-once :
    goal.returns-then-state-eq-ROOT_STATE_IDX-clause-once
returns-then-state-eq-ROOT_STATE_IDX-clause-once g c = λ unit coded.
    let none = view_child _ _ _ c.self.view_is c.self.invariant.0 (element 0 0 0 0) c.args.state unit c.args.code c.requires coded ∙ c.in_default.ensures in
    turn-root _ _ _ _ _ (view_machine _ _ _ c.self.view_is c.self.invariant.0) c.args.state unit c.requires none c.if-state-eq-ROOT_STATE_IDX.true c.self.inside.root_output

pub returns-then-state-eq-ROOT_STATE_IDX-clause-look :
    goal.returns-then-state-eq-ROOT_STATE_IDX-clause-look
returns-then-state-eq-ROOT_STATE_IDX-clause-look g c = λ unit coded. look_gives c.args.self.now c.args.state unit (Next 0 c.output_pos.result) (returns-then-state-eq-ROOT_STATE_IDX-clause-once g c unit coded)

pub returns-then-link-eq-DEAD_STATE_IDX-clause-once :
    goal.returns-then-link-eq-DEAD_STATE_IDX-clause-once
returns-then-link-eq-DEAD_STATE_IDX-clause-once g c = λ unit coded.
    let none = view_child _ _ _ c.self.view_is c.self.invariant.0 (element 0 0 0 0) c.args.state unit c.args.code c.requires coded ∙ c.in_default.ensures in
    let link = view_fail _ _ _ c.self.view_is c.self.invariant.0 (element 0 0 0 0) c.args.state c.requires ∙ (sym c.fail-link.ensures ∙ c.if-link-eq-DEAD_STATE_IDX.true) in
    turn-dead _ _ _ _ _ (view_machine _ _ _ c.self.view_is c.self.invariant.0) c.args.state unit c.requires none c.if-state-eq-ROOT_STATE_IDX.false link c.self.inside.root_output

pub returns-then-link-eq-DEAD_STATE_IDX-clause-look :
    goal.returns-then-link-eq-DEAD_STATE_IDX-clause-look
returns-then-link-eq-DEAD_STATE_IDX-clause-look g c = λ unit coded. look_gives c.args.self.now c.args.state unit (Next 0 c.self.inside.root_output) (returns-then-link-eq-DEAD_STATE_IDX-clause-once g c unit coded)

-- the root's first output is that of the element looked at
pub returns-then-state-eq-ROOT_STATE_IDX-clause-output :
    goal.returns-then-state-eq-ROOT_STATE_IDX-clause-output
returns-then-state-eq-ROOT_STATE_IDX-clause-output g c = λ unit coded.
    let machine = view_machine _ _ _ c.self.view_is c.self.invariant.0 in
    let root = ap (λ i. output_of c.args.self.now i) (sym c.if-state-eq-ROOT_STATE_IDX.true) in
    let read = view_output _ _ _ c.self.view_is c.self.invariant.0 (element 0 0 0 0) c.args.state c.requires ∙ sym c.output_pos.ensures in
    first-output _ _ _ _ _ machine 0 c.output_pos.result (Reached-root _ _ _ _ _ machine) (root ∙ read)

pub returns-then-is_none-clause-once : goal.returns-then-is_none-clause-once
returns-then-is_none-clause-once g c = λ unit coded.
    let none = view_child _ _ _ c.self.view_is c.self.invariant.0 (element 0 0 0 0) c.args.state unit c.args.code c.requires coded ∙ c.in_default.ensures in
    turn-root _ _ _ _ _ (view_machine _ _ _ c.self.view_is c.self.invariant.0) c.args.state unit c.requires none c.if-state-eq-ROOT_STATE_IDX.true None

pub returns-then-is_none-clause-look : goal.returns-then-is_none-clause-look
returns-then-is_none-clause-look g c = λ unit coded. look_gives c.args.self.now c.args.state unit (Next 0 None) (returns-then-is_none-clause-once g c unit coded)

-- it was read once that the root has none
pub returns-then-is_none-clause-output : goal.returns-then-is_none-clause-output
returns-then-is_none-clause-output g c = λ unit coded.
    let machine = view_machine _ _ _ c.self.view_is c.self.invariant.0 in
    let none : c.self.inside.root_output ≡ None = search rules in
    let told = subst (λ o. IsRootOutput c.self.inside.states.now o) none c.self.invariant.1 in
    first-output _ _ _ _ _ machine 0 None (Reached-root _ _ _ _ _ machine) (view_root_output _ _ _ c.self.view_is c.self.invariant.0 None told)

pub returns-then-link-eq-DEAD_STATE_IDX-clause-output :
    goal.returns-then-link-eq-DEAD_STATE_IDX-clause-output
returns-then-link-eq-DEAD_STATE_IDX-clause-output g c = λ unit coded.
    let machine = view_machine _ _ _ c.self.view_is c.self.invariant.0 in
    first-output _ _ _ _ _ machine 0 c.self.inside.root_output (Reached-root _ _ _ _ _ machine) (view_root_output _ _ _ c.self.view_is c.self.invariant.0 c.self.inside.root_output c.self.invariant.1)

-- the link was seen not to be dead, or the searches are standard
pub returns-clause-once : goal.returns-clause-once
returns-clause-once g c = λ unit coded.
    let none = view_child _ _ _ c.self.view_is c.self.invariant.0 (element 0 0 0 0) c.args.state unit c.args.code c.requires coded ∙ c.in_default.ensures in
    let link = view_fail _ _ _ c.self.view_is c.self.invariant.0 (element 0 0 0 0) c.args.state c.requires ∙ sym c.fail-link.ensures in
    let live : c.fail-link.result ≢ 1 = elim c.else-are_leftmost.branch [
      | else-are_leftmost-via-then-are_leftmost+else-link-eq-DEAD_STATE_IDX w ↦ w.if-link-eq-DEAD_STATE_IDX.false
      | else-are_leftmost-via-else-are_leftmost w ↦ view_alive _ _ _ c.self.view_is c.self.invariant.0 (sym c.are_leftmost.ensures ∙ w.if-are_leftmost.false) c.args.state c.fail-link.result c.requires c.if-state-eq-ROOT_STATE_IDX.false link
    ] in
    turn-link _ _ _ _ _ (view_machine _ _ _ c.self.view_is c.self.invariant.0) c.args.state unit c.fail-link.result c.requires none c.if-state-eq-ROOT_STATE_IDX.false link live

pub returns-clause-look : goal.returns-clause-look
returns-clause-look g c = λ unit coded. look_gives c.args.self.now c.args.state unit (Fail c.fail-link.result) (returns-clause-once g c unit coded)
