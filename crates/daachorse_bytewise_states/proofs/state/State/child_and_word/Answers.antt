-- A base and a byte lead, by exclusive or, to an element of the base's own block, and blocks are whole, so there is one; it is the child just where its check is the byte.
use Rattle.std.proofs.Common.{◌≡◌, ◌≢◌, ◌<◌, ◌∙◌, ap, bit_xor, length, slice_index_or, sym, arith}
use Rattle.std.proofs.lemmas.List.{get_or_default}
use Rattle.daachorse_bytewise_states.specs.Elements.{base_in, check_in, word_in}
use Rattle.daachorse_array.proofs.ChildLaws.{child_at-some}
use Rattle.daachorse_bytewise_states.proofs.ChildLaws.{moved_inside}
use Rattle.daachorse_bytewise_states.proofs.state.State.child_and_word.Goals as goal

pub offset_bounds-states-child : goal.offset_bounds-states-child
offset_bounds-states-child g c =
    let base : c.get.result < length c.args.states.now = omega arith in
    let moved = moved_inside (length c.args.states.now) c.get.result c.from.result c.requires.blocks base (omega arith) in
    omega (arith, moved)

pub bounds-states-child : goal.bounds-states-child
bounds-states-child g c =
    let base : c.get.result < length c.args.states.now = omega arith in
    moved_inside (length c.args.states.now) c.get.result c.from.result c.requires.blocks base (omega arith)

pub returns-then-check-label : goal.returns-then-check-label
returns-then-check-label g c =
    let states = c.args.states.now in
    let inside : c.get.result < length states = omega arith in
    let moved = moved_inside (length states) c.get.result c.from.result c.requires.blocks inside (omega arith) in
    let base : base_in c.args.self.now ≡ c.get.result = omega arith in
    let some : base_in c.args.self.now ≢ 0 = omega arith in
    let at : bit_xor (base_in c.args.self.now) c.args.label ≡ bit_xor c.get.result c.from.result = cc in
    let read : slice_index_or states (bit_xor c.get.result c.from.result) c.args.self.now ≡ c.index-states-child.result = get_or_default states _ c.args.self.now c.index-states-child.result moved ∙ sym c.index-states-child.is in (
      child_at-some (length states) c.args.label (base_in c.args.self.now) c.args.label (bit_xor c.get.result c.from.result) (λ i. check_in (slice_index_or states i c.args.self.now)) some at moved (ap check_in read ∙ (sym c.check.ensures ∙ c.if-check-label.true)),
      c.word.ensures ∙ sym (ap word_in read),
    )
