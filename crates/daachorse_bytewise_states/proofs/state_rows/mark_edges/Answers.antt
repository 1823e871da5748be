-- The check of one element more is marked where it leads to a marked base.
use Rattle.std.proofs.Common.{◌≡◌, Bool, bit_xor, sym, subst}
use Rattle.std.specs.Prelude.{slice_index_or}
use Rattle.daachorse_bytewise_states.proofs.EdgeByteLaws.{MarksEdges-more, MarksEdges-skip}
use Rattle.daachorse_bytewise_states.proofs.state_rows.mark_edges.Goals.{then-index, else-index}
use Rattle.daachorse_bytewise_states.proofs.state_rows.mark_edges.Goals as goal

pub loop-element-preserved : goal.loop-element-preserved
loop-element-preserved g c =
    let p = c.args.elements.now in let bases = c.args.bases.now.items in let element = c.loop-element.element in let check = c.check_at-check in
    elim c.if-index.branch [
      | then-index w ↦ rw w.marks-is (MarksEdges-more p bases element c.loop-element.marks.items c.loop-element.invariant check.result (sym check.ensures.value) check.type_inv)
      | else-index w ↦
          let P : Bool → Type 0 = λ x. x ≡ slice_index_or bases (bit_xor element check.result) x in
          rw w.marks-is (MarksEdges-skip p bases element c.loop-element.marks.items c.loop-element.invariant check.result (sym check.ensures.value) (sym (subst P w.if-index.false c.index.ensures)))
    ]
