-- Each block is filled behind those before it.
use Rattle.std.proofs.Common.{ℕ, subst, arith}
use Rattle.daachorse_bytewise_states.specs.Writing.{HasVacants}
use Rattle.daachorse_bytewise_states.proofs.WritingLaws.{Found, blocks-more, found-is}
use Rattle.daachorse_bytewise_states.proofs.packing.vacant_elements.Goals as goal

pub loop-block-preserved : goal.loop-block-preserved
loop-block-preserved g c =
    let l = c.args.helper.now in let q = c.loop-block.block in let was = c.loop-block.invariant in
    let unused = c.unused_base_in_block.result in
    let old = c.loop-block.elements.items in let new = c.push_block.new.elements.items in
    let P : ℕ → Type 0 = λ u. HasVacants 256 u old new in
    let more = subst P c.unwrap_or-unused_base.ensures c.in_ok-push_block.ensures.block in
    let B : ℕ → Type 0 = λ n. Found l.marks n q unused in
    record {
      size = omega (arith, more.size, was.size);
      vacant = blocks-more l q unused old new (subst B c.requires.block (found-is l.marks l.block q unused c.unused_base_in_block.ensures.found c.unused_base_in_block.ensures.taken)) was.size was.vacant more;
    }
