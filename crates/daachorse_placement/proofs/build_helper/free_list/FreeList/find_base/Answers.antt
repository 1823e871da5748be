-- The first element of a new block has a base for any children.
use Rattle.std.proofs.Common.{ℕ, bit_xor, sym, subst}
use Rattle.daachorse_placement.specs.FreeLists.{HasFlagsOf, IsPlaceFor}
use Rattle.daachorse_placement.specs.Placement.{FitInBlock, label_of}
use Rattle.daachorse_placement.proofs.FreeListLaws.{fresh_place}
use Rattle.daachorse_placement.proofs.build_helper.free_list.FreeList.find_base.Goals as goal

pub returns-clause-found : goal.returns-clause-found
returns-clause-found g c =
    let kept : HasFlagsOf c.args.self.now c.first_fit.new.self = c.first_fit.ensures.kept in
    subst (λ (m : ℕ). IsPlaceFor c.add_block.new.self c.args.children.now (bit_xor m (label_of c.args.children.now 0))) (sym c.num_elements-first.ensures)
    (fresh_place c.first_fit.new.self c.add_block.new.self c.args.children.now c.first_fit.ensures.whole (c.in_ok-add_block.ensures.ok) (c.in_ok-add_block.ensures.more) c.requires.some
    (subst (λ (m : ℕ). FitInBlock m c.args.children.now) kept.block c.requires.labels))
