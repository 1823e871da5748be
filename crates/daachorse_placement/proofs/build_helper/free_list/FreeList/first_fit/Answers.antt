-- The element at hand gives the first fit, or the next vacant one is tried.
use Rattle.std.proofs.Common.{◌≡◌, ℕ, arith, sym, ◌∙◌, subst}
use Rattle.daachorse_placement.specs.FreeLists.{IsFirstFit, boundary_of, element_count}
use Rattle.daachorse_placement.proofs.FreeListLaws.{first_here, none_more, count_kept, boundary_kept, flags_chain, used_kept}
use Rattle.daachorse_placement.proofs.build_helper.free_list.FreeList.first_fit.Goals as goal

pub returns-in-Some-clause-found : goal.returns-in-Some-clause-found
returns-in-Some-clause-found g c =
    let inv = c.loop-idx.invariant in
    let h = c.base_at.ensures.found c.in-Some.base c.in-Some.is in
    subst (λ (m : ℕ). IsFirstFit c.args.self.now c.args.children.now m) (sym h.0)
    (first_here c.args.self.now c.loop-idx.self c.args.children.now c.loop-idx.idx inv.whole c.requires.labels c.requires.some inv.kept (omega arith) inv.searched inv.none h.1)

pub loop-idx-smaller : goal.loop-idx-smaller
loop-idx-smaller g c =
    let n = count_kept c.loop-idx.self c.link.new.self c.link.ensures.kept in omega arith

pub loop-idx-preserved : goal.loop-idx-preserved
loop-idx-preserved g c =
    let inv = c.loop-idx.invariant in
    let a = c.loop-idx.self in
    let b = c.link.new.self in
    let kept = c.link.ensures.kept in
    let n : element_count b ≡ element_count a = count_kept a b kept in
    let bound : boundary_of b ≡ boundary_of a = boundary_kept a b kept in
    record {
      whole = c.link.ensures.whole;
      kept = flags_chain c.args.self.now a b inv.kept kept;
      inside = omega arith;
      searched = omega arith;
      vacant = λ lt. used_kept a b _ kept ∙ c.after-next.ensures.vacant (omega arith);
      none = none_more c.args.self.now a c.args.children.now c.loop-idx.idx _ inv.kept inv.none (c.base_at.ensures.none c.in_default.is) c.after-next.ensures.used;
    }
