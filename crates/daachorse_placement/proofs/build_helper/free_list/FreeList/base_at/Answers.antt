-- The base lies within the array, and where a test fails, that test is what no base at this element can meet.
use Rattle.std.proofs.Common.{◌≡◌, ◌<◌, ℕ, bit_xor, sym, ◌∙◌, subst}
use Rattle.std.proofs.lemmas.Bool.{true≢false}
use Rattle.daachorse_placement.specs.FreeLists.{element_count}
use Rattle.daachorse_placement.specs.Placement.{label_of}
use Rattle.daachorse_placement.proofs.FreeListLaws.{child_inside}
use Rattle.daachorse_placement.proofs.build_helper.free_list.FreeList.base_at.Goals as goal
use Rattle.daachorse_placement.proofs.build_helper.free_list.FreeList.base_at.Goals.{else-base-ne0-via-then-base-ne0+then-not-is_used_base+else-fits, else-base-ne0-via-then-base-ne0+else-not-is_used_base, else-base-ne0-via-else-base-ne0}

pub is_used_base-requires-clause-inside : goal.is_used_base-requires-clause-inside
is_used_base-requires-clause-inside g c = child_inside c.args.self.now c.args.idx _ c.requires.whole c.requires.inside (c.requires.labels 0 c.requires.some)

pub fits-requires-clause-inside : goal.fits-requires-clause-inside
fits-requires-clause-inside g c = child_inside c.args.self.now c.args.idx _ c.requires.whole c.requires.inside (c.requires.labels 0 c.requires.some)

pub returns-then-fits-clause-inside : goal.returns-then-fits-clause-inside
returns-then-fits-clause-inside g c = λ base e.
    let inside = child_inside c.args.self.now c.args.idx (label_of c.args.children.now 0) c.requires.whole c.requires.inside (c.requires.labels 0 c.requires.some) in
    let same : bit_xor c.args.idx (label_of c.args.children.now 0) ≡ base = cc in
    subst (λ (m : ℕ). m < element_count c.args.self.now) same inside

pub returns-else-base-ne0-clause-none : goal.returns-else-base-ne0-clause-none
returns-else-base-ne0-clause-none g c = λ _ has. elim c.else-base-ne0.branch [
  | else-base-ne0-via-then-base-ne0+then-not-is_used_base+else-fits w ↦ true≢false (sym (w.fits.ensures.no has.fits) ∙ w.if-fits.false)
  | else-base-ne0-via-then-base-ne0+else-not-is_used_base w ↦ true≢false (sym w.if-not-is_used_base.false ∙ (w.is_used_base.ensures ∙ has.free))
  | else-base-ne0-via-else-base-ne0 w ↦ has.nonzero w.if-base-ne0.false
]
