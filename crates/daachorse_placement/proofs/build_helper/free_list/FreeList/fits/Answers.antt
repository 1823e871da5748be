-- A label leads to an element; a used one does not fit.
use Rattle.std.proofs.Common.{arith, sym, ◌∙◌}
use Rattle.std.proofs.lemmas.Bool.{true≢false}
use Rattle.daachorse_placement.proofs.FreeListLaws.{child_inside}
use Rattle.daachorse_placement.proofs.build_helper.free_list.FreeList.fits.Goals as goal

pub is_used_index-requires : goal.is_used_index-requires
is_used_index-requires g c =
    child_inside c.args.self.now c.args.base _ c.requires.whole c.requires.inside (c.requires.labels c.loop-label.label-index (omega arith))

pub returns-then-is_used_index-clause-no : goal.returns-then-is_used_index-clause-no
returns-then-is_used_index-clause-no g c = λ h. let w = h c.loop-label.label-index (omega arith) in absurd (true≢false (sym c.if-is_used_index.true ∙ (c.is_used_index.ensures ∙ w)))
