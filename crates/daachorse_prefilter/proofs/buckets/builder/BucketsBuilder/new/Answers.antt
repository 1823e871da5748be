-- All bits of the entries and of the mask are 1.
use Rattle.std.proofs.Common.{ℕ, length, ap, ◌∙◌, arith}
use Rattle.std.specs.Prelude.{slice_index}
use Rattle.std.proofs.lemmas.Bool.{or_from}
use Rattle.std.proofs.lemmas.List.{get_or-replicate, length-replicate}
use Rattle.daachorse_model.specs.Filter.{is_clear}
use Rattle.daachorse_prefilter.proofs.ClearBits.{is_clear_mask}
use Rattle.daachorse_prefilter.proofs.BucketMarks.{closed_at}
use Rattle.daachorse_prefilter.proofs.buckets.builder.BucketsBuilder.new.Goals as goal

pub returns-clause-none : goal.returns-clause-none
returns-clause-none g c = λ y i h within.
    let items = c.in_ok-from_elem.ensures.items_if_clones_equal (λ y e. e) in
    closed_at c.in_ok-from_elem.field-0.items 18446744073709551615 y i (omega (arith, h, ap length items, length-replicate {A = ℕ} 8192 18446744073709551615))
    ∙ or_from _ _ (ap (λ xs. is_clear (slice_index xs y) i) items ∙ ap (λ n. is_clear n i) (get_or-replicate 8192 y 18446744073709551615 0 h) ∙ is_clear_mask 64 i within) (is_clear_mask 64 i within)
