-- Each entry has joined the mask.
use Rattle.std.proofs.Common.{◌≡◌, ℕ, List, length, drop, map, sym, ap, ◌∙◌, arith}
use Rattle.std.specs.Prelude.{bit_and, slice_index}
use Rattle.std.proofs.lemmas.Grind.{same_number_lists}
use Rattle.std.proofs.lemmas.List.{get_or-map, length-map, take_at}
use Rattle.daachorse_prefilter.proofs.buckets.builder.BucketsBuilder.close.Goals as goal

pub returns : goal.returns
returns g c =
    let new = c.close_entries.new.entries in let old = c.self.inside.entries.items in let mask = c.self.inside.mask in
    let value = c.deref_mut.ensures.value in let masked : List ℕ = map (λ e. bit_and e mask) old in
    let size : length c.deref_mut.result.now ≡ length old = ap length value in
    let sized : length new ≡ c.self.inside.entries.len = omega (arith, c.close_entries.ensures.sized, size, c.deref_mut.ensures.len) in
    take_at new (drop (length new) old) c.self.inside.entries.len sized
    ∙ same_number_lists new masked (omega (arith, c.close_entries.ensures.sized, size, length-map old (λ e. bit_and e mask)))
    (λ k h. c.close_entries.ensures.entries k (omega (arith, h, c.close_entries.ensures.sized)) ∙ ap (λ xs. bit_and (slice_index xs k) mask) value
    ∙ sym (get_or-map (λ e. bit_and e mask) old k 0 0 (omega (arith, h, c.close_entries.ensures.sized, size)))) ∙ c.self.view_is
