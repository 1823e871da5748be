-- What a byte leads to: an element of the array whose check is the byte. Whole blocks keep it inside, and nothing past the end matters.
use Rattle.std.proofs.Common.{◌≡◌, ℕ, ◌*◌, ◌/◌, ◌%◌, ◌<◌, bit_xor, List, length, refl, sym, ap, ◌∙◌, arith, slice_index_or}
use Rattle.std.proofs.lemmas.List.{get_or_default}
use Rattle.daachorse_core.proofs.Xor.{xor_inside}
use Rattle.daachorse_array.proofs.ChildLaws.{child_at-same}
use Rattle.daachorse_bytewise_states.specs.declared.state.State.{State}
use Rattle.daachorse_bytewise_states.specs.Elements.{base_in, check_in}
use Rattle.daachorse_bytewise_states.specs.Parts.{child_by, child_among}

-- in whole blocks a byte leads from an element to an element
pub moved_inside : (n b c : ℕ) → n % 256 ≡ 0 → b < n → c < 256 → bit_xor b c < n
moved_inside n b c blocks inside byte =
    let whole : n ≡ n / 256 * 256 = omega (arith, blocks) in
    let fits : b < n / 256 * 256 = omega (arith, whole, inside) in
    let moved : bit_xor b c < n / 256 * 256 = xor_inside 256 (n / 256) b c (8, refl) byte fits in
    omega (arith, moved, whole)

-- what is read of an element and of the one that its base leads to
pub child_read : {F : Type 0} (es : List (State F)) (d s : State F) (i c : ℕ) → slice_index_or es i d ≡ s → child_by (length es) (base_in s) (λ j. check_in (slice_index_or es j s)) c ≡ child_among d es i c
child_read es d s i c is =
    child_at-same (length es) c (base_in s) c (λ j. check_in (slice_index_or es j s)) (λ j. check_in (slice_index_or es j d)) (λ j below. ap check_in (get_or_default es j s d below))
    ∙ ap (λ e. child_by (length es) (base_in e) (λ j. check_in (slice_index_or es j d)) c) (sym is)
