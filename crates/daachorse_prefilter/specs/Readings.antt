-- Bytes that are read as they are make the text itself, and each byte that is folded is folded by itself.
use Rattle.std.proofs.Common.{◌≡◌, ℕ, ◌+◌, ◌-◌, ◌*◌, ◌%◌, ◌^◌, ◌<◌, ◌≤◌, ◌⊎◌, inl, inr, List, map, refl, sym, ap, ◌∙◌, arith}
use Rattle.std.specs.Prelude.{◌↔◌, bit_or}
use Rattle.std.proofs.lemmas.Bool.{cases_lt}
use Rattle.std.proofs.lemmas.Nat.{or_block}
use Rattle.std.specs.Str.{IsCharBoundary}
use Rattle.std.proofs.lemmas.List.{map-id}
use Rattle.daachorse_model.proofs.FoldLaws.{folded_unit-is}
use Rattle.daachorse_model.specs.Folding.{folded, folded_unit}

pub reads_as_it_is : (text : List ℕ) → text ≡ map (λ b. b) text
reads_as_it_is text = sym (map-id text)

pub same_as_it_is : (text : List ℕ) (place : ℕ) → IsCharBoundary text place ↔ IsCharBoundary text place
same_as_it_is text place = ((λ h. h), (λ h. h))

pub reads_folded : (text : List ℕ) → folded text ≡ map folded_unit text
reads_folded text = refl

-- the bit that tells a capital letter from its small one
pub letter_as_it_is : (b : ℕ) → bit_or (b % 256) 32 ≡ bit_or (b % 256) 32
letter_as_it_is b = refl

pub letter_folded : (b : ℕ) → bit_or (folded_unit b % 256) 32 ≡ bit_or (b % 256) 32
letter_folded b = by (cases_lt b 65) (cases_lt 90 b)
  where
    same : folded_unit b ≡ b → bit_or (folded_unit b % 256) 32 ≡ bit_or (b % 256) 32
    same e = ap (λ n. bit_or (n % 256) 32) e

    by : (b < 65) ⊎ (65 ≤ b) → (90 < b) ⊎ (b ≤ 90) → bit_or (folded_unit b % 256) 32 ≡ bit_or (b % 256) 32
    by (inl low) upper = same ((folded_unit-is b).1 low)
    by (inr from) (inl high) = same ((folded_unit-is b).2 high)
    by (inr from) (inr to) =
        let capital : b % 256 ≡ 2 * 2 ^ 5 + (b - 64) = omega arith in
        let small : (b + 32) % 256 ≡ 3 * 2 ^ 5 + (b - 64) = omega arith in
        ap (λ n. bit_or (n % 256) 32) ((folded_unit-is b).0 (from, to))
        ∙ ap (λ n. bit_or n 32) small ∙ or_block 5 3 1 (b - 64) 0 (omega arith) (omega arith)
        ∙ sym (ap (λ n. bit_or n 32) capital ∙ or_block 5 2 1 (b - 64) 0 (omega arith) (omega arith))
