-- What is near a rank.
use Rattle.std.proofs.Common.{◌≡◌, ℕ, zero, suc, ◌<◌, ◌≤◌, ◌⊎◌, List, length, Option, Some, None, refl, sym, ap, ◌∙◌, inl, inr, arith}
use Rattle.std.proofs.Common.{get_or}
use Rattle.std.proofs.lemmas.List.{get_or_past, get_or_default}
use Rattle.daachorse_array.specs.Ranks.{child, IsTrieOfRanks}
use Rattle.daachorse_array.specs.Near.{up, pick, near_by, near}
use Rattle.daachorse_array.proofs.ChildByLabel.{none_past}

-- n stands above itself
pub up_past : (fails : List ℕ) (p : ℕ) → length fails ≤ p → up fails p ≡ length fails
up_past fails zero le = refl
up_past fails (suc p) le = get_or_past fails (suc p) (length fails) le

pub up_link : (fails : List ℕ) (p : ℕ) → 0 < p → p < length fails → up fails p ≡ get_or fails p 0
up_link fails zero pos lt = absurd (omega arith)
up_link fails (suc p) pos lt = get_or_default fails (suc p) (length fails) 0 lt

pub ups_fall : (fails : List ℕ) (b : ℕ)
    → ((q : ℕ) → 0 < q → q ≤ b → q < length fails → (get_or fails q 0 < q) ⊎ (get_or fails q 0 ≡ length fails)) → (q : ℕ) → q ≤ b
    → q < length fails → (up fails q < q) ⊎ (up fails q ≡ length fails)
ups_fall fails b falls zero le lt = inr refl
ups_fall fails b falls (suc q) le lt =
    let fall = falls (suc q) (omega arith) le lt in
    grind (arith, up_link fails (suc q))

module _ (child : ℕ → ℕ → Option ℕ) (up : ℕ → ℕ) (n : ℕ) (none_at : (c : ℕ) → child n c ≡ None) (top : up n ≡ n) where
  zero_at : (k c : ℕ) → near_by child up k n c ≡ 0
  zero_at zero c = ap (λ o. pick o 0) (none_at c)
  zero_at (suc k) c = ap (λ o. pick o (near_by child up k (up n) c)) (none_at c) ∙ ap (λ x. near_by child up k x c) top ∙ zero_at k c

  -- ranks up to b have links that lead to earlier ranks
  module _ (b : ℕ) (falls : (q : ℕ) → q ≤ b → q < n → (up q < q) ⊎ (up q ≡ n)) where
    same_fuel : (k j q c : ℕ) → ((q < k) × (q < j) × (q < n) × (q ≤ b)) ⊎ (q ≡ n) → near_by child up k q c ≡ near_by child up j q c
    same_fuel k j q c (inr e) =
        ap (λ x. near_by child up k x c) e ∙ zero_at k c ∙ sym (zero_at j c) ∙ ap (λ x. near_by child up j x c) (sym e)
    same_fuel zero j q c (inl h) = absurd (omega (arith, h.0))
    same_fuel (suc k) zero q c (inl h) = absurd (omega (arith, h.1))
    same_fuel (suc k) (suc j) q c (inl h) =
        ap (λ r. pick (child q c) r) (same_fuel k j (up q) c (let fall = falls q h.3 h.2 in grind arith))

    near_law : (q c : ℕ) → q ≤ b → q < n → near_by child up (suc n) q c ≡ pick (child q c) (near_by child up (suc n) (up q) c)
    near_law q c le lt =
        ap (λ r. pick (child q c) r) (same_fuel n (suc n) (up q) c (let fall = falls q le lt in grind arith))

module _ (parents labels fails : List ℕ) (alphabet : ℕ) (trie : IsTrieOfRanks parents labels alphabet)
    (each : length fails ≡ length parents) where
  none_top : (c : ℕ) → child parents labels (length fails) c ≡ None
  none_top c = none_past parents labels alphabet trie (length fails) c (omega (arith, each))

  -- above the root nothing is near
  pub near_top : (p c : ℕ) → p ≡ length fails → near parents labels fails p c ≡ 0
  near_top p c e =
      ap (λ x. near parents labels fails x c) e ∙ zero_at (child parents labels) (up fails) (length fails) none_top
      (up_past fails (length fails) (omega arith)) (suc (length fails)) c

  -- what is near p is a child of p, or near above p
  pub near_step : (b : ℕ) → ((q : ℕ) → 0 < q → q ≤ b → q < length fails → (get_or fails q 0 < q) ⊎ (get_or fails q 0 ≡ length fails))
      → (q c : ℕ) → q ≤ b → q < length fails →
      near parents labels fails q c ≡ pick (child parents labels q c) (near parents labels fails (up fails q) c)
  near_step b falls q c le lt =
      near_law (child parents labels) (up fails) (length fails) none_top (up_past fails (length fails) (omega arith)) b
      (ups_fall fails b falls) q c le lt

  pub near_child : (b : ℕ) → ((q : ℕ) → 0 < q → q ≤ b → q < length fails → (get_or fails q 0 < q) ⊎ (get_or fails q 0 ≡ length fails))
      → (q c j : ℕ) → q ≤ b → q < length fails → child parents labels q c ≡ Some j →
      near parents labels fails q c ≡ j
  near_child b falls q c j le lt e = near_step b falls q c le lt ∙ ap (λ o. pick o (near parents labels fails (up fails q) c)) e

  pub near_other : (b : ℕ) → ((q : ℕ) → 0 < q → q ≤ b → q < length fails → (get_or fails q 0 < q) ⊎ (get_or fails q 0 ≡ length fails))
      → (q c : ℕ) → q ≤ b → q < length fails → child parents labels q c ≡ None →
      near parents labels fails q c ≡ near parents labels fails (up fails q) c
  near_other b falls q c le lt e = near_step b falls q c le lt ∙ ap (λ o. pick o (near parents labels fails (up fails q) c)) e
