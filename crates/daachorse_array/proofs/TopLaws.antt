-- What a link is where nothing is near.
use Rattle.std.proofs.Common.{◌≡◌, ℕ, zero, suc, ◌<◌, ◌≤◌, ◌⊎◌, Bool, List, refl, ◌∙◌, inr, arith}
use Rattle.std.proofs.lemmas.Bool.{cond-true, cond-false, eq-eqb, ne_eqb}
use Rattle.daachorse_array.specs.Near.{top_by, root_value, or_top}

pub or_top_some : (x t : ℕ) → 0 < x → or_top x t ≡ x
or_top_some zero t lt = absurd (omega arith)
or_top_some (suc x) t lt = refl

module _ (up : ℕ → ℕ) (stops : List Bool) (n : ℕ) where
  pub top_end : (k q : ℕ) → up q ≡ n → top_by up stops n (suc k) q ≡ root_value stops n q
  top_end k q e = cond-true _ _ _ (eq-eqb (up q) n e)

  top_on : (k q : ℕ) → up q < n → top_by up stops n (suc k) q ≡ top_by up stops n k (up q)
  top_on k q lt = cond-false _ _ _ (ne_eqb (up q) n (λ e. omega arith))

  value_low : (q : ℕ) → (root_value stops n q ≡ 0) ⊎ (root_value stops n q ≡ n)
  value_low zero = grind arith
  value_low (suc q) = inr refl

  pub top_low : (k q : ℕ) → (top_by up stops n k q ≡ 0) ⊎ (top_by up stops n k q ≡ n)
  top_low zero q = inr refl
  top_low (suc k) q = grind (arith, value_low q, top_low k (up q))

  module _ (b : ℕ) (falls : (q : ℕ) → q ≤ b → q < n → (up q < q) ⊎ (up q ≡ n)) where
    same_top : (k j q : ℕ) → q < k → q < j → q < n → q ≤ b → top_by up stops n k q ≡ top_by up stops n j q
    same_top zero j q hk hj hn hb = absurd (omega (arith, hk))
    same_top (suc k) zero q hk hj hn hb = absurd (omega (arith, hj))
    same_top (suc k) (suc j) q hk hj hn hb =
        let up_falls = falls q hb hn in
        grind (arith, top_end k q, top_end j q, top_on k q, top_on j q, same_top k j (up q))

    pub top_next : (q : ℕ) → q < n → q ≤ b → up q < q → top_by up stops n (suc n) q ≡ top_by up stops n (suc n) (up q)
    top_next q hn hb h = top_on n q (omega (arith, h, hn)) ∙ same_top n (suc n) (up q) (omega (arith, h, hn)) (omega (arith, h, hn)) (omega (arith, h, hn)) (omega (arith, h, hb))
