-- How the starts of the children are found, and that the children stand there.
use Rattle.std.proofs.Common.{◌≡◌, ℕ, suc, ◌+◌, ◌<◌, ◌≤◌, ◌++◌, ◌∷◌, [], List, length, sym, ◌∙◌, inl, inr, arith, get_or}
use Rattle.std.proofs.lemmas.List.{get_or_push, get_or_append_left}
use Rattle.std.proofs.lemmas.Bool.{cases_eq}
use Rattle.daachorse_array.specs.Ranks.{AreStarts, AreStartsTo}

module _ (parents starts : List ℕ) (s m : ℕ) (e : length starts ≡ s) (to : AreStartsTo parents starts s) (pos : 0 < m)
    (most : m ≤ length parents)
    (past : (k : ℕ) → 0 < k → k < m → get_or parents k 0 < s) (rest : (k : ℕ) → m ≤ k → k < length parents → s ≤ get_or parents k 0) where
  old : (p : ℕ) → p < s → get_or (starts ++ m ∷ []) p 0 ≡ get_or starts p 0
  old p lt = get_or_append_left starts (m ∷ []) 0 p (omega (arith, lt, e))

  new : (p : ℕ) → p ≡ s → get_or (starts ++ m ∷ []) p 0 ≡ m
  new p h = get_or_push starts m 0 p (e ∙ sym h)

  split : (p : ℕ) → p < suc s → (P : Type 0) → (p < s → P) → (p ≡ s → P) → P
  split p lt P a b = elim (cases_eq p s) [ inl h ↦ b h | inr h ↦ a (omega (arith, h, lt)) ]

  -- one start more
  pub starts_push : AreStartsTo parents (starts ++ m ∷ []) (suc s)
  starts_push = record {
    least = λ p lt. split p lt _ (λ h. omega (arith, old p h, to.least p h)) (λ h. omega (arith, new p h, pos));
    most = λ p lt. split p lt _ (λ h. omega (arith, old p h, to.most p h)) (λ h. omega (arith, new p h, most));
    before = λ p k lt low high. split p lt _ (λ h. to.before p k h low (omega (arith, old p h, high)))
        (λ h. omega (arith, h, past k low (omega (arith, new p h, high))));
    after = λ p k lt low high. split p lt _ (λ h. to.after p k h (omega (arith, old p h, low)) high)
        (λ h. omega (arith, h, rest k (omega (arith, new p h, low)) high));
  }

module _ (parents starts : List ℕ) (are : AreStarts parents starts) (p : ℕ) (within : p < length parents) where
  -- the children of p stand from its start to the next
  pub is_child : (m : ℕ) → get_or starts p 0 ≤ m → m < get_or starts (p + 1) 0 → (0 < m) × (m < length parents) × (get_or parents m 0 ≡ p)
  is_child m low high =
      let pos : 0 < m = omega (arith, are.to.least p (omega (arith, within)), low) in
      let lt : m < length parents = omega (arith, are.to.most (p + 1) (omega (arith, within)), high) in
      (pos, lt, omega (arith, are.to.before (p + 1) m (omega (arith, within)) pos high, are.to.after p m (omega (arith, within)) low lt))

  pub not_before : (m : ℕ) → 0 < m → m < get_or starts p 0 → get_or parents m 0 ≡ p → ⊥
  not_before m pos lt e = omega (arith, are.to.before p m (omega (arith, within)) pos lt, e)

  pub not_after : (m : ℕ) → get_or starts (p + 1) 0 ≤ m → m < length parents → get_or parents m 0 ≡ p → ⊥
  not_after m le lt e = omega (arith, are.to.after (p + 1) m (omega (arith, within)) le lt, e)
