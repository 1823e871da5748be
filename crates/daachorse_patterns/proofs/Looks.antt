-- A look at an element from a base: it leads there if the base is not 0, the element is one of n, and its check is right.
use Rattle.std.proofs.Common.{◌≡◌, ◌≢◌, ℕ, ◌<◌, ◌==◌, cond, Option, Some, None, inl, inr, ◌∙◌}
use Rattle.std.specs.Prelude.{nat_lt}
use Rattle.std.proofs.lemmas.Bool.{cases_eq, cases_lt, cond-true, cond-false, eq-eqb, lt-ltb, le-ltb, ne_eqb}

-- from the base b to element j, whose check k has to be c
abbrev pub look : ℕ → ℕ → ℕ → ℕ → ℕ → Option ℕ
look n b j k c = cond (b == 0) None (cond (nat_lt j n) (cond (k == c) (Some j) None) None)

pub look_some : (n b j k c : ℕ) → b ≢ 0 → j < n → k ≡ c → look n b j k c ≡ Some j
look_some n b j k c some inside same =
    cond-false (b == 0) _ _ (ne_eqb b 0 some) ∙ (cond-true (nat_lt j n) _ _ (lt-ltb j n inside) ∙ cond-true (k == c) _ _ (eq-eqb k c same))

pub look_none : (n b j k c : ℕ) → (b ≢ 0 → j < n → k ≢ c) → look n b j k c ≡ None
look_none n b j k c other = elim (cases_eq b 0) [
  | inl e ↦ cond-true (b == 0) _ _ (eq-eqb b 0 e)
  | inr some ↦ cond-false (b == 0) _ _ (ne_eqb b 0 some) ∙ elim (cases_lt j n) [
    | inl low ↦ cond-true (nat_lt j n) _ _ (lt-ltb j n low) ∙ cond-false (k == c) _ _ (ne_eqb k c (other some low))
    | inr high ↦ cond-false (nat_lt j n) _ _ (le-ltb j n high)
  ]
]
