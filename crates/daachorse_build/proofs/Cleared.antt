-- How many own outputs the states have that are not yet done: those of the states that are done are cleared away.
use Rattle.std.proofs.Common.{◌≡◌, ℕ, zero, suc, ◌+◌, ◌<◌, ◌⊎◌, List, [], ◌∷◌, ◌++◌, length, set, Contains, refl, sym, ap, ◌∙◌, inl, inr, get_or-set_other, arith}
use Rattle.std.proofs.lemmas.List.{get_or_default, length-set}
use Rattle.std.proofs.lemmas.List.Elements.{Contains-append_right}
use Rattle.std.proofs.lemmas.List.Sums.{sum_by-le, sum_by-set}
use Rattle.daachorse_build.specs.Tables.{own_at, output_count}

module _ {V : Type 0} where
  -- the own outputs, where the states that are done have none
  abbrev pub cleared : List (List (V × ℕ)) → List ℕ → List (List (V × ℕ))
  cleared own [] = own
  cleared own (t ∷ ts) = cleared (set own t []) ts

  cleared_push : (own : List (List (V × ℕ))) (ts : List ℕ) (t : ℕ) → cleared own (ts ++ t ∷ []) ≡ set (cleared own ts) t []
  cleared_push own [] t = refl
  cleared_push own (u ∷ ts) t = cleared_push (set own u []) ts t

  length-cleared : (own : List (List (V × ℕ))) (ts : List ℕ) → length (cleared own ts) ≡ length own
  length-cleared own [] = refl
  length-cleared own (t ∷ ts) = length-cleared (set own t []) ts ∙ length-set own t []

  cleared_other : (own : List (List (V × ℕ))) (ts : List ℕ) (u : ℕ) → (Contains ts u → ⊥) → own_at (cleared own ts) u ≡ own_at own u
  cleared_other own [] u apart = refl
  cleared_other own (t ∷ ts) u apart =
      cleared_other (set own t []) ts u (λ h. apart (Contains-append_right (t ∷ []) ts u h)) ∙ get_or-set_other own t u [] [] (λ e. apart (0, omega arith, sym e))

  -- one state more is done
  pub count-cleared : (own : List (List (V × ℕ))) (ts : List ℕ) (t : ℕ) → t < length own → (Contains ts t → ⊥) → output_count (cleared own (ts ++ t ∷ [])) + length (own_at own t) ≡ output_count (cleared own ts)
  count-cleared own ts t low apart =
      let sums = sum_by-set length (cleared own ts) t [] [] (omega (arith, low, length-cleared own ts)) in
      omega (arith, sums, ap output_count (cleared_push own ts t), ap length (cleared_other own ts t apart))

  -- ---- where all that have some are done, none are left

  -- a state without outputs stays so, and one that is cleared has none
  set_none : (own : List (List (V × ℕ))) (u t : ℕ) → (u ≡ t) ⊎ (own_at own t ≡ []) → own_at (set own u []) t ≡ []
  set_none [] u t h = refl
  set_none (x ∷ own) zero zero h = refl
  set_none (x ∷ own) zero (suc t) h = elim h [ inl e ↦ absurd (omega (arith, e)) | inr none ↦ none ]
  set_none (x ∷ own) (suc u) zero h = elim h [ inl e ↦ absurd (omega (arith, e)) | inr none ↦ none ]
  set_none (x ∷ own) (suc u) (suc t) h = set_none own u t (elim h [ inl e ↦ inl (omega (arith, e)) | inr none ↦ inr none ])

  cleared_none : (own : List (List (V × ℕ))) (ts : List ℕ) (t : ℕ) → Contains ts t ⊎ (own_at own t ≡ []) → own_at (cleared own ts) t ≡ []
  cleared_none own [] t (inl done) = absurd (omega (arith, done.1))
  cleared_none own [] t (inr none) = none
  cleared_none own (u ∷ ts) t (inl (zero, low, same)) = cleared_none (set own u []) ts t (inr (set_none own u t (inl same)))
  cleared_none own (u ∷ ts) t (inl (suc k, low, is)) = cleared_none (set own u []) ts t (inl (k, omega arith, is))
  cleared_none own (u ∷ ts) t (inr none) = cleared_none (set own u []) ts t (inr (set_none own u t (inr none)))

  count_none : (own : List (List (V × ℕ))) → ((t : ℕ) → t < length own → own_at own t ≡ []) → output_count own ≡ 0
  count_none own none = omega (arith, sum_by-le length 0 own (λ k d l. omega (arith, ap length (get_or_default own k d [] l ∙ none k l))))

  pub all_cleared : (own : List (List (V × ℕ))) (ts : List ℕ) → ((t : ℕ) → t < length own → Contains ts t ⊎ (own_at own t ≡ [])) → output_count (cleared own ts) ≡ 0
  all_cleared own ts each = count_none (cleared own ts) (λ t low. cleared_none own ts t (each t (omega (arith, low, length-cleared own ts))))
