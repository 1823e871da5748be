-- No key begins in what a filter passes over, and the places that it leaves are counted part by part.
use Rattle.std.proofs.Common.{◌≡◌, ℕ, ◌+◌, ◌≤◌, inl, inr, Bool, true, false, cond, ◌&&◌, List, [], ◌∷◌, ◌++◌, length, refl, sym, ap, ◌∙◌, length-append, arith}
use Rattle.std.proofs.lemmas.List.Sums.{sum_by-append}
use Rattle.std.specs.Prelude.{count_by}
use Rattle.daachorse_model.specs.Dictionary.{Dictionary}
use Rattle.daachorse_model.specs.Best.{NoneStarts}
use Rattle.daachorse_model.proofs.Suffixes.{le_or_lt}
use Rattle.daachorse_haystack.specs.Filters.{IsSoundFor, PassesNoneBefore, count_passing}

abbrev one_if : Bool → ℕ
one_if b = cond b 1 0

both : (p q : Bool) → one_if (p && q) ≤ one_if p
both true true = omega arith
both true false = omega arith
both false q = omega arith

neither : (p : Bool) → one_if (p && false) ≡ 0
neither true = refl
neither false = refl

also : (p : Bool) → one_if (p && true) ≡ one_if p
also true = refl
also false = refl

module _ (passes : List ℕ → Bool) where
  -- no key begins before the place to which a filter skips
  pub none_starts-skipped : {V : Type 0} (K : Dictionary V) → IsSoundFor passes K → (units front later : List ℕ) → units ≡ front ++ later → PassesNoneBefore passes later units → NoneStarts K (length front) units
  none_starts-skipped K sound units front later parts none a k b o =
      elim (le_or_lt (length front) (length a)) [
        | inl behind ↦ behind
        | inr before ↦
            let no = none a (k ++ b) o.parts (omega (arith, before, ap length parts, ap length o.parts, length-append front later, length-append a (k ++ b))) in
            let bad : true ≡ false = sym (sound k b o.key) ∙ no in cc
      ]

  module _ (has_label : ℕ → Bool) where
    pub count_passing-more : (passed front rest : List ℕ) → count_passing passes has_label (passed ++ rest) (passed ++ front) ≡ count_passing passes has_label (passed ++ rest) passed + count_passing passes has_label rest front
    count_passing-more [] front rest = omega arith
    count_passing-more (u ∷ passed) front rest = omega (arith, count_passing-more passed front rest)

    labelled-first : (u : ℕ) (front : List ℕ) → count_by has_label (u ∷ front) ≡ one_if (has_label u) + count_by has_label front
    labelled-first u front = omega (arith, sum_by-append (λ x. one_if (has_label x)) (u ∷ []) front)

    pub count_passing-most : (front later : List ℕ) → count_passing passes has_label (front ++ later) front ≤ count_by has_label front
    count_passing-most [] later = omega arith
    count_passing-most (u ∷ front) later = omega (arith, both (has_label u) (passes (u ∷ (front ++ later))), count_passing-most front later, labelled-first u front)

    -- none of what is skipped is counted
    pub count_passing-none : (front later : List ℕ) → PassesNoneBefore passes later (front ++ later) → count_passing passes has_label (front ++ later) front ≡ 0
    count_passing-none [] later none = refl
    count_passing-none (u ∷ front) later none =
        let here : passes (u ∷ (front ++ later)) ≡ false = none [] (u ∷ (front ++ later)) refl (omega (arith, length-append front later)) in
        let more = count_passing-none front later (λ a b parts less. none (u ∷ a) b (ap (λ w. u ∷ w) parts) less) in
        omega (arith, more, ap (λ p. one_if (has_label u && p)) here, neither (has_label u))

    -- all units with a label, where the filter passes everywhere
    pub count_passing-all : ((w : List ℕ) → passes w ≡ true) → (front later : List ℕ) → count_passing passes has_label (front ++ later) front ≡ count_by has_label front
    count_passing-all all [] later = refl
    count_passing-all all (u ∷ front) later = omega (arith, count_passing-all all front later, labelled-first u front, ap (λ p. one_if (has_label u && p)) (all (u ∷ (front ++ later))), also (has_label u))
