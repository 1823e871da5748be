-- Whether an array is sound may be asked with its kind, its outputs and its count of texts told apart from it.
use Rattle.std.proofs.Common.{◌≡◌, ℕ, Bool, List, sym, subst}
use Rattle.daachorse_core.specs.declared.outputs.Output.{Output}
use Rattle.daachorse_array.specs.Machines.{Machine}
use Rattle.daachorse_checker.specs.Sound.{IsSoundArray}

abbrev IsSoundWith : {V : Type 0} → (ℕ → ℕ) → Machine V → ℕ → Bool → List (Output V) → ℕ → Type 0
IsSoundWith width a n leftmost outputs k = IsSoundArray width (record { child = a.child; fail = a.fail; output = a.output; outputs = outputs }) leftmost n k

module _ {V : Type 0} {width : ℕ → ℕ} {n : ℕ} {kind leftmost : Bool} {outputs : List (Output V)} {count k : ℕ} (a : Machine V) (same_kind : kind ≡ leftmost) (same_outputs : outputs ≡ a.outputs) (same_count : count ≡ k) where
  pub told_sound : IsSoundWith width a n kind outputs count → IsSoundArray width a leftmost n k
  told_sound h =
      subst (λ c. IsSoundWith width a n leftmost a.outputs c) same_count
      (subst (λ os. IsSoundWith width a n leftmost os count) same_outputs (subst (λ b. IsSoundWith width a n b outputs count) same_kind h))

  pub sound_told : IsSoundArray width a leftmost n k → IsSoundWith width a n kind outputs count
  sound_told h =
      subst (λ b. IsSoundWith width a n b outputs count) (sym same_kind)
      (subst (λ os. IsSoundWith width a n leftmost os count) (sym same_outputs) (subst (λ c. IsSoundWith width a n leftmost a.outputs c) (sym same_count) h))
