-- In a right machine each text that leads to an element begins a key, so that the keys are folded just where the units of all children are.
use Rattle.std.proofs.Common.{◌≡◌, ◌≢◌, ℕ, Bool, List, [], ◌∷◌, ◌++◌, Option, Some, None, refl, ap, ◌∙◌, inl, inr}
use Rattle.daachorse_model.specs.Folding.{folded, folded_unit}
use Rattle.daachorse_model.specs.Paths.{walk, Leads}
use Rattle.daachorse_model.specs.Prefixes.{IsPrefix}
use Rattle.daachorse_model.proofs.Paths.{walk-push}
use Rattle.daachorse_array.specs.Machines.{Machine, IsMachine, content, values_at}
use Rattle.daachorse_array.proofs.MachineLaws.{fore}
use Rattle.daachorse_array.proofs.PathLaws.{and_then_inv, reached_element}
use Rattle.daachorse_checker.specs.Folded.{HasFoldedKeys, HasFoldedUnits}

-- a unit in a text that is folded
unit-folded : (w : List ℕ) (c : ℕ) (rest : List ℕ) → folded ((w ++ c ∷ []) ++ rest) ≡ (w ++ c ∷ []) ++ rest → folded_unit c ≡ c
unit-folded [] c rest e = cc
unit-folded (u ∷ w) c rest e = let later : folded ((w ++ c ∷ []) ++ rest) ≡ (w ++ c ∷ []) ++ rest = cc in unit-folded w c rest later

-- what leads on from an element that a text leads to
path-folded : (child : ℕ → ℕ → Option ℕ) → HasFoldedUnits child → (v w : List ℕ) (i j : ℕ) → Leads child v i → walk child i w ≡ Some j → folded w ≡ w
path-folded child units v [] i j leads e = refl
path-folded child units v (c ∷ w) i j leads e =
    let next = and_then_inv (λ k. walk child k w) (child i c) j e in
    let unit = units v i c next.0 leads next.1 in
    let rest = path-folded child units (v ++ c ∷ []) w next.0 j (walk-push child 0 v c i leads ∙ next.1) next.2 in
    cc

module _ {V : Type 0} (width : ℕ → ℕ) (a : Machine V) (leftmost : Bool) (n m : ℕ) (machine : IsMachine width a leftmost n m) where
  pub keys-from-units : HasFoldedUnits a.child → HasFoldedKeys (content width a)
  keys-from-units units k key = (elim (walk a.child 0 k) as (λ o. walk a.child 0 k ≡ o → folded k ≡ k) [
    | None ↦ λ e. absurd (key (ap (values_at width a k) e))
    | Some i ↦ λ e. path-folded a.child units [] k 0 i refl e
  ]) refl

  pub units-from-keys : HasFoldedKeys (content width a) → HasFoldedUnits a.child
  units-from-keys keys w i c j leads to = begun (fore width a leftmost n m machine (w ++ c ∷ []) (reached_element a.child (w ++ c ∷ []) j (walk-push a.child 0 w c i leads ∙ to)))
    where
      not_empty : (v : List ℕ) → v ++ c ∷ [] ≢ []
      not_empty [] e = cc
      not_empty (u ∷ v) e = cc

      begun : IsPrefix (content width a) (w ++ c ∷ []) → folded_unit c ≡ c
      begun (inl e) = absurd (not_empty w e)
      begun (inr (rest, key)) = unit-folded w c rest (keys ((w ++ c ∷ []) ++ rest) key)
