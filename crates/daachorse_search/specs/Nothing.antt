-- Position 0 stands for no output, so nothing is given from it on.
use Rattle.std.proofs.Common.{ap, subst, sym}
use Rattle.std.specs.Prelude.{◌≡◌, ℕ, List, [], take}
use Rattle.daachorse_core.specs.Seen.{SeenUnits, units}
use Rattle.daachorse_model.specs.Units.{size}
use Rattle.daachorse_model.specs.Outputs.{AllWithin, matches_of_outputs}
use Rattle.daachorse_search.specs.Views.{AutomatonView, HasNone}
use Rattle.daachorse_search.specs.Walks.{HasPlace, matches_from}

module _ {V : Type 0} (width : ℕ → ℕ) (view : AutomatonView V) (seen : SeenUnits) where
  pub HasPlace-none : HasNone view → HasPlace width view seen 0
  HasPlace-none none = let P : List (V × ℕ) → Type 0 = λ l. AllWithin (size width (units seen)) l in record { place = none.0; fits = subst P (sym none.1) tt }

  pub matches_from-none : HasNone view → matches_from width view seen 0 ≡ []
  matches_from-none none = ap (matches_of_outputs (size width (units seen))) none.1

  pub first_from-none : HasNone view → take 1 (matches_from width view seen 0) ≡ []
  first_from-none none = ap (take 1) (matches_from-none none)
