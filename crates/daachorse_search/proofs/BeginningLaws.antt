-- A search that begins with an automaton in a haystack begins so with what is equal to them.
use Rattle.std.proofs.Common.{◌≡◌, ℕ, List, subst}
use Rattle.daachorse_model.specs.declared.Match.{Match}
use Rattle.daachorse_search.specs.Beginnings.{BeginsWith}
use Rattle.daachorse_search.specs.Matches.{Progress}

module _ {V A F : Type 0} where
  pub BeginsWith-along : (found : A → List ℕ → List (Match V)) (a b : A) (v w : List ℕ) (s : Progress V A F) → a ≡ b → v ≡ w → BeginsWith a v (found a v) s → BeginsWith b w (found b w) s
  BeginsWith-along found a b v w s same units begins =
      let P : A → Type 0 = λ x. BeginsWith x v (found x v) s in
      let Q : List ℕ → Type 0 = λ x. BeginsWith b x (found b x) s in
      subst Q units (subst P same begins)
