-- The calls of a search in a haystack give the matches that are left, one after the other.
use Rattle.std.proofs.Common.{◌≡◌, ℕ, List, ap, subst, length}
use Rattle.std.proofs.lemmas.Iterator.{YieldsList}
use Rattle.std.proofs.lemmas.Iterator.Consumers.{YieldsList-from_shown}
use Rattle.daachorse_model.specs.declared.Match.{Match}
use Rattle.daachorse_search.specs.Matches.{Progress, GivesFirst}

module _ {V A F : Type 0} (stands : Match V → List ℕ → List ℕ → Type 0) where
  pub YieldsList-from_progress : (s : Progress V A F) (xs : List (Match V)) → s.left ≡ xs → YieldsList (GivesFirst {V = V} {A = A} {F = F} stands) (λ (m : Match V). m) s xs
  YieldsList-from_progress s xs is =
      let P : List (Match V) → Type 0 = λ l. YieldsList (GivesFirst {V = V} {A = A} {F = F} stands) (λ (m : Match V). m) s l in
      subst P is (YieldsList-from_shown (GivesFirst {V = V} {A = A} {F = F} stands) (λ (m : Match V). m) (λ (p : Progress V A F). p.left) (λ s t h. ap length h.none) (λ s m t h. h.first) s)
