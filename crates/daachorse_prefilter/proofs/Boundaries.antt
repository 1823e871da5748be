-- Places that pass and are no boundaries are passed over one by one.
use Rattle.std.proofs.Common.{◌≡◌, ℕ, ◌+◌, ◌<◌, ◌≤◌, Bool, false, List, length, drop, inl, inr, subst, arith}
use Rattle.std.specs.Str.{IsCharBoundary}
use Rattle.std.proofs.lemmas.Bool.{cases_lt}
use Rattle.daachorse_prefilter.specs.Places.{IsFirstBoundary, IsFirstPlace}

module _ (passes : List ℕ → Bool) (text : List ℕ) (pos : ℕ) where
  -- no boundary from pos on and before n passes
  abbrev pub NoBoundaryPasses : ℕ → Type 0
  NoBoundaryPasses n = (k : ℕ) → pos ≤ k → k < n → IsCharBoundary text k → passes (drop k text) ≡ false

  none_until : (from r : ℕ) → IsFirstPlace passes text from r → NoBoundaryPasses from → NoBoundaryPasses r
  none_until from r is none k low high at = elim (cases_lt k from) [
    | inl before ↦ none k low before at
    | inr later ↦ is.first k later high tt
  ]

  -- the place found is a boundary
  pub boundary_found : (from r : ℕ) → pos ≤ from → IsFirstPlace passes text from r → NoBoundaryPasses from → IsCharBoundary text r → IsFirstBoundary passes text pos r
  boundary_found from r begun is none at = record {
    inside = is.inside;
    told = at;
    found = λ less. (let low = (is.found less).0 in omega (arith, begun, low), (is.found less).1);
    first = none_until from r is none;
  }

  -- the place found is none, so that the search goes on behind it
  pub passed_over : (from r : ℕ) → pos ≤ from → IsFirstPlace passes text from r → NoBoundaryPasses from → (IsCharBoundary text r → ⊥) → (pos ≤ r + 1) × NoBoundaryPasses (r + 1)
  passed_over from r begun is none other =
      let until = none_until from r is none in
      elim (cases_lt r (length text)) [
        | inl less ↦ (
          let low = (is.found less).0 in omega (arith, begun, low),
          λ k low high at. elim (cases_lt k r) [
            | inl before ↦ until k low before at
            | inr later ↦ (let here : k ≡ r = omega arith in absurd (other (subst (IsCharBoundary text) here at)))
          ],
        )
        | inr over ↦ absurd (other (is.inside, λ less. absurd (omega arith)))
      ]
