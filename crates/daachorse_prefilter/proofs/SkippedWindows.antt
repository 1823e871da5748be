-- A place where a pattern begins passes, so the search goes no further.
use Rattle.std.proofs.Common.{◌≡◌, ℕ, ◌<◌, ◌≤◌, ◌⊎◌, true, List, ◌++◌, length, drop, sym, ap, ◌∙◌, inl, inr, arith}
use Rattle.std.proofs.lemmas.Bool.{cases_lt, false≢true}
use Rattle.daachorse_prefilter.specs.Filters.{Filter, entry_of, admits, next_place}
use Rattle.daachorse_prefilter.proofs.NextPlaces.{IsNextPlace, next_position-IsNextPlace, next_position_past, passes-append}

pub skips_none : (f : Filter) (h : List ℕ) (pos r : ℕ) → r ≡ next_place f h pos → (p rest : List ℕ) (place : ℕ) → admits f p ≡ true → pos ≤ place → drop place h ≡ p ++ rest → r ≤ place
skips_none f h pos r is_next p rest place passing low e = by (cases_lt (length h) pos)
  where
    before : (place < r) ⊎ (r ≤ place) → IsNextPlace (entry_of f) f.window h pos r → r ≤ place
    before (inr later) is = later
    before (inl less) is =
        absurd (false≢true (sym (is.misses place low less) ∙ ap (λ w. admits f w) e ∙ passes-append (entry_of f) f.window p rest passing))

    by : (length h < pos) ⊎ (pos ≤ length h) → r ≤ place
    by (inl over) = (let end = next_position_past (entry_of f) f.window h pos (omega arith) in omega (arith, is_next))
    by (inr within) = before (cases_lt place r) (next_position-IsNextPlace (entry_of f) f.window h pos r within is_next)
