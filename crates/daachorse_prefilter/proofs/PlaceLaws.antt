-- The first place at which a filter passes is its next.
use Rattle.std.proofs.Common.{◌≡◌, ℕ, ◌<◌, ◌≤◌, ◌⊎◌, Bool, true, false, ◌&&◌, List, length, ◌∙◌, inl, inr, arith}
use Rattle.std.proofs.lemmas.Bool.{cases_lt, false≢true}
use Rattle.daachorse_prefilter.specs.Filters.{Filter, entry_of, admits, next_place}
use Rattle.daachorse_prefilter.specs.Places.{IsFirstPlace}
use Rattle.daachorse_prefilter.proofs.NextPlaces.{next_position_is, next_position_past}

pub both_pass : (x y : Bool) → x ≡ true → y ≡ true → (x && y) ≡ true
both_pass true y e h = h
both_pass false y e h = absurd (false≢true e)

-- the first place at which the filter passes is its next
pub next_of_first : (f : Filter) (text : List ℕ) (from r : ℕ) → IsFirstPlace (admits f) text from r → r ≡ next_place f text from
next_of_first f text from r is = by (cases_lt (length text) from) (cases_lt r (length text))
  where
    inside : r ≤ length text
    inside = is.inside

    by : (length text < from) ⊎ (from ≤ length text) → (r < length text) ⊎ (length text ≤ r) → r ≡ next_place f text from
    by (inl over) (inl less) = absurd (let h = (is.found less).0 in omega arith)
    by (inl over) (inr most) =
        let end : r ≡ length text = omega (arith, is.inside) in
        end ∙ next_position_past (entry_of f) f.window text from (omega arith)
    by (inr within) (inl less) =
        next_position_is (entry_of f) f.window text from r (record {
          after = (is.found less).0;
          inside = is.inside;
          misses = λ k l u. is.first k l u tt;
          passing = λ l. (is.found l).1;
        })
    by (inr within) (inr most) =
        next_position_is (entry_of f) f.window text from r (record {
          after = omega (arith, is.inside);
          inside = is.inside;
          misses = λ k l u. is.first k l u tt;
          passing = λ l. absurd (omega arith);
        })
