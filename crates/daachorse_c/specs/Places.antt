-- Where a search for matches that do not overlap goes on in a haystack, and what is left for it to find.
use Rattle.std.specs.Prelude.{◌≡◌, ◌≢◌, ◌⊎◌, ℕ, ◌+◌, ◌<◌, ◌≤◌, Bool, true, false, cond, List, [], ◌∷◌, drop, length, map, Option, IsSomeAnd}
use Rattle.daachorse_model.specs.declared.Match.{Match}
use Rattle.daachorse_model.specs.declared.MatchKind.{MatchKind}
use Rattle.daachorse_model.specs.declared.MatchKind.TheVariants.{Standard, LeftmostLongest, LeftmostFirst}
use Rattle.daachorse_model.specs.Dictionary.{Dictionary}
use Rattle.daachorse_model.specs.Leftmost.{leftmost_from}
use Rattle.daachorse_model.specs.Matches.{standard, shifted}
use Rattle.daachorse_c.specs.declared.found.CMatch.{CMatch}
use Rattle.daachorse_c.specs.declared.place.Place.{Place}
use Rattle.daachorse_c.specs.declared.refusal.Refusal.{Refusal}
use Rattle.daachorse_c.specs.declared.refusal.Refusal.TheVariants.{WrongPlace}
use Rattle.daachorse_c.specs.Automata.{Automaton, Reads, dictionary_of, kind_of, text_read, unit_of, width_of}
use Rattle.daachorse_c.specs.Held.{Held}
use Rattle.daachorse_c.specs.Refusals.{IsDoneOr}
use Rattle.daachorse_c.specs.Searches.{IsUnreadCause, IsUseCause}
use Rattle.daachorse_c.specs.Units.{units_in}
use Rattle.daachorse_c.specs.Writes.{Writes}

-- the matches that do not overlap in what is left of a haystack, which begins at the place: of a leftmost search no empty one there, if a nonempty one ends there
module _ (width : ℕ → ℕ) (K : Dictionary ℕ) where
  abbrev pub found_from : MatchKind → ℕ → Bool → List ℕ → List (Match ℕ)
  found_from Standard at after rest = map (shifted at) (standard width K rest)
  found_from LeftmostLongest at after rest = leftmost_from width K at 0 after rest
  found_from LeftmostFirst at after rest = leftmost_from width K at 0 after rest

-- those that are left at the place in a haystack
abbrev pub left_of : Automaton → List ℕ → Place → List (Match ℕ)
left_of a haystack p = cond p.over [] (found_from (width_of a) (dictionary_of a) (kind_of a) p.at p.after (text_read a (drop p.at haystack)))

-- a place in a haystack, which is not inside a character of one that is text
pub record IsPlaceIn (a : Automaton) (haystack : List ℕ) (at : ℕ) : Type 0 where
  pub within : at ≤ length haystack
  pub reads : Reads a (drop at haystack)

-- the place at which the search goes on as if no match ended there
abbrev pub afresh : Place → Place
afresh p = record p { after = false }

-- The place is after the match, in a haystack of so many bytes: at the end of a nonempty match, and one unit, of `step` bytes, after an empty one, where the haystack has one.
pub record StandsBehind (m : Match ℕ) (step size : ℕ) (p : Place) : Type 0 where
  pub nonempty : m.start < m.end → p ≡ record { at = m.end; after = true; over = false }
  pub empty : m.end ≤ m.start → m.end < size → p ≡ record { at = m.end + step; after = false; over = false }
  pub last : m.end ≤ m.start → m.end ≡ size → p ≡ record { at = m.end; after = false; over = true }
  pub within : p.at ≤ size

module _ (a : Automaton) (haystack : List ℕ) where
  -- the unit at a place in the haystack has so many bytes
  abbrev pub IsStep : ℕ → ℕ → Type 0
  IsStep at step = (u : ℕ) (rest : List ℕ) → units_in (unit_of a) (drop at haystack) ≡ u ∷ rest → step ≡ width_of a u

  -- the place is after the match: at its end, or one unit after an empty one
  pub record IsBehind (m : Match ℕ) (q : Place) : Type 0 where
    pub step : ℕ
    pub one : IsStep m.end step
    pub stands : StandsBehind m step (length haystack) q

  -- Where a search from p stands after so many matches: it is over if there was room for more, and else after the last, or where it was.
  pub record StandsAfter (p q : Place) (room written : ℕ) : Type 0 where
    pub within : IsPlaceIn a haystack q.at
    pub over : written < room → q.over ≡ true
    pub still : room ≡ 0 → q ≡ p
    pub last : (n : ℕ) → written ≡ n + 1 → written ≡ room
        → (m : Match ℕ) × (drop n (left_of a haystack p) ≡ m ∷ left_of a haystack q) × IsBehind m q

  -- the first of the matches that were left were written, and the search goes on after these
  pub record GoesOn (p q : Place) (old new : List CMatch) (written : ℕ) : Type 0 where
    pub reads : Reads a haystack
    pub writes : Writes (left_of a haystack p) old new written
    pub left : left_of a haystack q ≡ drop written (left_of a haystack p)
    pub stands : StandsAfter p q (length old) written

-- why a search does not go on from a place in a haystack
abbrev pub IsStuckCause : List ℕ → Automaton → Place → Refusal → Type 0
IsStuckCause haystack a p r = ((r ≡ WrongPlace) × ¬ IsPlaceIn a haystack p.at) ⊎ IsUnreadCause haystack a r

-- What a call does for a search that goes on: it leaves the handle as it was, writes the first matches that are left and moves the place after them, or says why it is refused and changes nothing.
pub record IsGoingOn (haystack : List ℕ) (old new : Option Held) (p q : Place) (out_old out_new : List CMatch) (written answer : ℕ) : Type 0 where
  pub kept : new ≡ old
  pub found : answer ≡ 0 → IsSomeAnd old (λ a. GoesOn a.searches haystack p q out_old out_new written)
  pub refused : IsDoneOr (λ r. IsUseCause old r ⊎ IsSomeAnd old (λ a. IsStuckCause haystack a.searches p r)) answer
  pub unwritten : answer ≢ 0 → (q ≡ p) × (out_new ≡ out_old) × (written ≡ 0)
