-- What a listing for C promises, and why it is refused: the patterns of an automaton, in the form in which a build takes them.
use Rattle.std.specs.Prelude.{◌≡◌, ◌⊎◌, ℕ, ◌<◌, ◌≤◌, List, [], ◌∷◌, ◌++◌, length, Option, IsSomeAnd}
use Rattle.daachorse_model.specs.Prefixes.{IsListing}
use Rattle.daachorse_c.specs.declared.listing.Listing.{Listing}
use Rattle.daachorse_c.specs.declared.listing.Room.{Room}
use Rattle.daachorse_c.specs.declared.refusal.Refusal.{Refusal}
use Rattle.daachorse_c.specs.declared.refusal.Refusal.TheVariants.{NoRoom, OutOfMemory}
use Rattle.daachorse_c.specs.Automata.{Automaton, dictionary_of, unit_of}
use Rattle.daachorse_c.specs.Held.{Held}
use Rattle.daachorse_c.specs.Patterns.{ArePatterns, AreTexts, registrations, texts_in}
use Rattle.daachorse_c.specs.Searches.{IsUseCause}
use Rattle.daachorse_c.specs.Written.{StandsInFront}

-- three arrays as C has them: bytes, where patterns end in them, and values
pub record Arrays : Type 0 where
  pub bytes : List ℕ
  pub ends : List ℕ
  pub values : List ℕ

abbrev pub arrays : List ℕ → List ℕ → List ℕ → Arrays
arrays bytes ends values = record { bytes = bytes; ends = ends; values = values }

abbrev pub arrays_of : Listing → Arrays
arrays_of l = arrays l.bytes.items l.ends.items l.values.items

-- a pattern and its value after the others
abbrev pub one_more : Arrays → List ℕ → ℕ → Arrays
one_more p pattern value = arrays (p.bytes ++ pattern) (p.ends ++ length (p.bytes ++ pattern) ∷ []) (p.values ++ value ∷ [])

-- where the last pattern ends, or `start` if there is none
abbrev pub last_pattern_end : ℕ → List ℕ → ℕ
last_pattern_end start [] = start
last_pattern_end start (e ∷ es) = last_pattern_end e es

-- they are patterns as a build takes them, and no byte stands after the last
pub record AreWhole (p : Arrays) : Type 0 where
  pub right : ArePatterns p.bytes p.ends p.values
  pub whole : last_pattern_end 0 p.ends ≡ length p.bytes

-- the patterns, each with its value
abbrev pub entries : Arrays → List (List ℕ × ℕ)
entries p = registrations p.bytes 0 p.ends p.values

-- they are the patterns that the automaton holds, in byte order, and equal ones as they were registered
pub record ArePatternsOf (a : Automaton) (p : Arrays) : Type 0 where
  pub whole : AreWhole p
  pub texts : AreTexts (unit_of a) (entries p)
  pub listing : IsListing (dictionary_of a) (texts_in (unit_of a) (entries p))

-- the same, of so many bytes and so many patterns
pub record AreListedIn (a : Automaton) (p : Arrays) (size count : ℕ) : Type 0 where
  pub listed : ArePatternsOf a p
  pub bytes : size ≡ length p.bytes
  pub patterns : count ≡ length p.ends

-- there is room for all patterns
pub record Fits (l : Listing) (room : Room) : Type 0 where
  pub bytes : l.size ≤ room.bytes
  pub patterns : l.count ≤ room.patterns

-- what is kept is no more than was counted, and no more than there is room for
pub record IsKeptWithin (l : Listing) (room : Room) : Type 0 where
  pub counted_bytes : length l.bytes.items ≤ l.size
  pub counted_ends : length l.ends.items ≤ l.count
  pub counted_values : length l.values.items ≤ l.count
  pub bytes : length l.bytes.items ≤ room.bytes
  pub ends : length l.ends.items ≤ room.patterns
  pub values : length l.values.items ≤ room.patterns

-- the automaton's patterns were counted, and all of them are kept where there is room, and no more than there is room for
pub record IsListingWithin (a : Automaton) (room : Room) (l : Listing) : Type 0 where
  pub listed : Arrays
  pub counted : AreListedIn a listed l.size l.count
  pub kept : Fits l room → arrays_of l ≡ listed
  pub no_more : IsKeptWithin l room

-- they stand at the beginning of the arrays, and after them what was there
pub record StandInFront (p old new : Arrays) : Type 0 where
  pub bytes : StandsInFront p.bytes old.bytes new.bytes
  pub ends : StandsInFront p.ends old.ends new.ends
  pub values : StandsInFront p.values old.values new.values

-- some array is too short for them
abbrev pub LackRoom : Arrays → Arrays → Type 0
LackRoom p room = (length room.bytes < length p.bytes) ⊎ (length room.ends < length p.ends) ⊎ (length room.values < length p.values)

-- the automaton's patterns stand at the beginning of the arrays, and are reported to be so many bytes and so many patterns
abbrev pub HasListed : Automaton → Arrays → Arrays → ℕ → ℕ → Type 0
HasListed a old new size count = (p : Arrays) × AreListedIn a p size count × StandInFront p old new

-- no number is reported
abbrev pub ReportsNone : ℕ → ℕ → Type 0
ReportsNone size count = (size ≡ 0) × (count ≡ 0)

-- why an automaton's patterns are not written to these arrays, and what is reported then
abbrev pub IsNotListed : Automaton → Arrays → ℕ → ℕ → Refusal → Type 0
IsNotListed a room size count r =
    ((r ≡ OutOfMemory) × ReportsNone size count) ⊎ ((r ≡ NoRoom) × ((p : Arrays) × AreListedIn a p size count × LackRoom p room))

-- why a call to list is refused, and what is reported then
abbrev pub IsListCause : Option Held → Arrays → ℕ → ℕ → Refusal → Type 0
IsListCause held room size count r = (IsUseCause held r × ReportsNone size count) ⊎ IsSomeAnd held (λ a. IsNotListed a.searches room size count r)
