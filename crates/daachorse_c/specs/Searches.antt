-- What each search finds, for which automata it is, and why it is refused.
use Rattle.std.specs.Prelude.{◌≡◌, ◌≢◌, ◌⊎◌, ◌↔◌, ℕ, ⊤, Bool, List, [], Option, IsNone, IsSomeAnd, IsTrue}
use Rattle.daachorse_model.specs.declared.Match.{Match}
use Rattle.daachorse_model.specs.declared.MatchKind.{MatchKind}
use Rattle.daachorse_model.specs.declared.MatchKind.TheVariants.{Standard}
use Rattle.daachorse_model.specs.Dictionary.{Dictionary}
use Rattle.daachorse_model.specs.Leftmost.{leftmost}
use Rattle.daachorse_model.specs.Matches.{matches_of, no_suffix, overlapping, standard}
use Rattle.daachorse_model.specs.Units.{size}
use Rattle.daachorse_array.specs.Lookups.{common_prefixes}
use Rattle.daachorse_c.specs.declared.found.CMatch.{CMatch}
use Rattle.daachorse_c.specs.declared.refusal.Refusal.{Refusal}
use Rattle.daachorse_c.specs.declared.refusal.Refusal.TheVariants.{EmptyHandle, InvalidUtf8, OutOfMemory, WrongKind}
use Rattle.daachorse_c.specs.declared.search.SearchKind.{SearchKind}
use Rattle.daachorse_c.specs.declared.search.SearchKind.TheVariants.{Find, Overlapping, NoSuffix, Leftmost, Whole, Prefixes}
use Rattle.daachorse_c.specs.declared.search.StreamKind.{StreamKind}
use Rattle.daachorse_c.specs.declared.search.StreamKind.TheVariants.{Find as Finds, Overlapping as FindsAll, NoSuffix as FindsLongest, Leftmost as FindsLeftmost}
use Rattle.daachorse_c.specs.Automata.{Automaton, Reads, dictionary_of, kind_of, text_read, width_of}
use Rattle.daachorse_c.specs.Held.{Held}
use Rattle.daachorse_c.specs.Refusals.{IsDoneOr}
use Rattle.daachorse_c.specs.Writes.{Writes}

-- the matches of a search in a text, for a dictionary K
module _ (width : ℕ → ℕ) where
  abbrev pub found_by : SearchKind → Dictionary ℕ → List ℕ → List (Match ℕ)
  found_by Find K text = standard width K text
  found_by Overlapping K text = overlapping width K text
  found_by NoSuffix K text = no_suffix width K text
  found_by Leftmost K text = leftmost width K text
  found_by Whole K text = matches_of K 0 (size width text) text
  found_by Prefixes K text = common_prefixes width K text

-- those that an automaton finds in a haystack
abbrev pub finds : SearchKind → Automaton → List ℕ → List (Match ℕ)
finds search a haystack = found_by (width_of a) search (dictionary_of a) (text_read a haystack)

-- the search of a whole haystack that finds what a stream finds
abbrev pub search_of : StreamKind → SearchKind
search_of Finds = Find
search_of FindsAll = Overlapping
search_of FindsLongest = NoSuffix
search_of FindsLeftmost = Leftmost

abbrev pub stream_number : StreamKind → ℕ
stream_number Finds = 0
stream_number FindsAll = 1
stream_number FindsLongest = 2
stream_number FindsLeftmost = 3

abbrev pub IsUnknownSearch : ℕ → Type 0
IsUnknownSearch number = (k : StreamKind) → stream_number k ≢ number

abbrev pub ServesKind : SearchKind → MatchKind → Type 0
ServesKind Find kind = kind ≡ Standard
ServesKind Overlapping kind = kind ≡ Standard
ServesKind NoSuffix kind = kind ≡ Standard
ServesKind Leftmost kind = kind ≢ Standard
ServesKind Whole kind = ⊤
ServesKind Prefixes kind = ⊤

-- why a call is refused that asks for an automaton of any kind
abbrev pub IsUseCause : Option Held → Refusal → Type 0
IsUseCause held r = (r ≡ EmptyHandle) × IsNone held

-- why an automaton is not shared
abbrev pub IsShareCause : Option Held → Refusal → Type 0
IsShareCause held r = IsUseCause held r ⊎ IsSomeAnd held (λ _. r ≡ OutOfMemory)

-- why an automaton does not read a haystack
abbrev pub IsUnreadCause : List ℕ → Automaton → Refusal → Type 0
IsUnreadCause haystack a r = (r ≡ InvalidUtf8) × ¬ Reads a haystack

-- why a call is refused that asks for an automaton of any kind to search a haystack
abbrev pub IsHaystackCause : List ℕ → Option Held → Refusal → Type 0
IsHaystackCause haystack held r = IsUseCause held r ⊎ IsSomeAnd held (λ a. IsUnreadCause haystack a.searches r)

-- why an automaton does not search a haystack
abbrev pub IsNotFound : SearchKind → List ℕ → Automaton → Refusal → Type 0
IsNotFound search haystack a r = ((r ≡ WrongKind) × ¬ ServesKind search (kind_of a)) ⊎ IsUnreadCause haystack a r

-- the first of what a search finds were written
pub record HasFound (search : SearchKind) (haystack : List ℕ) (a : Automaton) (old new : List CMatch) (written : ℕ) : Type 0 where
  pub reads : Reads a haystack
  pub writes : Writes (finds search a haystack) old new written

-- whether some pattern occurs
pub record IsAnswer (haystack : List ℕ) (a : Automaton) (found : Bool) : Type 0 where
  pub reads : Reads a haystack
  pub answer : IsTrue found ↔ (overlapping (width_of a) (dictionary_of a) (text_read a haystack) ≢ [])

-- why a search is refused
abbrev pub IsSearchCause : SearchKind → List ℕ → Option Held → Refusal → Type 0
IsSearchCause search haystack held r = IsUseCause held r ⊎ IsSomeAnd held (λ a. IsNotFound search haystack a.searches r)

-- What a search from C does: it leaves the handle as it was, and writes the first of its matches in the haystack as the automaton reads it, or says why it is refused and writes none.
pub record IsSearchOf (search : SearchKind) (haystack : List ℕ) (old new : Option Held) (out_old out_new : List CMatch) (written answer : ℕ) : Type 0 where
  pub kept : new ≡ old
  pub found : answer ≡ 0 → IsSomeAnd old (λ a. HasFound search haystack a.searches out_old out_new written)
  pub refused : IsDoneOr (IsSearchCause search haystack old) answer
  pub unwritten : answer ≢ 0 → (out_new ≡ out_old) × (written ≡ 0)
