-- What a call to replace promises, of joined texts and where each ends, and why it is refused.
use Rattle.std.specs.Prelude.{
  ◌≡◌,
  ◌⊎◌,
  ℕ,
  ◌-◌,
  ◌<◌,
  ◌^◌,
  List,
  ◌∷◌,
  ◌++◌,
  cond,
  drop,
  get_or,
  length,
  min,
  nat_lt,
  slice_range,
  take,
  Option,
  IsSomeAnd,
}
use Rattle.daachorse_model.specs.declared.Match.{Match}
use Rattle.daachorse_streams.specs.ByKind.{non_overlapping}
use Rattle.daachorse_streams.specs.Replaced.{with_replacements}
use Rattle.daachorse_c.specs.declared.refusal.Refusal.{Refusal}
use Rattle.daachorse_c.specs.declared.refusal.Refusal.TheVariants.{NoRoom, WrongPatterns}
use Rattle.daachorse_c.specs.Automata.{Automaton, Reads, dictionary_of, kind_of, text_read, width_of}
use Rattle.daachorse_c.specs.Held.{Held}
use Rattle.daachorse_c.specs.Patterns.{AreEnds}
use Rattle.daachorse_c.specs.Searches.{IsUnreadCause, IsUseCause}
use Rattle.daachorse_c.specs.Written.{StandsInFront}

-- As much of the text as there is room for stands in front, and after it what was there. So long is the text, as far as that can be
-- counted.
pub record IsCut (text old new : List ℕ) (size : ℕ) : Type 0 where
  pub front : new ≡ take (length old) text ++ drop (length text) old
  pub long : size ≡ min (length text) (2 ^ 64 - 1)

module _ (bytes ends : List ℕ) where
  -- the text of this number: each begins where the one before it ends, the first at 0
  abbrev pub text_numbered : ℕ → List ℕ
  text_numbered i = slice_range bytes (get_or (0 ∷ ends) i 0) (get_or ends i 0)

  -- what stands in place of a value's match: the text of that number, or what matched if there is none
  abbrev pub instead_of : ℕ → List ℕ → List ℕ
  instead_of value matched = cond (nat_lt value (length ends)) (text_numbered value) matched

module _ (bytes ends haystack : List ℕ) where
  abbrev pub replacement : Match ℕ → List ℕ
  replacement m = instead_of bytes ends m.value (slice_range haystack m.start m.end)

  -- the haystack with the matches replaced that the automaton finds in it and that do not overlap
  abbrev pub replaced_by : Automaton → List ℕ
  replaced_by a = with_replacements replacement haystack (non_overlapping (kind_of a) (width_of a) (dictionary_of a) (text_read a haystack))

  -- it stands in front, and is so long
  abbrev pub HasReplaced : Automaton → List ℕ → List ℕ → ℕ → Type 0
  HasReplaced a old new size = Reads a haystack × StandsInFront (replaced_by a) old new × (size ≡ length (replaced_by a))

  -- why matches are not replaced: the ends are wrong, or the haystack is no text, and nothing is written, or there is no room for all, and
  -- a beginning is written
  abbrev pub IsNotReplaced : Automaton → List ℕ → List ℕ → ℕ → Refusal → Type 0
  IsNotReplaced a old new size r =
      ((r ≡ WrongPatterns) × ¬ AreEnds 0 (length bytes) ends × (new ≡ old) × (size ≡ 0))
      ⊎ (IsUnreadCause haystack a r × (new ≡ old) × (size ≡ 0))
      ⊎ ((r ≡ NoRoom) × Reads a haystack × (length old < length (replaced_by a)) × IsCut (replaced_by a) old new size)

  -- why a call to replace is refused, and what it writes then
  abbrev pub IsReplaceCause : Option Held → List ℕ → List ℕ → ℕ → Refusal → Type 0
  IsReplaceCause held old new size r =
      (IsUseCause held r × (new ≡ old) × (size ≡ 0)) ⊎ IsSomeAnd held (λ a. IsNotReplaced a.searches old new size r)
