-- Sources of bytes that give a text: when one may be decoded, and what a character takes from it.
use Rattle.std.specs.Prelude.{◌≡◌, ℕ, ◌+◌, ◌≤◌, List, ◌++◌, Option, Some, None}
use Rattle.std.specs.Iterator.{Count, IsFinite, Yields, Drains, items_left}
use Rattle.std.specs.Iterator.Runs.{CountFits}
use Rattle.std.specs.Char.{IsScalar, encode_utf8}
use Rattle.std.specs.Str.{IsUtf8}
use Rattle.daachorse_model.specs.Units.{char_width}

-- what callers see of a decoder that tells places: its source, and how many bytes were taken
pub record Placed (S : Type 0) : Type 0 where
  pub source : S
  pub place : ℕ

-- a source of bytes with these ghost members
module _ {S : Type 0} (can : S → Type 0) (steps : S → Option ℕ → S → Type 0) (left : S → Count) where
  -- It may be called and ends, its items up to its first end are UTF-8, and the items so far always begin a UTF-8 text.
  pub record IsText (source : S) : Type 0 where
    pub callable : can source
    pub ends : IsFinite (left source)
    pub begins : (bytes : List ℕ) (rest : S) → Yields steps source bytes rest → (later : List ℕ) × IsUtf8 (bytes ++ later)
    pub whole : (bytes : List ℕ) → Drains steps source bytes → IsUtf8 bytes

  -- the same where so many bytes were taken before it, and the places of all fit, by the bound that the source declares or along each run
  pub record IsTextFrom (source : S) (place : ℕ) : Type 0 where
    pub text : IsText source
    pub fits : CountFits steps left place source

  -- a character came with just its bytes, so as many fewer are left
  pub record TakesCharacter (source : S) (character : ℕ) (rest : S) : Type 0 where
    pub scalar : IsScalar character
    pub took : Yields steps source (encode_utf8 character) rest
    pub fewer : char_width character + items_left left rest ≤ items_left left source

  -- a call gives the next character, or the source is at its end
  abbrev pub GivesCharacter : S → Option ℕ → S → Type 0
  GivesCharacter source None rest = steps source None rest
  GivesCharacter source (Some character) rest = TakesCharacter source character rest

  -- the same with the place of the character's end before it
  abbrev pub GivesEndAndCharacter : Placed S → Option (ℕ × ℕ) → Placed S → Type 0
  GivesEndAndCharacter before None after = steps before.source None after.source × (after.place ≡ before.place)
  GivesEndAndCharacter before (Some given) after =
      TakesCharacter before.source given.1 after.source × (given.0 ≡ before.place + char_width given.1) × (after.place ≡ given.0)
