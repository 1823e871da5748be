-- Along a character past ASCII: the bytes that were taken begin it, and so many more follow.
use Rattle.std.specs.Prelude.{◌≡◌, ℕ, suc, ◌+◌, ◌*◌, ◌<◌, ◌≤◌, ◌^◌, Option, List, ◌∷◌, ◌++◌, length}
use Rattle.std.specs.Iterator.{Count, IsFinite, Yields, items_left}
use Rattle.std.specs.Str.{chars, chars_after, continuation_len}
use Rattle.daachorse_haystack.specs.TextSources.{IsText}

-- the code fits, whatever the bytes that are still to come
pub record IsSmall (code more : ℕ) : Type 0 where
  pub few : more ≤ 3
  pub last : code < 2 ^ 26
  pub one : 1 ≤ more → code < 2 ^ 20
  pub two : 2 ≤ more → code < 2 ^ 14
  pub three : 3 ≤ more → code < 2 ^ 8

module _ {S : Type 0} (can : S → Type 0) (steps : S → Option ℕ → S → Type 0) (left : S → Count) where
  -- after the first byte and those inside that were taken, so many more follow
  pub record IsMidway (source : S) (first code more : ℕ) (now : S) : Type 0 where
    pub inner : List ℕ
    pub took : Yields steps source (first ∷ inner) now
    pub callable : can now
    pub ends : IsFinite (left now)
    pub fewer : suc (length inner) + items_left left now ≤ items_left left source
    pub count : length inner + more ≡ continuation_len first
    pub code_is : (later : List ℕ) → chars_after more code later ≡ chars (first ∷ (inner ++ later))
    pub small : IsSmall code more

  -- A call took one more byte inside a character, whichever it is: `code` is of the bytes inside that were taken, and `bits` of the first byte.
  abbrev pub TakesInner : ℕ → S → ℕ → S → Type 0
  TakesInner code now after later = (source : S) (first bits more : ℕ) → IsText can steps left source → IsMidway source first (bits + code) (suc more) now → IsMidway source first (bits * 64 + after) more later
