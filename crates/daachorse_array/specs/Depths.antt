-- The depth of an element: how many units its text has.
use Rattle.std.specs.Prelude.{◌≡◌, ℕ, ◌<◌, List, length, slice_get, Option, Some}
use Rattle.daachorse_array.specs.Texts.{IsReached, text_of}

-- of n elements the depths, by units below m: the length of each reached element's text, and 4294967295 of the others
pub record IsDepthTable (child : ℕ → ℕ → Option ℕ) (m n : ℕ) (depths : List ℕ) : Type 0 where
  pub size : length depths ≡ n
  pub reached : (i : ℕ) → IsReached child m n i → slice_get depths i ≡ Some (length (text_of child m n i))
  pub others : (i : ℕ) → i < n → ¬ IsReached child m n i → slice_get depths i ≡ Some 4294967295
