-- What a stepper does with bytes that it is fed.
use Rattle.std.specs.Prelude.{◌≡◌, ◌⊎◌, ℕ, ◌+◌, ◌<◌, ◌≤◌, List, [], ◌∷◌, ◌++◌, take, length, slice_index}
use Rattle.daachorse_model.specs.declared.Match.{Match}
use Rattle.daachorse_model.specs.Folding.{as_read}
use Rattle.daachorse_search.specs.Views.{AutomatonView}
use Rattle.daachorse_c.specs.declared.feeding.Done.{Done}
use Rattle.daachorse_c.specs.declared.found.CMatch.{CMatch}
use Rattle.daachorse_c.specs.declared.stepper.Stepper.{Stepper}
use Rattle.daachorse_c.specs.declared.unit.Unit.{Unit}
use Rattle.daachorse_c.specs.Streams.{HasReported, IsQuiet, Spells, ReportsMore, WasNeeded, dictionary_in, folds_in, kind_in, read_in}
use Rattle.daachorse_c.specs.Units.{IsWrongIn}

-- From s, which reported these, to t some of the bytes were consumed, none that was not needed, and the next matches were written. Unless there was no more room, all bytes were consumed that begin a unit, and all was reported that is certain so far.
pub record Feeds {S L T U V W : Type 0} (which : Unit) (width : ℕ → ℕ) (standard : S → AutomatonView ℕ) (leftmost : L → AutomatonView ℕ) (bytes : List ℕ) (reported : List (Match ℕ)) (s t : Stepper S L T U V W) (partial later : List ℕ) (old new : List CMatch) (done : Done) : Type 0 where
  pub within : done.taken ≤ length bytes
  pub units : List ℕ
  pub spells : Spells which partial (take done.taken bytes) units later
  pub read : read_in t ≡ read_in s ++ as_read (folds_in s) units
  pub reports : ReportsMore (HasReported width standard leftmost t) reported old new done.written
  pub quiet : done.written < length old → IsQuiet width standard leftmost t
  pub needed : (n : ℕ) → done.taken ≡ n + 1 → WasNeeded which width (kind_in s) (dictionary_in width standard leftmost s) (folds_in s) partial bytes (read_in s) (length reported + length old) n (reported ++ reports.more)
  pub full : done.taken < length bytes → (done.written ≡ length old) ⊎ IsWrongIn which (later ++ slice_index bytes done.taken ∷ [])
