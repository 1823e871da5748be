-- What a stream gave goes out: the bytes up to each match, and then what its call appended.
use Rattle.std.specs.Prelude.{◌≡◌, ℕ, List, ◌++◌, Option, Result}
use Rattle.std.specs.Borrow.{MutBor}
use Rattle.daachorse_model.specs.declared.Match.{Match}
use Rattle.daachorse_model.specs.Matches.{last_end}
use Rattle.daachorse_streams.specs.ReplacedWith.{IsStopped}
use Rattle.daachorse_streams.specs.Streams.{IsHeld}

module _ {V P O E F : Type 0} (bytes : P → List ℕ) (taken : O → Option (List ℕ))
    (step : F → Match V → P → MutBor O → Result (Unit {0}) E → MutBor O → F → Type 0) where
  -- More matches went out of the bytes held, and those left begin at the end of the last. Each text that was held so behind the matches
  -- done is held so behind all that are given.
  pub record GoesOut (done given : List (Match V)) (place : ℕ) (held : List ℕ) (f : F) (old : O) (next : ℕ) (rest : List ℕ) (g : F)
      (new : O) : Type 0 where
    pub more : List (Match V)
    pub gives : given ≡ done ++ more
    pub ends : next ≡ last_end place more
    pub holds : (first : F) (start : O) (text : List ℕ) → IsHeld bytes taken step first start text done place held f old
        → IsHeld bytes taken step first start text given next rest g new

  -- the same where it stopped with this error: however each such text goes on, its replacement stopped so among all these matches
  abbrev pub GoesOutSoFar : E → List (Match V) → List (Match V) → ℕ → List ℕ → F → O → O → Type 0
  GoesOutSoFar e all done place held f old new =
      (first : F) (start : O) (text : List ℕ) → IsHeld bytes taken step first start text done place held f old
      → (more : List ℕ) → IsStopped bytes taken (text ++ more) step e all first start new
