-- Leftmost matches that are certain before the haystack is known to its end.
use Rattle.std.specs.Prelude.{◌≡◌, ℕ, List, ◌++◌}
use Rattle.daachorse_model.specs.declared.Match.{Match}
use Rattle.daachorse_model.specs.Dictionary.{Dictionary}
use Rattle.daachorse_model.specs.Leftmost.{leftmost}

module _ {V : Type 0} (width : ℕ → ℕ) (K : Dictionary V) where
  -- the matches of each haystack that begins with c begin with ms
  abbrev pub BeginEach : List ℕ → List (Match V) → Type 0
  BeginEach c ms = (d : List ℕ) → (rest : List (Match V)) × (leftmost width K (c ++ d) ≡ ms ++ rest)

  -- after c the matches ms are certain, and no more than they
  abbrev pub AreCertain : List ℕ → List (Match V) → Type 0
  AreCertain c ms = BeginEach c ms × ((ns : List (Match V)) → BeginEach c ns → (rest : List (Match V)) × (ms ≡ ns ++ rest))
