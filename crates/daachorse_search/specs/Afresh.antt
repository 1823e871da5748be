-- Where a search goes on as one that begins there.
use Rattle.std.specs.Prelude.{◌≡◌, ℕ, List, [], ◌++◌, map, length}
use Rattle.daachorse_model.specs.declared.Match.{Match}
use Rattle.daachorse_model.specs.Units.{size}
use Rattle.daachorse_model.specs.Dictionary.{Dictionary}
use Rattle.daachorse_model.specs.Best.{NoneStarts}
use Rattle.daachorse_model.specs.Matches.{shifted}
use Rattle.daachorse_search.specs.Scans.{past_each_end}

module _ {V : Type 0} (width : ℕ → ℕ) (K : Dictionary V) (found : List ℕ → List (Match V)) where
  -- Behind units at which no key starts, a search that read `read` finds what one finds that begins there.
  abbrev pub GoesOnAfresh : List ℕ → Type 0
  GoesOnAfresh read = (front rest : List ℕ) → NoneStarts K (length front) (front ++ rest)
      → past_each_end found read (front ++ rest) ≡ map (shifted (size width (read ++ front))) (past_each_end found [] rest)
