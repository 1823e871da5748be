-- Sources of units: when a search may read one to its end, and what it took.
use Rattle.std.specs.Prelude.{ℕ, ◌+◌, ◌<◌, ◌^◌, List, map, length, Option}
use Rattle.std.specs.Iterator.{Count, IsFinite, MakesProgress, Yields}
use Rattle.std.specs.Iterator.Runs.{CountFits}
use Rattle.daachorse_model.specs.Units.{size}

-- A source with these ghost members, whose items stand for units.
module _ {S U : Type 0} (can : S → Type 0) (steps : S → Option U → S → Type 0) (left : S → Count) (unit : U → ℕ) (width : ℕ → ℕ) where
  -- calls from s gave the items and led to t, each with progress
  abbrev pub Reads : S → List U → S → Type 0
  Reads = Yields (λ s r t. steps s r t × MakesProgress can left s r t)

  -- the source may be called, ends, and whatever is read of it ends at a place that fits
  pub record IsReady (source : S) (place : ℕ) : Type 0 where
    pub callable : can source
    pub ends : IsFinite (left source)
    pub fits : (xs : List U) (rest : S) → Reads source xs rest → place + size width (map unit xs) < 2 ^ 64

-- Where these units were read, the source may be called, ends, and gives no more items than there are places left: by the bound that it declares, or along each run. For sources of bytes, whose items take one place each.
module _ {S : Type 0} (can : S → Type 0) (steps : S → Option ℕ → S → Type 0) (left : S → Count) where
  pub record MayRead (source : S) (read : List ℕ) : Type 0 where
    pub callable : can source
    pub ends : IsFinite (left source)
    pub fits : CountFits steps left (length read) source
