-- A leftmost stream that takes what a reader has at hand, a block or a unit at a time.
use Rattle.std.specs.Prelude.{◌≡◌, ℕ, ◌+◌, ◌<◌, ◌≤◌, All, Bool, true, false, List, ◌++◌, length, map, flat_map, Option, None, Some, IfSome}
use Rattle.std.specs.Io.KnownBytes.{Consumes, IsAtEnd, Keeps}
use Rattle.std.specs.Iterator.{Count, Yields, items_left}
use Rattle.daachorse_model.specs.Folding.{as_read}
use Rattle.daachorse_model.specs.Leftmost.{leftmost}
use Rattle.daachorse_model.specs.Units.{size}
use Rattle.daachorse_search.specs.Readers.{GivesByte, IsLasting, Reading, to_give}
use Rattle.daachorse_search.specs.Views.{AutomatonView}
use Rattle.daachorse_streams.specs.declared.block_source.Taken.{Taken}
use Rattle.daachorse_streams.specs.declared.block_source.Taken.TheVariants.{Block, Nothing, Ended}
use Rattle.daachorse_streams.specs.Streamed.{LeftmostStreamed}

-- the units were consumed, and no match was given
pub record HasConsumed {V A : Type 0} (s : LeftmostStreamed V A) (units : List ℕ) (t : LeftmostStreamed V A) : Type 0 where
  pub automaton : t.automaton ≡ s.automaton
  pub folds : t.folds ≡ s.folds
  pub read : t.read ≡ s.read ++ as_read s.folds units
  pub given : t.given ≡ s.given
  pub ended : t.ended ≡ s.ended

module _ {V A U : Type 0} (sees : A → AutomatonView V) where
  -- Where `is_given` says what each unit that a reader gives is.
  module _ (is_given : U → Type 0) (width : ℕ → ℕ) (unit : U → ℕ) (form : U → List ℕ) where
    -- units with these bytes were consumed; where they are more than one, no match begins in them
    pub record ConsumesBytes (s : LeftmostStreamed V A) (bytes : List ℕ) (t : LeftmostStreamed V A) : Type 0 where
      pub units : List U
      pub are : All is_given units
      pub spell : flat_map form units ≡ bytes
      pub sized : length bytes ≡ size width (map unit units)
      pub consumed : HasConsumed s (map unit units) t
      pub clear : 1 < length units → leftmost width (sees s.automaton).content t.read ≡ s.given

    -- so many bytes of a block were consumed, the first ones
    pub record ConsumesFront (s : LeftmostStreamed V A) (block : List ℕ) (count : ℕ) (t : LeftmostStreamed V A) : Type 0 where
      pub bytes : List ℕ
      pub rest : List ℕ
      pub parts : block ≡ bytes ++ rest
      pub counts : length bytes ≡ count
      pub consumes : ConsumesBytes s bytes t
      pub none : count ≡ 0 → t ≡ s

    module _ {K : Type 0} (keeps : K → List ℕ → K → Type 0) where
      -- Of what a reader has left, if that is known, at most so many bytes were taken, consumed and kept. Or none were, since the stream skips none here, or the reader was interrupted or has ended.
      abbrev pub TakesBlock : ℕ → Option (List ℕ) → LeftmostStreamed V A → K → Taken → Option (List ℕ) → LeftmostStreamed V A → K → Type 0
      TakesBlock most old s held (Block count) new t more = (bytes : List ℕ) × (0 < count) × (count ≤ most) × (length bytes ≡ count) × ConsumesBytes s bytes t × Consumes old new bytes × keeps held bytes more
      TakesBlock most old s held Nothing new t more = Keeps old new × (t ≡ s) × (more ≡ held)
      TakesBlock most old s held (Ended failure) new t more = Keeps old new × (failure ≡ None → IsAtEnd old) × IfSome failure IsLasting × (t ≡ s) × (more ≡ held)

      module _ {R : Type 0} (known : R → Option (List ℕ)) where
        -- bytes were taken of what a source had to give, consumed and kept
        pub record TakesBytes (s : LeftmostStreamed V A) (from : Reading R) (held : K) (t : LeftmostStreamed V A) (to : Reading R) (more : K) : Type 0 where
          pub bytes : List ℕ
          pub some : 0 < length bytes
          pub took : Consumes (to_give known from) (to_give known to) bytes
          pub fewer : to.left + length bytes ≡ from.left
          pub consumes : ConsumesBytes s bytes t
          pub kept : keeps held bytes more

        -- that is so, or the source has ended, or nothing was taken
        abbrev pub SkipsBlock : LeftmostStreamed V A → Reading R → K → Option Bool → LeftmostStreamed V A → Reading R → K → Type 0
        SkipsBlock s from held (Some true) t to more = TakesBytes s from held t to more
        SkipsBlock s from held (Some false) t to more = GivesByte known from None to × (t ≡ s) × (more ≡ held)
        SkipsBlock s from held None t to more = Keeps (to_give known from) (to_give known to) × (to.left ≡ from.left) × (t ≡ s) × (more ≡ held)

  module _ {S : Type 0} (width : ℕ → ℕ) (steps : S → Option U → S → Type 0) (left : S → Count) (unit : U → ℕ) (form : U → List ℕ) {K : Type 0} (keeps : K → List ℕ → K → Type 0) where
    -- units were taken of the source and consumed, and their bytes were kept; where they are more than one, no match begins in them
    pub record TakesUnits (s : LeftmostStreamed V A) (from : S) (held : K) (t : LeftmostStreamed V A) (to : S) (more : K) : Type 0 where
      pub units : List U
      pub some : 0 < length units
      pub took : Yields steps from units to
      pub fewer : length units + items_left left to ≤ items_left left from
      pub consumed : HasConsumed s (map unit units) t
      pub clear : 1 < length units → leftmost width (sees s.automaton).content t.read ≡ s.given
      pub sized : length (flat_map form units) ≡ size width (map unit units)
      pub kept : keeps held (flat_map form units) more

    -- that is so, or the source has ended
    abbrev pub Advances : LeftmostStreamed V A → S → K → Bool → LeftmostStreamed V A → S → K → Type 0
    Advances s from held true t to more = TakesUnits s from held t to more
    Advances s from held false t to more = steps from None to × (t ≡ s) × (more ≡ held)
