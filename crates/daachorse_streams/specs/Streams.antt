-- What comes of a stream: what a source gave, with each match replaced by what a call appends to an output.
use Rattle.std.specs.Prelude.{
  ◌≡◌,
  ◌≢◌,
  ◌⊎◌,
  ℕ,
  ◌+◌,
  ◌-◌,
  ◌≤◌,
  List,
  [],
  ◌++◌,
  drop,
  take,
  length,
  map,
  flat_map,
  All,
  Option,
  Some,
  None,
  IfSome,
  Result,
  Ok,
  Err,
}
use Rattle.std.specs.Borrow.{MutBor}
use Rattle.std.specs.Io.KnownBytes.{Appends}
use Rattle.std.specs.IoError.{error_kind}
use Rattle.std.specs.Iterator.{Yields}
use Rattle.std.specs.declared.io.Error.{Error}
use Rattle.std.specs.declared.io.ErrorKind.TheVariants.{OutOfMemory}
use Rattle.daachorse_model.specs.declared.Match.{Match}
use Rattle.daachorse_model.specs.Dictionary.{Dictionary}
use Rattle.daachorse_model.specs.Laws.{Follows}
use Rattle.daachorse_model.specs.Units.{size}
use Rattle.daachorse_streams.specs.Replaced.{AppendsPart}
use Rattle.daachorse_streams.specs.ReplacedWith.{
  IsReplaced,
  IsReplacedFrom,
  IsReplacedSoFar,
  IsReplacedSoFarFrom,
  IsStopped,
  IsStoppedFrom,
  MayWriteFor,
}

-- no key takes more bytes
abbrev pub HasNoLonger : {V : Type 0} → (ℕ → ℕ) → Dictionary V → ℕ → Type 0
HasNoLonger width K longest = (w : List ℕ) → K w ≢ [] → size width w ≤ longest

-- the most bytes that a key takes, or 0 where there is none
pub record IsLongest {V : Type 0} (width : ℕ → ℕ) (K : Dictionary V) (longest : ℕ) : Type 0 where
  pub none_longer : HasNoLonger width K longest
  pub some : (longest ≡ 0) ⊎ ((w : List ℕ) × (K w ≢ []) × (size width w ≡ longest))

-- the match is within these bytes, at their end
abbrev pub EndsWithin : {V : Type 0} → List ℕ → Match V → Type 0
EndsWithin held m = (m.start ≤ m.end) × (m.end ≤ m.start + length held)

-- how many of these bytes come before the match that they end with
abbrev pub before_match : {V : Type 0} → List ℕ → Match V → ℕ
before_match held m = length held - (m.end - m.start)

-- the bytes of a block, 64 KiB
abbrev pub block : ℕ
block = 65536

module _ {O : Type 0} (taken : O → Option (List ℕ)) where
  -- n of the bytes held went out: none, or at least `longest` stay, and no more than a block beside them
  pub record GoesOutSettled (longest n : ℕ) (held : List ℕ) (old : O) (rest : List ℕ) (new : O) : Type 0 where
    pub many : (n ≡ 0) ⊎ (n + longest ≤ length held)
    pub inner : n ≤ length held
    pub went : Appends (taken old) (taken new) (take n held)
    pub left : rest ≡ drop n held
    pub few : length rest ≤ longest + block

module _ {S U : Type 0} (steps : S → Option U → S → Type 0) (failure : S → Option Error) where
  -- the source is at its end, which is no failure
  abbrev pub IsAtWholeEnd : S → Type 0
  IsAtWholeEnd s = (ended : S) × steps s None ended × (failure ended ≡ None)

  -- the source fails with this error
  abbrev pub FailsWith : Error → S → Type 0
  FailsWith e s = (ended : S) × steps s None ended × (failure ended ≡ Some e)

module _ {V P O E F : Type 0} (bytes : P → List ℕ) (taken : O → Option (List ℕ))
    (step : F → Match V → P → MutBor O → Result (Unit {0}) E → MutBor O → F → Type 0) where
  -- Of the bytes held, what no later match may need went out. With no match, n of them did. With one, the bytes before it did, its call was
  -- made, and none stay.
  abbrev pub Settles : ℕ → Option (Match V) → List ℕ → F → O → List ℕ → F → O → Type 0
  Settles longest None held f old rest g new =
      (n : ℕ) × GoesOutSettled taken longest n held old rest new × (g ≡ f)
  Settles longest (Some m) held f old rest g new =
      (at : O) × Appends (taken old) (taken at) (take (before_match held m) held)
      × MayWriteFor bytes step f m (drop (before_match held m) held) at (Ok tt) new g × (rest ≡ [])

  -- the same where it stopped with this error: the output refused some bytes, or the call returned the error
  abbrev pub SettlesSoFar : E → ℕ → Option (Match V) → List ℕ → F → O → O → Type 0
  SettlesSoFar e longest None held f old new = (n : ℕ) × (n + longest ≤ length held) × AppendsPart (taken old) (taken new) (take n held)
  SettlesSoFar e longest (Some m) held f old new =
      AppendsPart (taken old) (taken new) (take (before_match held m) held)
      ⊎ ((at : O) × (g : F) × Appends (taken old) (taken at) (take (before_match held m) held)
      × MayWriteFor bytes step f m (drop (before_match held m) held) at (Err e) new g)

  module _ (first : F) (old : O) where
    -- From f and this output at s on, whatever comes of more matches and more bytes comes of those before and more from the start.
    pub record LeadsOn (text : List ℕ) (done : List (Match V)) (s : ℕ) (f : F) (out : O) : Type 0 where
      pub all : (more : List ℕ) (ms : List (Match V)) (new : O) → Follows s ms
          → IsReplacedFrom bytes taken (text ++ more) step s ms f out new
          → IsReplaced bytes taken (text ++ more) step (done ++ ms) first old new
      pub some : (more : List ℕ) (ms : List (Match V)) (new : O) → Follows s ms
          → IsReplacedSoFarFrom bytes taken (text ++ more) step s ms f out new
          → IsReplacedSoFar bytes taken (text ++ more) step (done ++ ms) first old new
      pub stops : (e : E) (more : List ℕ) (ms : List (Match V)) (new : O) → Follows s ms
          → IsStoppedFrom bytes taken (text ++ more) step e s ms f out new
          → IsStopped bytes taken (text ++ more) step e (done ++ ms) first old new

    -- Of this text the bytes from a place on are held. Those before went out, with these matches replaced.
    pub record IsHeld (text : List ℕ) (done : List (Match V)) (place : ℕ) (held : List ℕ) (f : F) (out : O) : Type 0 where
      pub front : List ℕ
      pub ends : length front ≡ place
      pub parts : text ≡ front ++ held
      pub leads : LeadsOn front done place f out

  module _ {X : Type 0} (matches : X → List (Match V)) where
    -- A beginning of this text went out with these matches replaced, and the rest is held.
    -- However the text goes on, its other matches begin in what is held or later.
    pub record IsHeldBack (text held : List ℕ) (f : F) (old new : O) : Type 0 where
      pub done : List (Match V)
      pub front : List ℕ
      pub parts : text ≡ front ++ held
      pub replaced : IsReplaced bytes taken front step done f old new
      pub certain : (more : X) → (rest : List (Match V)) × (matches more ≡ done ++ rest) × Follows (length front) rest

  module _ {S U : Type 0} (steps : S → Option U → S → Type 0) (failure : S → Option Error) (unit : U → ℕ) (form : U → List ℕ)
      (matches : List ℕ → List (Match V)) where
    -- the source came to its end, and the bytes of what it gave went to the output with each match replaced
    pub record IsStreamed (s : S) (f : F) (old new : O) : Type 0 where
      pub units : List U
      pub last : S
      pub ended : S
      pub took : Yields steps s units last
      pub ends : steps last None ended
      pub whole : failure ended ≡ None
      pub replaced : IsReplaced bytes taken (flat_map form units) step (matches (map unit units)) f old new

  module _ {U : Type 0} (unit : U → ℕ) (form : U → List ℕ) (matches : List ℕ → List (Match V)) where
    -- the bytes of these units went to the output up to some place
    abbrev pub IsStreamedUpTo : List U → F → O → O → Type 0
    IsStreamedUpTo units f old new = IsReplacedSoFar bytes taken (flat_map form units) step (matches (map unit units)) f old new

    -- their replacement stopped with this error
    abbrev pub StopsAmong : E → List U → F → O → O → Type 0
    StopsAmong e units f old new = IsStopped bytes taken (flat_map form units) step e (matches (map unit units)) f old new

module _ {V P O F S U : Type 0} (bytes : P → List ℕ) (taken : O → Option (List ℕ))
    (step : F → Match V → P → MutBor O → Result (Unit {0}) Error → MutBor O → F → Type 0)
    (steps : S → Option U → S → Type 0) (failure : S → Option Error) (unit : U → ℕ) (form : U → List ℕ)
    (matches : List ℕ → List (Match V)) where
  -- Why a stream stopped with this error, after the source gave these units. The source failed with it, or an allocation failed:
  -- what went out is right however the source goes on, and no more bytes are held back than the longest key and a block have.
  -- Or the output refused some of the bytes that were to go out, or a call returned the error: however the source goes on, or at its end.
  pub record IsStreamedSoFar (longest : ℕ) (e : Error) (s : S) (f : F) (old new : O) : Type 0 where
    pub units : List U
    pub last : S
    pub took : Yields steps s units last
    pub because :
        ((FailsWith steps failure e last ⊎ (error_kind e ≡ OutOfMemory))
        × ((more : List U) → IsStreamedUpTo bytes taken step unit form matches (units ++ more) f old new)
        × (held : List ℕ) × (length held ≤ longest + block)
        × IsHeldBack bytes taken step (λ more. matches (map unit (units ++ more))) (flat_map form units) held f old new)
        ⊎ (((more : List U) → StopsAmong bytes taken step unit form matches e (units ++ more) f old new)
        ⊎ (IsAtWholeEnd steps failure last × StopsAmong bytes taken step unit form matches e units f old new))

module _ {V P O E F : Type 0} (bytes : P → List ℕ) (taken : O → Option (List ℕ))
    (step : F → Match V → P → MutBor O → Result (Unit {0}) E → MutBor O → F → Type 0) where
  module _ (is_unit : ℕ → Type 0) (spelled : List ℕ → List ℕ) (known : Option (List ℕ)) (matches : List ℕ → List (Match V)) where
    -- units whose bytes are all that a reader had left, where that is known, went to the output with each match replaced
    pub record IsReadReplaced (f : F) (old new : O) : Type 0 where
      pub units : List ℕ
      pub are : All is_unit units
      pub all : IfSome known (λ left. left ≡ spelled units)
      pub replaced : IsReplaced bytes taken (spelled units) step (matches units) f old new

    -- the bytes of these units went to the output up to some place
    abbrev pub IsReadUpTo : List ℕ → F → O → O → Type 0
    IsReadUpTo units f old new = IsReplacedSoFar bytes taken (spelled units) step (matches units) f old new

    -- their replacement stopped with this error
    abbrev pub StopsAmongRead : E → List ℕ → F → O → O → Type 0
    StopsAmongRead e units f old new = IsStopped bytes taken (spelled units) step e (matches units) f old new

    module _ (no_longer : ℕ → Type 0) where
      -- The bytes of these units are a beginning of that. The reader or an allocation failed: what went out is right however the reader
      -- goes on,
      -- and no more bytes are held back than the longest key and a block have. Or the output refused some of the bytes that were to go out,
      -- or a call returned the error: however the reader goes on, or at its end.
      pub record IsReadReplacedSoFar (e : E) (f : F) (old new : O) : Type 0 where
        pub units : List ℕ
        pub are : All is_unit units
        pub begins : IfSome known (λ left. (rest : List ℕ) × (left ≡ spelled units ++ rest))
        pub because :
            (((more : List ℕ) → IsReadUpTo (units ++ more) f old new)
            × (held : List ℕ) × ((most : ℕ) → no_longer most → length held ≤ most + block)
            × IsHeldBack bytes taken step (λ more. matches (units ++ more)) (spelled units) held f old new)
            ⊎ (((more : List ℕ) → StopsAmongRead e (units ++ more) f old new)
            ⊎ (IfSome known (λ left. left ≡ spelled units) × StopsAmongRead e units f old new))

      -- what a reader gives is replaced: all of it, or what came before a refusal
      abbrev pub ReplacesRead : {T : Type 0} → Result T E → F → O → O → Type 0
      ReplacesRead (Ok x) f old new = IsReadReplaced f old new
      ReplacesRead (Err e) f old new = IsReadReplacedSoFar e f old new
