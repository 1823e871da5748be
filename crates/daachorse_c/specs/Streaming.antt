-- What the calls for streams promise, and why they are refused.
use Rattle.std.specs.Prelude.{◌≡◌, ◌≢◌, ◌⊎◌, ℕ, true, List, [], Option, Some, IsNone, IsSomeAnd, length}
use Rattle.daachorse_c.specs.declared.feeding.Done.{Done}
use Rattle.daachorse_c.specs.declared.found.CMatch.{CMatch}
use Rattle.daachorse_c.specs.declared.refusal.Refusal.{Refusal}
use Rattle.daachorse_c.specs.declared.refusal.Refusal.TheVariants.{InvalidUtf8, NoStream, OutOfMemory, UnknownSearch, WrongKind}
use Rattle.daachorse_c.specs.declared.search.StreamKind.{StreamKind}
use Rattle.daachorse_c.specs.declared.search.StreamKind.TheVariants.{Leftmost}
use Rattle.daachorse_c.specs.Admitting.{IsNotAdmitted}
use Rattle.daachorse_c.specs.Automata.{kind_of, unit_of, width_of}
use Rattle.daachorse_c.specs.Held.{Held}
use Rattle.daachorse_c.specs.Refusals.{IsDoneOr}
use Rattle.daachorse_c.specs.Searches.{IsUnknownSearch, IsUseCause, ServesKind, search_of, stream_number}
use Rattle.daachorse_c.specs.Streams.{IsAtBeginning, Reports}

-- the automaton is as before, and a stream of the search with this number begins
pub record HasBegun (number : ℕ) (old new : Held) : Type 0 where
  pub kind : StreamKind
  pub numbered : stream_number kind ≡ number
  pub kept : new.searches ≡ old.searches
  pub rows : new.rows ≡ old.rows
  pub begins : IsSomeAnd new.stream (IsAtBeginning kind)

-- the search with this number does not serve automata of this kind
abbrev pub IsOfWrongKind : ℕ → Held → Type 0
IsOfWrongKind number a = (kind : StreamKind) × (stream_number kind ≡ number) × ¬ ServesKind (search_of kind) (kind_of a.searches)

-- why an automaton begins no stream
abbrev pub IsNotBegun : ℕ → Held → Refusal → Type 0
IsNotBegun number a r =
    ((r ≡ UnknownSearch) × IsUnknownSearch number) ⊎ ((r ≡ WrongKind) × IsOfWrongKind number a)
    ⊎ ((r ≡ OutOfMemory) × (stream_number Leftmost ≡ number) × ServesKind (search_of Leftmost) (kind_of a.searches))

-- why a call to begin a stream is refused
abbrev pub IsBeginCause : ℕ → Option Held → Refusal → Type 0
IsBeginCause number held r = IsUseCause held r ⊎ IsSomeAnd held (λ a. IsNotBegun number a r)

-- the automaton is as before, and its stream has reported what comes next
pub record HasConsumed (bytes : List ℕ) (old new : Held) (out_old out_new : List CMatch) (done : Done) : Type 0 where
  pub kept : new.searches ≡ old.searches
  pub rows : new.rows ≡ old.rows
  pub reports : IsSomeAnd old.stream (λ s. IsSomeAnd new.stream (λ t. Reports old.searches bytes s t out_old out_new done))

-- why there is no stream to go on
abbrev pub IsStreamless : Held → Refusal → Type 0
IsStreamless a r = (r ≡ NoStream) × IsNone a.stream

-- why an automaton's stream consumes nothing
abbrev pub IsIdleCause : Held → List ℕ → ℕ → Refusal → Type 0
IsIdleCause a bytes room r = IsStreamless a r ⊎ IsSomeAnd a.stream (λ s. IsNotAdmitted (unit_of a.searches) (width_of a.searches) s bytes room r)

-- why a call to consume bytes is refused
abbrev pub IsConsumeCause : Option Held → List ℕ → ℕ → Refusal → Type 0
IsConsumeCause held bytes room r = IsUseCause held r ⊎ IsSomeAnd held (λ a. IsIdleCause a bytes room r)

-- What a call to consume bytes does: the stream goes on, or the answer says why it is refused and nothing changes.
pub record IsConsumption (bytes : List ℕ) (old new : Option Held) (out_old out_new : List CMatch) (taken written answer : ℕ) : Type 0 where
  pub reported : answer ≡ 0 → IsSomeAnd old (λ a. IsSomeAnd new (λ b. HasConsumed bytes a b out_old out_new (record { taken = taken; written = written })))
  pub refused : IsDoneOr (IsConsumeCause old bytes (length out_old)) answer
  pub unchanged : answer ≢ 0 → (new ≡ old) × (out_new ≡ out_old) × (taken ≡ 0) × (written ≡ 0)

-- the automaton is as before, and its stream has ended
pub record HasEnded (old new : Held) : Type 0 where
  pub kept : new.searches ≡ old.searches
  pub rows : new.rows ≡ old.rows
  pub ended : IsSomeAnd old.stream (λ s. new.stream ≡ Some (record s { ended = true }))

-- why an automaton's stream does not end
abbrev pub IsUnendedCause : Held → Refusal → Type 0
IsUnendedCause a r = IsStreamless a r ⊎ IsSomeAnd a.stream (λ s. (r ≡ InvalidUtf8) × (s.partial ≢ []))

-- why a call to end a stream is refused
abbrev pub IsEndCause : Option Held → Refusal → Type 0
IsEndCause held r = IsUseCause held r ⊎ IsSomeAnd held (λ a. IsUnendedCause a r)
