-- The refusals of calls from C, and their numbers.
use Rattle.std.specs.Prelude.{◌≡◌, ◌⊎◌, ℕ}
use Rattle.daachorse_core.specs.declared.errors.DaachorseError.{DaachorseError}
use Rattle.daachorse_core.specs.declared.errors.DaachorseError.TheVariants.{InvalidArgument, AutomatonScale, InvalidConversion, InvalidAutomaton as NoAutomaton, OutOfMemory as NoMemory}
use Rattle.daachorse_core.specs.declared.errors.Limit.{Limit}
use Rattle.daachorse_core.specs.declared.errors.Limit.TheVariants.{PatternValues, StateId, NumElements, Outputs, OutputPos}
use Rattle.daachorse_c.specs.declared.refusal.Refusal.{Refusal}
use Rattle.daachorse_c.specs.declared.refusal.Refusal.TheVariants.{OutOfMemory, EmptyHandle, UnknownKind, WrongKind, WrongPatterns, PatternTooLong, TooManyStates, TooManyPatterns, TooManyElements, InvalidAutomaton, NoRoom, NoStream, StreamTooLong, UnknownOption, WrongPlace, UnknownSearch, StreamEnded, InvalidUtf8}

abbrev pub refusal_number : Refusal → ℕ
refusal_number OutOfMemory = 1
refusal_number EmptyHandle = 2
refusal_number UnknownKind = 3
refusal_number WrongKind = 4
refusal_number WrongPatterns = 5
refusal_number PatternTooLong = 6
refusal_number TooManyStates = 7
refusal_number TooManyPatterns = 8
refusal_number TooManyElements = 9
refusal_number InvalidAutomaton = 10
refusal_number NoRoom = 11
refusal_number NoStream = 12
refusal_number StreamTooLong = 13
refusal_number UnknownOption = 14
refusal_number WrongPlace = 15
refusal_number UnknownSearch = 16
refusal_number StreamEnded = 17
refusal_number InvalidUtf8 = 18

-- a call answers 0, or the number of a refusal for which P holds
abbrev pub IsDoneOr : (Refusal → Type 0) → ℕ → Type 0
IsDoneOr P answer = (answer ≡ 0) ⊎ ((r : Refusal) × (answer ≡ refusal_number r) × P r)

-- the refusal of a build that would pass a limit: there are as many outputs as patterns
abbrev pub limit_refusal : Limit → Refusal
limit_refusal PatternValues = TooManyPatterns
limit_refusal StateId = TooManyStates
limit_refusal NumElements = TooManyElements
limit_refusal Outputs = TooManyPatterns
limit_refusal OutputPos = TooManyPatterns

-- the refusal that an error of the library is
abbrev pub refusal_of : DaachorseError → Refusal
refusal_of (InvalidArgument _) = PatternTooLong
refusal_of (AutomatonScale e) = limit_refusal e.limit
refusal_of (InvalidConversion _) = InvalidAutomaton
refusal_of (NoAutomaton _) = InvalidAutomaton
refusal_of (NoMemory _) = OutOfMemory
