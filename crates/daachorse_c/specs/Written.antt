-- What is written of an automaton for C, what is read, and why either is refused.
use Rattle.std.specs.Prelude.{◌≡◌, ◌⊎◌, ℕ, ◌+◌, ◌<◌, ◌≤◌, ◌^◌, List, [], ◌++◌, drop, length, Option, IsSomeAnd}
use Rattle.std.specs.Int.{w32}
use Rattle.daachorse_serializer.specs.Forms.{number_form, take_number}
use Rattle.daachorse.specs.bytewise.ReadForms.{GivesAutomaton as GivesBytewise, GivesNoAutomaton as GivesNoBytewise}
use Rattle.daachorse.specs.bytewise.WrittenForms.{BeginsWithAutomaton as BeginsWithBytewise, IsAutomaton as IsBytewise, without_depths as bytewise_alone, written_form as bytewise_form}
use Rattle.daachorse.specs.charwise.ReadForms.{GivesAutomaton as GivesCharwise, GivesNoAutomaton as GivesNoCharwise}
use Rattle.daachorse.specs.charwise.WrittenForms.{BeginsWithAutomaton as BeginsWithCharwise, IsAutomaton as IsCharwise, without_depths as charwise_alone, written_form as charwise_form}
use Rattle.daachorse_c.specs.declared.refusal.Refusal.{Refusal}
use Rattle.daachorse_c.specs.declared.refusal.Refusal.TheVariants.{OutOfMemory, InvalidAutomaton, NoRoom, UnknownOption}
use Rattle.daachorse_c.specs.declared.unit.Unit.{Unit}
use Rattle.daachorse_c.specs.declared.unit.Unit.TheVariants.{Byte, Character}
use Rattle.daachorse_c.specs.Automata.{Automaton, Bytes, Characters, unit_of}
use Rattle.daachorse_c.specs.Held.{Held}
use Rattle.daachorse_c.specs.Searches.{IsUseCause}
use Rattle.daachorse_c.specs.Units.{unit_numbered}

-- the written form of an automaton, whose values have 32 bits
abbrev pub form_of : Automaton → List ℕ
form_of (Bytes a) = bytewise_form (number_form w32) a
form_of (Characters a) = charwise_form (number_form w32) a

-- an automaton in hand whose values have 32 bits
abbrev pub IsWhole : Automaton → Type 0
IsWhole (Bytes a) = IsBytewise (λ v. v < 2 ^ 32) a
IsWhole (Characters a) = IsCharwise (λ v. v < 2 ^ 32) a

-- the same automaton, where no depths are cached
abbrev pub without_depths : Automaton → Automaton
without_depths (Bytes a) = Bytes (bytewise_alone a)
without_depths (Characters a) = Characters (charwise_alone a)

-- they stand at the beginning, and after them what was there
pub record StandsInFront (items old new : List ℕ) : Type 0 where
  pub fits : length items ≤ length old
  pub copied : new ≡ items ++ drop (length items) old

-- why an automaton is not written to this room, and what `size` reports then
abbrev pub IsNotWritten : Automaton → List ℕ → ℕ → Refusal → Type 0
IsNotWritten a room size r = ((r ≡ OutOfMemory) × (size ≡ 0)) ⊎ ((r ≡ NoRoom) × (size ≡ length (form_of a)) × (length room < size))

-- why a call to write is refused, and what `size` reports then
abbrev pub IsWriteCause : Option Held → List ℕ → ℕ → Refusal → Type 0
IsWriteCause held room size r = (IsUseCause held r × (size ≡ 0)) ⊎ IsSomeAnd held (λ a. IsNotWritten a.searches room size r)

-- the bytes begin with this automaton, these are left, and no depths are cached
abbrev pub GivesAutomaton : List ℕ → Automaton → List ℕ → Type 0
GivesAutomaton bytes (Bytes a) rest = GivesBytewise (take_number w32) bytes a rest × (a.depths ≡ [])
GivesAutomaton bytes (Characters a) rest = GivesCharwise (take_number w32) bytes a rest × (a.depths ≡ [])

-- the bytes begin with no automaton over this unit, and so not with what was written of one
abbrev pub GivesNone : Unit → List ℕ → Type 0
GivesNone Byte bytes = GivesNoBytewise (take_number w32) bytes × ¬ BeginsWithBytewise (λ v. v < 2 ^ 32) (number_form w32) bytes
GivesNone Character bytes = GivesNoCharwise (take_number w32) bytes × ¬ BeginsWithCharwise (λ v. v < 2 ^ 32) (number_form w32) bytes

-- The bytes begin with this automaton over the unit, which takes so many of them. Where they begin with what was written of one, it is that one.
pub record IsRead (unit : Unit) (bytes : List ℕ) (a : Automaton) (count : ℕ) : Type 0 where
  pub over : unit_of a ≡ unit
  pub rest : List ℕ
  pub given : GivesAutomaton bytes a rest
  pub taken : count + length rest ≡ length bytes
  pub back : (written : Automaton) (behind : List ℕ) → unit_of written ≡ unit → IsWhole written → bytes ≡ form_of written ++ behind → (a ≡ without_depths written) × (count ≡ length (form_of written))

-- why bytes are not read as an automaton over the unit
abbrev pub IsReadCause : Unit → List ℕ → Refusal → Type 0
IsReadCause unit bytes r = (r ≡ OutOfMemory) ⊎ ((r ≡ InvalidAutomaton) × GivesNone unit bytes)

-- why bytes are not read as an automaton over the unit with this number
abbrev pub IsReadWithCause : ℕ → List ℕ → Refusal → Type 0
IsReadWithCause unit bytes r = ((r ≡ UnknownOption) × (1 < unit)) ⊎ ((unit ≤ 1) × IsReadCause (unit_numbered unit) bytes r)
