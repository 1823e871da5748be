-- What callers see of an automaton over bytes with rows: the automaton, the rows of its states near the root, and the buckets of its patterns, if there are some.
use Rattle.std.specs.Prelude.{ℕ, List, Option}
use Rattle.daachorse_rows.specs.Rows.{RowTable, Rowed}
use Rattle.daachorse_bytewise_states.specs.Parts.{Parts}
use Rattle.daachorse_bytewise_states.specs.StateRows.{CoversNear, StaysInRows, StaysUnlessLarge}
pub use Rattle.daachorse_prefilter.specs.Buckets.{MayTell, may_begin}
use Rattle.daachorse.specs.bytewise.Automata.{Automaton, dictionary_of, states_of}

pub record Accelerated (V : Type 0) : Type 0 where
  pub automaton : Automaton V
  pub rows : RowTable
  pub buckets : Option (List ℕ)

-- its states with their rows, through which its searches go
abbrev pub rowed_states : {V : Type 0} → Accelerated V → Rowed (Parts V)
rowed_states a = record { automaton = states_of a.automaton; rows = a.rows }

-- each text of at most two bytes that begins a pattern is that of a state with a row
abbrev pub HasRowsNear : {V : Type 0} → Accelerated V → Type 0
HasRowsNear a = CoversNear (states_of a.automaton) a.rows

-- each step by a byte ends in a row, so that its standard searches and steppers take at most one turn for each byte
abbrev pub IsAllRows : {V : Type 0} → Accelerated V → Type 0
IsAllRows a = StaysInRows a.rows

-- it does, or more than 485 texts begin a pattern, the empty one among them
abbrev pub IsAllRowsUnlessLarge : {V : Type 0} → Accelerated V → Type 0
IsAllRowsUnlessLarge a = StaysUnlessLarge (states_of a.automaton) a.rows

-- there are no buckets, or each pattern is marked in them, and no bit is 0 that no pattern opens
abbrev pub MayTellBuckets : {V : Type 0} → Accelerated V → Type 0
MayTellBuckets a = MayTell (λ w. w) (dictionary_of a.automaton) a.buckets
