-- A filter over pairs of bytes with its gate and buckets of patterns with theirs, as a search sees them.
use Rattle.std.specs.Prelude.{◌≡◌, ℕ, ◌-◌, ◌↔◌, Bool, true, ◌&&◌, IsTrue, List, [], ◌∷◌, ◌++◌, Option, Some, None, IsSome}
use Rattle.daachorse_prefilter.specs.declared.prefilter.gate.PrefilterGate.{PrefilterGate}
use Rattle.daachorse_prefilter.specs.Filters.{Filter, admits}
use Rattle.daachorse_prefilter.specs.Gates.{HasRecorded, IsPaying}
use Rattle.daachorse_model.specs.Units.{size}

-- the filter, if there is one, the buckets, if candidates are found by some, the gate before both, and whether that of the buckets is open
pub record Asked : Type 0 where
  pub filter : Option Filter
  pub buckets : Option (List ℕ)
  pub gate : PrefilterGate
  pub buckets_gate_is_open : Bool

-- the filter passes at the beginning of these bytes, and so does the test; where there is no filter, anything passes
abbrev pub lets_pass : (List ℕ → Bool) → Option Filter → List ℕ → Bool
lets_pass tested None bytes = true
lets_pass tested (Some f) bytes = tested bytes && admits f bytes

-- this filter, if there is one, is asked, and these buckets, if there are some, and the gates have recorded nothing
pub record BeginsAskingBoth (table : Option (List ℕ)) (f : Option Filter) (s : Asked) : Type 0 where
  pub filter : s.filter ≡ f
  pub buckets : s.buckets ≡ table
  pub gate : HasRecorded s.gate []
  pub buckets_gate : IsTrue s.buckets_gate_is_open

-- this filter alone, if there is one, is asked, and its gate has recorded nothing
abbrev pub BeginsAsking : Option Filter → Asked → Type 0
BeginsAsking f s = BeginsAskingBoth None f s

-- there is a filter, and the gates have recorded nothing
abbrev pub IsUnused : Asked → Type 0
IsUnused s = IsSome s.filter × HasRecorded s.gate [] × IsTrue s.buckets_gate_is_open

-- whatever its gate has recorded: the filter is worth asking just where there is one, its skips paid for themselves and the other gate is open
abbrev pub IsOpenWhilePaying : Asked → Bool → Type 0
IsOpenWhilePaying s answer = (gains : List ℕ) → HasRecorded s.gate gains → IsTrue answer ↔ (IsSome s.filter × IsPaying gains × IsTrue s.buckets_gate_is_open)

-- whatever its gate has recorded, there is a filter, and its skips paid for themselves
abbrev pub IsWorthAsking : Asked → Type 0
IsWorthAsking s = (gains : List ℕ) → HasRecorded s.gate gains → IsSome s.filter × IsPaying gains

-- one run that skipped n bytes, where there is a filter to run
abbrev pub run_of : Option Filter → ℕ → List ℕ
run_of None n = []
run_of (Some f) n = n ∷ []

-- beside what its gate had recorded stands one run, which skipped the bytes from some units to those that they end with
abbrev pub HasRecordedSkip : (ℕ → ℕ) → Asked → List ℕ → List ℕ → Asked → Type 0
HasRecordedSkip width s units later t =
    (gains : List ℕ) → HasRecorded s.gate gains → HasRecorded t.gate (gains ++ run_of s.filter (size width units - size width later))
