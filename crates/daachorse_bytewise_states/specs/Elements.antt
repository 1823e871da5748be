-- One element of the double array: its base, its check, its failure link, and the position of its first output. A base
-- or a position of 0 stands for none.
use Rattle.std.specs.Prelude.{ℕ}
use Rattle.daachorse_core.specs.declared.outputs.Empty.{Empty}
use Rattle.daachorse_serializer.specs.Packed.{upper, lower, word_of}
use Rattle.daachorse_bytewise_states.specs.declared.state.State.{State}

module _ {F : Type 0} where
  abbrev pub base_in : State F → ℕ
  base_in e = e.base

  abbrev pub fail_in : State F → F
  fail_in e = e.fail

  abbrev pub check_in : State F → ℕ
  check_in e = lower e.packed

  abbrev pub output_in : State F → ℕ
  output_in e = upper e.packed

  -- the word of both
  abbrev pub word_in : State F → ℕ
  word_in e = word_of e.packed

-- the elements that a default makes: all 0
abbrev pub vacant : State ℕ
vacant = record { base = 0; fail = 0; packed = record { word = 0 } }

abbrev pub vacant_left : State Empty
vacant_left = record { base = 0; fail = record {}; packed = record { word = 0 } }
