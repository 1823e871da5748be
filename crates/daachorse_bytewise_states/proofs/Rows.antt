-- The automata of [ab, b], computed: in both the root is element 0, and the states of a, ab and b are 4, 2 and 7.
use Rattle.std.proofs.Common.{◌≡◌, ℕ, zero, suc, ◌+◌, ◌*◌, true, false, List, [], ◌∷◌, map, refl, codes, Some, None}
use Rattle.std.specs.Prelude.{slice_set}
use Rattle.daachorse_core.specs.Outputs.{outputs_at}
use Rattle.daachorse_core.specs.declared.outputs.Output.{Output}
use Rattle.daachorse_model.specs.declared.MatchKind.TheVariants.{Standard, LeftmostLongest}
use Rattle.daachorse_model.specs.Units.{byte_width}
use Rattle.daachorse_array.specs.Machines.{right_fail}
use Rattle.daachorse_array.specs.Texts.{text_of}
use Rattle.daachorse_bytewise_states.specs.declared.state.State.{State}
use Rattle.daachorse_bytewise_states.specs.Parts.{Parts, child, content, fail_of, machine, parts_of}
use Rattle.daachorse_bytewise_states.specs.Valid.{text}

abbrev element : ℕ → ℕ → ℕ → ℕ → State ℕ
element base fail position check = record { base = base; fail = fail; packed = record { word = position * 256 + check } }

-- elements whose check is their index
abbrev vacant_from : ℕ → ℕ → List (State ℕ)
vacant_from zero i = []
vacant_from (suc n) i = element 0 0 0 i ∷ vacant_from n (i + 1)

-- a block of elements, where the link of ab is this
abbrev block : ℕ → List (State ℕ)
block link =
    slice_set (slice_set (slice_set (slice_set (vacant_from 256 0) 0 (element 101 0 0 0)) 2 (element 0 link 2 98)) 4 (element 96 0 0 97)) 7 (element 0 0 1 98)

abbrev output : ℕ → ℕ → ℕ → Output ℕ
output value length parent = record { value = value; length = length; parent = parent }

-- behind ab the outputs go on with those of b
abbrev standard : Parts ℕ
standard = parts_of Standard (block 7) (output 1 1 0 ∷ output 0 2 1 ∷ []) 4

-- ab is a match that starts before its end b: its link is dead
abbrev leftmost : Parts ℕ
leftmost = parts_of LeftmostLongest (block 1) (output 1 1 0 ∷ output 0 2 0 ∷ []) 4

abbrev texts : List (List ℕ)
texts = codes "ab" ∷ codes "b" ∷ codes "a" ∷ codes "abb" ∷ [] ∷ []

standard_content : map (content standard) texts ≡ (0 ∷ []) ∷ (1 ∷ []) ∷ [] ∷ [] ∷ [] ∷ []
standard_content = refl

leftmost_content : map (content leftmost) texts ≡ (0 ∷ []) ∷ (1 ∷ []) ∷ [] ∷ [] ∷ [] ∷ []
leftmost_content = refl

standard_outputs : outputs_at standard.outputs 2 ≡ (0, 2) ∷ (1, 1) ∷ []
standard_outputs = refl

leftmost_outputs : outputs_at leftmost.outputs 2 ≡ (0, 2) ∷ []
leftmost_outputs = refl

standard_fail : right_fail byte_width (machine standard) false (codes "ab") ≡ Some (fail_of standard 2)
standard_fail = refl

leftmost_fail : right_fail byte_width (machine leftmost) true (codes "ab") ≡ Some (fail_of leftmost 2)
leftmost_fail = refl

standard_child : child standard 0 98 ≡ Some 7
standard_child = refl

-- the byte 99 leads from the root to element 6, whose check is 6
no_child : child standard 0 99 ≡ None
no_child = refl

text_of_ab : text standard 2 ≡ codes "ab"
unfolding text_of
text_of_ab = refl
