-- An output by its parts, and its form: that of the value, and the length and the parent as numbers of 32 bits.
use Rattle.std.specs.Prelude.{ℕ, ◌<◌, ◌^◌, List, ◌++◌}
use Rattle.std.specs.Int.{w32}
use Rattle.daachorse_core.specs.declared.outputs.Output.{Output}
use Rattle.daachorse_core.specs.Outputs.{value_of, length_of, parent_of}
use Rattle.daachorse_serializer.specs.Forms.{Taken, over, take_pair, number_form, take_number}

-- the value, and the length and the parent
abbrev pub fields_of : {V : Type 0} → Output V → V × (ℕ × ℕ)
fields_of o = (value_of o, (length_of o, parent_of o))

-- the output of these parts
abbrev pub output_from : {V : Type 0} → V × (ℕ × ℕ) → Output V
output_from p = record { value = p.0; length = p.1.0; parent = p.1.1 }

abbrev pub IsOutput : {V : Type 0} → (V → Type 0) → Output V → Type 0
IsOutput P o = P (value_of o) × (length_of o < 2 ^ 32) × (parent_of o < 2 ^ 32)

abbrev pub output_form : {V : Type 0} → (V → List ℕ) → Output V → List ℕ
output_form f o = f (value_of o) ++ (number_form w32 (length_of o) ++ number_form w32 (parent_of o))

abbrev pub take_output : {V : Type 0} → (List ℕ → Taken V) → List ℕ → Taken (Output V)
take_output t bytes = over output_from (take_pair t (take_pair (take_number w32) (take_number w32)) bytes)
