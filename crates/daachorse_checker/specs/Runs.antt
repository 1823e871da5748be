-- Where a chain of outputs goes on behind those of one length.
use Rattle.std.specs.Prelude.{◌≡◌, ℕ, suc, ◌<◌, Bool, List, [], length, slice_get, slice_index, Some}
use Rattle.daachorse_core.specs.declared.outputs.Output.{Output}
use Rattle.daachorse_core.specs.Outputs.{length_of}
use Rattle.daachorse_model.specs.Prefixes.{is_key}
use Rattle.daachorse_array.specs.Machines.{own_from}

-- whether there is a value
abbrev pub has_values : {V : Type 0} → List V → Bool
has_values vs = is_key (λ (_ : List ℕ). vs) []

-- of each output the position where its chain goes on behind those of its length
abbrev pub AreRuns : {V : Type 0} → List (Output V) → List ℕ → Type 0
AreRuns {V} outputs runs = (q : ℕ) (o : Output V) → q < length runs → slice_get outputs q ≡ Some o → slice_index runs q ≡ (own_from outputs (suc q) (length_of o) (suc q)).1
