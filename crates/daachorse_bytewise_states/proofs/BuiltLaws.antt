-- A builder over bytes whose links and outputs are built has what packing asks for.
use Rattle.std.proofs.Common.{◌≡◌, ◌≢◌, ℕ, ◌<◌, ◌≤◌, ◌-◌, ◌^◌, List, length, Option, Some, arith}
use Rattle.std.specs.Prelude.{slice_index}
use Rattle.daachorse_model.specs.declared.MatchKind.{MatchKind}
use Rattle.daachorse_model.specs.Dictionary.{Dictionary}
use Rattle.daachorse_model.specs.Units.{byte_width}
use Rattle.daachorse_build.specs.declared.nfa_builder.NfaBuilder.{NfaBuilder}
use Rattle.daachorse_build.specs.Builders.{outputs_of, states_of}
use Rattle.daachorse_build.specs.Tables.{fails_of, positions_of}
use Rattle.daachorse_patterns.specs.Prefixes.{HasMoreProperPrefixes}
use Rattle.daachorse_patterns.specs.Settled.{HasManyGroups}
use Rattle.daachorse_patterns.proofs.ReadyToPack.{built-count, built-holds, built-links as links, built-many as many-built, built-positions}
use Rattle.daachorse_bytewise_states.specs.declared.state.State.{State}
use Rattle.daachorse_bytewise_states.specs.Parts.{content, parts_of}
use Rattle.daachorse_bytewise_states.specs.Valid.{IsValid}
use Rattle.daachorse_bytewise_states.specs.Packing.{ArePackedOf, IsBuiltFor}
use Rattle.daachorse_bytewise_states.proofs.PackedValid.{packed-content, packed-IsValid}

module _ {V A : Type 0} (kind : MatchKind) (b : NfaBuilder ℕ V A) (K : Dictionary V) (built : IsBuiltFor kind b K) where
  abbrev most : Option ℕ
  most = Some 16777215

  pub built-links : (t : ℕ) → t < length (states_of b) → t ≢ 1 → slice_index (fails_of (states_of b)) t < length (states_of b)
  built-links = links byte_width most kind b K built

  pub built-outputs : (t : ℕ) → t < length (states_of b) → t ≢ 1 → slice_index (positions_of (states_of b)) t < 2 ^ 24
  built-outputs t less alive =
      let fits : slice_index (positions_of (states_of b)) t ≤ length (outputs_of b) = built-positions byte_width most kind b K built t less alive in
      omega (arith, fits, built.few_outputs)

  module _ (es : List (State ℕ)) (p : ArePackedOf (states_of b) es) where
    -- the parts are those of an automaton
    pub built-valid : length es < 2 ^ 32 → IsValid (parts_of kind es (outputs_of b) (length (states_of b) - 1))
    built-valid few = packed-IsValid p.packed kind K (outputs_of b) (built-holds byte_width most kind b K built) built.root built.positions (length (states_of b) - 1) few (omega (arith, built.few_outputs)) (omega (arith, built-count byte_width most kind b K built))

    -- which holds the dictionary
    pub built-content : (n : ℕ) (w : List ℕ) → content (parts_of kind es (outputs_of b) n) w ≡ K w
    built-content n = packed-content p.packed kind K (outputs_of b) (built-holds byte_width most kind b K built) built.root built.positions n

  -- too many groups are too many texts that begin a longer key
  pub built-many : HasManyGroups {A = A} (λ b. b) 256 (states_of b) → HasMoreProperPrefixes K 16777214
  built-many many = many-built byte_width most kind b K built (λ b. b) 256 (omega arith) (omega arith) many
