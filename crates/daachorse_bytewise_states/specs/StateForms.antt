-- The form of an element: the base as a number of 32 bits, the link, and the output position and the check in one word.
use Rattle.std.specs.Prelude.{◌≡◌, ℕ, ◌+◌, ◌<◌, ◌^◌, List, ◌++◌, refl}
use Rattle.std.proofs.Common.{subst, arith}
use Rattle.std.specs.Int.{w32}
use Rattle.daachorse_serializer.specs.declared.intpack.U24nU8.{U24nU8}
use Rattle.daachorse_serializer.specs.Forms.{Taken, IsForm, over, take_pair, number_form, take_number}
use Rattle.daachorse_serializer.specs.Laws.{number_law, packed_law, pair_law, law_through}
use Rattle.daachorse_serializer.specs.Packed.{word_of, packed_form, take_packed}
use Rattle.daachorse_bytewise_states.specs.declared.state.State.{State}
use Rattle.daachorse_bytewise_states.specs.Elements.{base_in, fail_in}

module _ {F : Type 0} where
  -- `output position * 256 + check`
  abbrev pub packed_in : State F → U24nU8
  packed_in e = e.packed

  -- the base, the link, and the packed word
  abbrev pub fields_of : State F → ℕ × (F × U24nU8)
  fields_of e = (base_in e, (fail_in e, packed_in e))

  -- the element of these parts
  abbrev pub state_of : ℕ × (F × U24nU8) → State F
  state_of p = record { base = p.0; fail = p.1.0; packed = p.1.1 }

  abbrev pub IsStateValue : (F → Type 0) → State F → Type 0
  IsStateValue P e = (base_in e < 2 ^ 32) × P (fail_in e) × (word_of (packed_in e) < 2 ^ 32)

  abbrev pub state_form : (F → List ℕ) → State F → List ℕ
  state_form f e = number_form w32 (base_in e) ++ (f (fail_in e) ++ packed_form (packed_in e))

  abbrev pub take_state : (List ℕ → Taken F) → List ℕ → Taken (State F)
  take_state t bytes = over state_of (take_pair (take_number w32) (take_pair t take_packed) bytes)

-- the law of an element, from that of its link
pub state_law : {F : Type 0} {P : F → Type 0} {form : F → List ℕ} {taken : List ℕ → Taken F} {n : ℕ} → IsForm P form taken (λ _. n)
    → IsForm (IsStateValue P) (state_form form) (take_state taken) (λ _. n + 8)
state_law {F} {P} {form} {taken} {n} law =
    let sum : 4 + (n + 4) ≡ n + 8 = omega arith in
    let Law : ℕ → Type 0 = λ k. IsForm (IsStateValue P) (state_form form) (take_state taken) (λ _. k) in
    subst Law sum
    (law_through state_of fields_of (IsStateValue P) (λ e h. (h.0, (h.1, h.2))) (λ e h. refl) (pair_law (number_law w32) (pair_law law packed_law)))
