-- What is read at a position of outputs: one output, and the position where the rest of its chain stands.
use Rattle.std.proofs.Common.{◌≡◌, ℕ, zero, suc, ◌-◌, ◌<◌, ◌≤◌, List, ◌∷◌, length, inl, inr, Option, Some, None, sym, ap, ◌∙◌, arith, slice_index_or}
use Rattle.std.specs.Prelude.{slice_get, IfSome}
use Rattle.std.specs.declared.num.NonZeroU32.{NonZeroU32}
use Rattle.std.proofs.lemmas.Option.{slice_get-get_or, slice_get_cases}
use Rattle.daachorse_core.specs.declared.outputs.Output.{Output}
use Rattle.daachorse_core.specs.Outputs.{number, value_of, length_of, parent_of, outputs_at, ParentsFall}
use Rattle.daachorse_core.proofs.OutputLists.{length-list_from, outputs_at-step}

module _ {V : Type 0} (outputs : List (Output V)) where
  pub outputs_few : (q : ℕ) → q ≤ length outputs → length (outputs_at outputs q) ≤ length outputs
  outputs_few q h = let k : length (outputs_at outputs q) ≤ q = length-list_from outputs q q in omega (arith, h, k)

  module _ (falls : ParentsFall outputs) where
    pub output_read : (q : ℕ) (o : Output V) → 0 < q → q ≤ length outputs → o ≡ slice_index_or outputs (q - 1) o
        → (parent_of o ≤ length outputs) × (outputs_at outputs q ≡ (value_of o, length_of o) ∷ outputs_at outputs (parent_of o))
    output_read zero o low high is = absurd (omega arith)
    output_read (suc k) o low high is =
        let at : suc k - 1 ≡ k = omega arith in
        let stands : slice_get outputs k ≡ Some o = slice_get-get_or outputs k o (omega arith) ∙ ap (λ x. Some x) (sym (is ∙ ap (λ x. slice_index_or outputs x o) at)) in
        let fall : parent_of o ≤ k = falls k o stands in
        (omega (arith, fall, high), outputs_at-step outputs falls k o stands)

    pub outputs_some : (o : Option NonZeroU32) → number o ≤ length outputs → IfSome o (λ q. 0 < length (outputs_at outputs q.value))
    outputs_some None h = tt
    outputs_some (Some q) h = go q.value q.ok h
      where
        go : (k : ℕ) → 0 < k → k ≤ length outputs → 0 < length (outputs_at outputs k)
        go zero low high = absurd (omega arith)
        go (suc k) low high =
            elim (slice_get_cases outputs k).1 [
              | inl r ↦ rw (outputs_at-step outputs falls k r.0 r.2) (omega arith)
              | inr past ↦ absurd (omega (arith, past.0, high))
            ]
