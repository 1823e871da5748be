-- What is built is packed, and the parts hold the builder's dictionary.
use Rattle.std.proofs.Common.{◌≡◌, ◌-◌, ℕ, List, length, ap, subst, sym}
use Rattle.std.proofs.lemmas.Result.{IfOk-from_err, IfOk-weaker, IfErr-weaker, err_from_is_err_and}
use Rattle.daachorse_core.specs.declared.errors.DaachorseError.{DaachorseError}
use Rattle.daachorse_core.specs.declared.errors.Limit.TheVariants.{NumElements}
use Rattle.daachorse_core.specs.declared.outputs.Output.{Output}
use Rattle.daachorse_core.specs.Refusals.{IsRefusal}
use Rattle.daachorse_core.proofs.Refusals.{IsRefusal-weaker}
use Rattle.daachorse_model.specs.Dictionary.{Dictionary}
use Rattle.daachorse_build.specs.Builders.{outputs_of, states_of}
use Rattle.daachorse_bytewise_states.specs.Parts.{Parts, content, parts_of}
use Rattle.daachorse_bytewise_states.specs.Packing.{IsBuiltFor}
use Rattle.daachorse_patterns.specs.Settled.{HasManyGroups}
use Rattle.daachorse_patterns.specs.Prefixes.{HasMoreProperPrefixes}
use Rattle.daachorse_bytewise_states.specs.Valid.{IsValid}
use Rattle.daachorse_bytewise_states.proofs.BuiltLaws.{built-content, built-links, built-many, built-outputs, built-valid}
use Rattle.daachorse_bytewise_states.proofs.states.States.build.Goals as goal

pub pack-requires-clause-trie : goal.pack-requires-clause-trie
pack-requires-clause-trie g c = c.requires.built.1.trie

pub pack-requires-clause-count : goal.pack-requires-clause-count
pack-requires-clause-count g c = c.requires.built.1.few_states

pub pack-requires-clause-links : goal.pack-requires-clause-links
pack-requires-clause-links g c = built-links c.args.kind c.args.nfa c.requires.built.0 c.requires.built.1

pub pack-requires-clause-outputs : goal.pack-requires-clause-outputs
pack-requires-clause-outputs g c = built-outputs c.args.kind c.args.nfa c.requires.built.0 c.requires.built.1

pub returns-in_err-elements : goal.returns-in_err-elements
returns-in_err-elements g c = record {
  ok = IfOk-from_err c.from_residual.result _ c.from_residual.ensures.0;
  kind = IfOk-from_err c.from_residual.result _ c.from_residual.ensures.0;
  err =
      let p = err_from_is_err_and c.from_residual.result c.from_residual.ensures.1 in
      let Passed : Type 0 = (K : Dictionary g.row.V.Denot) → IsBuiltFor c.args.kind c.args.nfa K → HasMoreProperPrefixes K 16777214 in
      rw (p.1, p.2) (IsRefusal-weaker ⊥ ⊥ NumElements (HasManyGroups {A = g.row.A.Denot} (λ b. b) 256 (states_of c.args.nfa)) Passed (λ x. x) (λ many K built. built-many c.args.kind c.args.nfa K built many) c.in_err-elements.field-0.0 c.in_err-elements.ensures.err);
}

pub new-requires : goal.new-requires
new-requires g c =
    let es = c.in_ok-elements.elements.items in
    let P : List (Output g.row.V.Denot) → Type 0 = λ os. IsValid (parts_of c.args.kind es os (length c.states.result.now - 1)) in
    let N : ℕ → Type 0 = λ n. IsValid (parts_of c.args.kind es (outputs_of c.args.nfa) (n - 1)) in
    subst P (sym c.into_parts-states.ensures.outputs) (subst N (sym (ap length c.states.ensures)) (built-valid c.args.kind c.args.nfa c.requires.built.0 c.requires.built.1 es c.in_ok-elements.ensures.ok c.in_ok-elements.ensures.few))

pub returns : goal.returns
returns g c = record {
  ok =
      IfOk-weaker c.new.result _ _
      (λ s made K built w.
      let P : Parts g.row.V.Denot → Type 0 = λ p. content p w ≡ K w in
      let O : List (Output g.row.V.Denot) → Type 0 = λ os. content (parts_of c.args.kind c.in_ok-elements.elements.items os (length c.states.result.now - 1)) w ≡ K w in
      subst P (sym made) (subst O (sym c.into_parts-states.ensures.outputs) (built-content c.args.kind c.args.nfa K built c.in_ok-elements.elements.items c.in_ok-elements.ensures.ok (length c.states.result.now - 1) w)))
      c.new.ensures.ok;
  kind = IfOk-weaker c.new.result _ _ (λ s made. ap (λ (p : Parts g.row.V.Denot). p.kind) made) c.new.ensures.ok;
  err =
      IfErr-weaker c.new.result _ _
      (λ e out. let P : DaachorseError → Type 0 = λ x. IsRefusal ⊥ NumElements ((K : Dictionary g.row.V.Denot) → IsBuiltFor c.args.kind c.args.nfa K → HasMoreProperPrefixes K 16777214) x in subst P (sym out) tt)
      c.new.ensures.err;
}
