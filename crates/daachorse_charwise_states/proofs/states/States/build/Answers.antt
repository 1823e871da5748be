-- What is built is packed, and the parts hold the builder's dictionary.
use Rattle.std.proofs.Common.{◌≡◌, ◌-◌, ◌<◌, ◌≤◌, ◌^◌, ℕ, List, length, None, refl, ap, subst, sym, arith}
use Rattle.std.proofs.lemmas.Result.{IfOk-from_err, err_from_is_err_and}
use Rattle.daachorse_core.specs.declared.errors.Limit.TheVariants.{NumElements}
use Rattle.daachorse_core.specs.declared.outputs.Output.{Output}
use Rattle.daachorse_core.proofs.Refusals.{IsRefusal-weaker}
use Rattle.daachorse_model.specs.Dictionary.{Dictionary}
use Rattle.daachorse_model.specs.Units.{char_width}
use Rattle.daachorse_build.specs.Builders.{outputs_of, states_of}
use Rattle.daachorse_patterns.specs.Settled.{HasManyGroups}
use Rattle.daachorse_patterns.proofs.ReadyToPack.{built-links, built-many}
use Rattle.daachorse_charwise_states.specs.Packing.{IsBuiltFor, NeedsManyBlocks, code_in}
use Rattle.daachorse_charwise_states.specs.Parts.{content}
use Rattle.daachorse_charwise_states.specs.Valid.{IsValid}
use Rattle.daachorse_charwise_states.proofs.Codes.{block_holds, block_least, block_some}
use Rattle.daachorse_charwise_states.proofs.PackedValid.{built-content, built-valid, edges-coded}
use Rattle.daachorse_charwise_states.proofs.states.States.build.Goals as goal

pub unwrap-block_len-requires : goal.unwrap-block_len-requires
unwrap-block_len-requires g c = block_some c.args.mapper.alphabet_size c.block_len.result c.block_len.ensures c.requires.block

pub pack-requires-clause-trie : goal.pack-requires-clause-trie
pack-requires-clause-trie g c = c.requires.built.1.trie

pub pack-requires-clause-count : goal.pack-requires-clause-count
pack-requires-clause-count g c = c.requires.built.1.few_states

pub pack-requires-clause-coding : goal.pack-requires-clause-coding
pack-requires-clause-coding g c = c.requires.coding

pub pack-requires-clause-power : goal.pack-requires-clause-power
pack-requires-clause-power g c = (block_least c.args.mapper.alphabet_size c.block_len.result c.unwrap-block_len.result c.block_len.ensures c.unwrap-block_len.ensures).0

pub pack-requires-clause-block : goal.pack-requires-clause-block
pack-requires-clause-block g c =
    let least = block_least c.args.mapper.alphabet_size c.block_len.result c.unwrap-block_len.result c.block_len.ensures c.unwrap-block_len.ensures in
    block_holds c.args.mapper.alphabet_size c.unwrap-block_len.result least

pub pack-requires-clause-links : goal.pack-requires-clause-links
pack-requires-clause-links g c = built-links char_width None c.args.kind c.args.nfa c.requires.built.0 c.requires.built.1

pub pack-requires-clause-coded : goal.pack-requires-clause-coded
pack-requires-clause-coded g c = edges-coded c.args.kind c.args.nfa c.requires.built.0 c.requires.built.1 c.args.mapper c.requires.built.2

pub returns-in_err-states : goal.returns-in_err-states
returns-in_err-states g c = record {
  ok = IfOk-from_err c.from_residual.result _ c.from_residual.ensures.0;
  kind = IfOk-from_err c.from_residual.result _ c.from_residual.ensures.0;
  mapper = IfOk-from_err c.from_residual.result _ c.from_residual.ensures.0;
  err =
      let p = err_from_is_err_and c.from_residual.result c.from_residual.ensures.1 in
      let block : ℕ = c.unwrap-block_len.result in
      let least = block_least c.args.mapper.alphabet_size c.block_len.result block c.block_len.ensures c.unwrap-block_len.ensures in
      let some : 0 < block = (let two : 2 ≤ block = (block_holds c.args.mapper.alphabet_size block least).0 in omega (arith, two)) in
      let fits : block < 2 ^ 32 = omega arith in
      let Passed : Type 0 = (K : Dictionary g.row.V.Denot) → IsBuiltFor c.args.kind c.args.nfa K → NeedsManyBlocks c.args.mapper K in
      let many : HasManyGroups {A = g.row.A.Denot} (code_in c.args.mapper) block (states_of c.args.nfa) → Passed = λ passed K built. record {
        block = block;
        least = least;
        prefixes = built-many char_width None c.args.kind c.args.nfa K built (code_in c.args.mapper) block some fits passed;
      } in
      rw (p.1, p.2) (IsRefusal-weaker ⊥ ⊥ NumElements (HasManyGroups {A = g.row.A.Denot} (code_in c.args.mapper) block (states_of c.args.nfa)) Passed (λ x. x) many c.in_err-states.field-0.0 c.in_err-states.ensures.err);
}

pub invariant_of-result : goal.invariant_of-result
invariant_of-result g c =
    let es = c.in_ok-states.states.items in
    let block : ℕ = c.unwrap-block_len.result in
    let least = block_least c.args.mapper.alphabet_size c.block_len.result block c.block_len.ensures c.unwrap-block_len.ensures in
    let fits : block < 4294967296 = omega arith in
    let coded = edges-coded c.args.kind c.args.nfa c.requires.built.0 c.requires.built.1 c.args.mapper c.requires.built.2 in
    let P : List (Output g.row.V.Denot) → Type 0 = λ os. IsValid (record { kind = c.args.kind; states = es; coding = c.args.mapper; outputs = os; num_states = length c.states.result.now - 1 }) in
    let N : ℕ → Type 0 = λ n. IsValid (record { kind = c.args.kind; states = es; coding = c.args.mapper; outputs = outputs_of c.args.nfa; num_states = n - 1 }) in
    subst P (sym c.into_parts-states.ensures.outputs) (subst N (sym (ap length c.states.ensures)) (built-valid c.args.kind c.args.nfa c.requires.built.0 c.requires.built.1 c.args.mapper block c.requires.coding coded es c.in_ok-states.ensures.ok least fits c.in_ok-states.ensures.few))

pub returns-clause-ok : goal.returns-clause-ok
returns-clause-ok g c K built w =
    let es = c.in_ok-states.states.items in
    let n = length c.states.result.now - 1 in
    let coded = edges-coded c.args.kind c.args.nfa c.requires.built.0 c.requires.built.1 c.args.mapper c.requires.built.2 in
    let O : List (Output g.row.V.Denot) → Type 0 = λ os. content (record { kind = c.args.kind; states = es; coding = c.args.mapper; outputs = os; num_states = n }) w ≡ K w in
    subst O (sym c.into_parts-states.ensures.outputs) (built-content c.args.kind c.args.nfa K built c.args.mapper c.unwrap-block_len.result c.requires.coding coded es c.in_ok-states.ensures.ok n w)

pub returns-clause-kind : goal.returns-clause-kind
returns-clause-kind g c = refl

pub returns-clause-mapper : goal.returns-clause-mapper
returns-clause-mapper g c = refl

pub returns-clause-err : goal.returns-clause-err
returns-clause-err g c = tt
