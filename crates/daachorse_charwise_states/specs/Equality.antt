-- Equal states: all that they store is equal. And what they feed a hasher.
use Rattle.std.specs.Prelude.{◌≡◌, Bool, true, ◌++◌, nat_eq}
use Rattle.std.specs.Cmp.{IsPartialEquivalence, IsEquivalence, and_per, on_per, and_equiv, on_equiv, partial_equiv_from_equiv, nat_eq_equiv}
use Rattle.std.specs.Cmp.Lexicographic.{pointwise, lists_per, lists_equiv}
use Rattle.std.specs.Ordering.{on, eq_of_both}
use Rattle.std.specs.Hash as fed
use Rattle.std.specs.Hash.{HashWrites, Alike, on_Alike, and-Alike, items_Alike, same_Alike}
use Rattle.std.proofs.lemmas.Bool.Decides.{Decides-eqb}
use Rattle.daachorse_model.specs.contracts.MatchKindPartialEq.TheImpl.{ghosts as kinds}
use Rattle.daachorse_model.specs.contracts.MatchKindPartialEq.TheImpl.Laws.{laws-law as kinds_per}
use Rattle.daachorse_model.specs.contracts.MatchKindEq.TheImpl.Laws.{laws-law as kinds_equiv}
use Rattle.daachorse_model.specs.contracts.MatchKindHash.TheImpl.{ghosts as kind_inputs}
use Rattle.daachorse_model.specs.contracts.MatchKindHash.TheImpl.Laws.{respects_eq-law as kinds_alike}
use Rattle.daachorse_charwise_states.specs.Codings.{Coding}
use Rattle.daachorse_array.specs.EqualOutputs.{output_eq, output_input, output_per, output_equiv, output_alike}
use Rattle.daachorse_charwise_states.specs.declared.state.State.{State}
use Rattle.daachorse_charwise_states.specs.Elements.{base_in, check_in, fail_in, output_in}
use Rattle.daachorse_charwise_states.specs.Parts.{Parts}

-- equal bases, checks, links and output positions
abbrev pub element_eq : State → State → Bool
element_eq = eq_of_both (on base_in nat_eq) (eq_of_both (on check_in nat_eq) (eq_of_both (on fail_in nat_eq) (on output_in nat_eq)))

-- equal tables and sizes
abbrev pub coding_eq : Coding → Coding → Bool
coding_eq = eq_of_both (on (λ m. m.table) (pointwise nat_eq)) (on (λ m. m.alphabet_size) nat_eq)

-- equal in every part
abbrev pub parts_eq : {V : Type 0} → (V → V → Bool) → Parts V → Parts V → Bool
parts_eq E =
    eq_of_both (on (λ p. p.kind) kinds.eq) (eq_of_both (on (λ p. p.states) (pointwise element_eq))
    (eq_of_both (on (λ p. p.coding) coding_eq) (eq_of_both (on (λ p. p.outputs) (pointwise (output_eq E))) (on (λ p. p.num_states) nat_eq))))

-- ---- what they feed a hasher, part by part

abbrev pub element_input : State → HashWrites
element_input e = fed.u32 (base_in e) ++ (fed.u32 (check_in e) ++ (fed.u32 (fail_in e) ++ fed.u32 (output_in e)))

abbrev pub coding_input : Coding → HashWrites
coding_input m = fed.slice fed.u32 m.table ++ fed.u32 m.alphabet_size

abbrev pub parts_input : {V : Type 0} → (V → HashWrites) → Parts V → HashWrites
parts_input G p =
    kind_inputs.hash_input p.kind ++ (fed.slice element_input p.states ++ (coding_input p.coding ++ (fed.slice (output_input G) p.outputs ++ fed.u32 p.num_states)))

-- ---- the laws of these

element_equiv : IsEquivalence element_eq
element_equiv = and_equiv (on_equiv base_in nat_eq_equiv) (and_equiv (on_equiv check_in nat_eq_equiv) (and_equiv (on_equiv fail_in nat_eq_equiv) (on_equiv output_in nat_eq_equiv)))

coding_equiv : IsEquivalence coding_eq
coding_equiv = and_equiv (on_equiv (λ m. m.table) (lists_equiv nat_eq_equiv)) (on_equiv (λ m. m.alphabet_size) nat_eq_equiv)

element_alike : Alike element_eq element_input
element_alike =
    and-Alike (on_Alike base_in (same_Alike fed.u32 Decides-eqb)) (and-Alike (on_Alike check_in (same_Alike fed.u32 Decides-eqb))
    (and-Alike (on_Alike fail_in (same_Alike fed.u32 Decides-eqb)) (on_Alike output_in (same_Alike fed.u32 Decides-eqb))))

coding_alike : Alike coding_eq coding_input
coding_alike = and-Alike (on_Alike (λ m. m.table) (items_Alike (same_Alike fed.u32 Decides-eqb))) (on_Alike (λ m. m.alphabet_size) (same_Alike fed.u32 Decides-eqb))

module _ {K : Type 0} {E : K → K → Bool} where
  pub parts_per : IsPartialEquivalence E → IsPartialEquivalence (parts_eq E)
  parts_per law =
      and_per (on_per (λ p. p.kind) kinds_per) (and_per (on_per (λ p. p.states) (lists_per (partial_equiv_from_equiv element_equiv)))
      (and_per (on_per (λ p. p.coding) (partial_equiv_from_equiv coding_equiv)) (and_per (on_per (λ p. p.outputs) (lists_per (output_per law)))
      (on_per (λ p. p.num_states) (partial_equiv_from_equiv nat_eq_equiv)))))

  pub parts_equiv : IsEquivalence E → IsEquivalence (parts_eq E)
  parts_equiv law =
      and_equiv (on_equiv (λ p. p.kind) kinds_equiv) (and_equiv (on_equiv (λ p. p.states) (lists_equiv element_equiv))
      (and_equiv (on_equiv (λ p. p.coding) coding_equiv) (and_equiv (on_equiv (λ p. p.outputs) (lists_equiv (output_equiv law))) (on_equiv (λ p. p.num_states) nat_eq_equiv))))

module _ {K : Type 0} {E : K → K → Bool} {G : K → HashWrites} where
  pub parts_alike : ((x y : K) → E x y ≡ true → G x ≡ G y) → (p q : Parts K) → parts_eq E p q ≡ true → parts_input G p ≡ parts_input G q
  parts_alike law = whole.fed
    where
      whole : Alike (parts_eq E) (parts_input G)
      whole =
          and-Alike (on_Alike (λ p. p.kind) (record { fed = kinds_alike })) (and-Alike (on_Alike (λ p. p.states) (items_Alike element_alike))
          (and-Alike (on_Alike (λ p. p.coding) coding_alike) (and-Alike (on_Alike (λ p. p.outputs) (items_Alike (output_alike (record { fed = law }))))
          (on_Alike (λ p. p.num_states) (same_Alike fed.u32 Decides-eqb)))))
