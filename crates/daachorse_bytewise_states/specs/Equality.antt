-- Equal states: all that they store is equal. And what they feed a hasher.
use Rattle.std.specs.Prelude.{◌≡◌, Bool, true, ◌++◌, nat_eq}
use Rattle.std.specs.Cmp.{IsPartialEquivalence, IsEquivalence, and_per, on_per, and_equiv, on_equiv, partial_equiv_from_equiv, nat_eq_equiv}
use Rattle.std.specs.Cmp.Lexicographic.{pointwise, lists_per, lists_equiv}
use Rattle.std.specs.Ordering.{on, eq_of_both}
use Rattle.std.specs.Hash as fed
use Rattle.std.specs.Hash.{HashWrites, Alike, on_Alike, and-Alike, items_Alike, same_Alike}
use Rattle.std.proofs.lemmas.Bool.Decides.{Decides-eqb}
use Rattle.daachorse_model.specs.contracts.MatchKindPartialEq.TheImpl.{ghosts as kinds}
use Rattle.daachorse_model.specs.contracts.MatchKindPartialEq.TheImpl.Laws.{laws-law as kinds_per}
use Rattle.daachorse_model.specs.contracts.MatchKindEq.TheImpl.Laws.{laws-law as kinds_equiv}
use Rattle.daachorse_model.specs.contracts.MatchKindHash.TheImpl.{ghosts as kind_inputs}
use Rattle.daachorse_model.specs.contracts.MatchKindHash.TheImpl.Laws.{respects_eq-law as kinds_alike}
use Rattle.daachorse_core.specs.contracts.outputs.EmptyHash.TheImpl.{ghosts as nothing_inputs}
use Rattle.daachorse_core.specs.contracts.outputs.EmptyHash.TheImpl.Laws.{respects_eq-law as nothing_alike}
use Rattle.daachorse_core.specs.contracts.outputs.EmptyPartialEq.TheImpl.{ghosts as nothing}
use Rattle.daachorse_core.specs.contracts.outputs.EmptyPartialEq.TheImpl.Laws.{laws-law as nothing_per}
use Rattle.daachorse_core.specs.contracts.outputs.EmptyEq.TheImpl.Laws.{laws-law as nothing_equiv}
use Rattle.daachorse_array.specs.EqualOutputs.{output_eq, output_input, output_per, output_equiv, output_alike}
use Rattle.daachorse_bytewise_states.specs.declared.state.State.{State}
use Rattle.daachorse_bytewise_states.specs.Elements.{base_in, fail_in}
use Rattle.daachorse_bytewise_states.specs.Parts.{Parts}

-- equal bases, links and packed words
abbrev pub element_eq : {F : Type 0} → (F → F → Bool) → State F → State F → Bool
element_eq E = eq_of_both (on base_in nat_eq) (eq_of_both (on fail_in E) (on (λ e. e.packed.word) nat_eq))

-- equal in every part
abbrev pub parts_eq : {V : Type 0} → (V → V → Bool) → Parts V → Parts V → Bool
parts_eq E =
    eq_of_both (on (λ p. p.kind) kinds.eq) (eq_of_both (on (λ p. p.standard) (pointwise (element_eq nat_eq)))
    (eq_of_both (on (λ p. p.leftmost) (pointwise (element_eq nothing.eq))) (eq_of_both (on (λ p. p.fails) (pointwise nat_eq))
    (eq_of_both (on (λ p. p.outputs) (pointwise (output_eq E))) (on (λ p. p.num_states) nat_eq)))))

-- ---- what they feed a hasher, part by part

abbrev pub element_input : {F : Type 0} → (F → HashWrites) → State F → HashWrites
element_input G e = fed.u32 (base_in e) ++ (G (fail_in e) ++ fed.u32 e.packed.word)

abbrev pub parts_input : {V : Type 0} → (V → HashWrites) → Parts V → HashWrites
parts_input G p =
    kind_inputs.hash_input p.kind ++ (fed.slice (element_input fed.u32) p.standard ++ (fed.slice (element_input nothing_inputs.hash_input) p.leftmost
    ++ (fed.slice fed.u32 p.fails ++ (fed.slice (output_input G) p.outputs ++ fed.u32 p.num_states))))

-- ---- the laws of these

module _ {K : Type 0} {E : K → K → Bool} where
  element_per : IsPartialEquivalence E → IsPartialEquivalence (element_eq E)
  element_per law = and_per (on_per base_in (partial_equiv_from_equiv nat_eq_equiv)) (and_per (on_per fail_in law) (on_per (λ e. e.packed.word) (partial_equiv_from_equiv nat_eq_equiv)))

  element_equiv : IsEquivalence E → IsEquivalence (element_eq E)
  element_equiv law = and_equiv (on_equiv base_in nat_eq_equiv) (and_equiv (on_equiv fail_in law) (on_equiv (λ e. e.packed.word) nat_eq_equiv))

module _ {K : Type 0} {E : K → K → Bool} where
  pub parts_per : IsPartialEquivalence E → IsPartialEquivalence (parts_eq E)
  parts_per law =
      and_per (on_per (λ p. p.kind) kinds_per) (and_per (on_per (λ p. p.standard) (lists_per (element_per (partial_equiv_from_equiv nat_eq_equiv))))
      (and_per (on_per (λ p. p.leftmost) (lists_per (element_per nothing_per))) (and_per (on_per (λ p. p.fails) (lists_per (partial_equiv_from_equiv nat_eq_equiv)))
      (and_per (on_per (λ p. p.outputs) (lists_per (output_per law))) (on_per (λ p. p.num_states) (partial_equiv_from_equiv nat_eq_equiv))))))

  pub parts_equiv : IsEquivalence E → IsEquivalence (parts_eq E)
  parts_equiv law =
      and_equiv (on_equiv (λ p. p.kind) kinds_equiv) (and_equiv (on_equiv (λ p. p.standard) (lists_equiv (element_equiv nat_eq_equiv)))
      (and_equiv (on_equiv (λ p. p.leftmost) (lists_equiv (element_equiv nothing_equiv))) (and_equiv (on_equiv (λ p. p.fails) (lists_equiv nat_eq_equiv))
      (and_equiv (on_equiv (λ p. p.outputs) (lists_equiv (output_equiv law))) (on_equiv (λ p. p.num_states) nat_eq_equiv)))))

module _ {K : Type 0} {E : K → K → Bool} {G : K → HashWrites} where
  element_alike : Alike E G → Alike (element_eq E) (element_input G)
  element_alike law =
      and-Alike (on_Alike base_in (same_Alike fed.u32 Decides-eqb)) (and-Alike (on_Alike fail_in law) (on_Alike (λ e. e.packed.word) (same_Alike fed.u32 Decides-eqb)))

module _ {K : Type 0} {E : K → K → Bool} {G : K → HashWrites} where
  pub parts_alike : ((x y : K) → E x y ≡ true → G x ≡ G y) → (p q : Parts K) → parts_eq E p q ≡ true → parts_input G p ≡ parts_input G q
  parts_alike law = whole.fed
    where
      whole : Alike (parts_eq E) (parts_input G)
      whole =
          and-Alike (on_Alike (λ p. p.kind) (record { fed = kinds_alike })) (and-Alike (on_Alike (λ p. p.standard) (items_Alike (element_alike (same_Alike fed.u32 Decides-eqb))))
          (and-Alike (on_Alike (λ p. p.leftmost) (items_Alike (element_alike (record { fed = nothing_alike })))) (and-Alike (on_Alike (λ p. p.fails) (items_Alike (same_Alike fed.u32 Decides-eqb)))
          (and-Alike (on_Alike (λ p. p.outputs) (items_Alike (output_alike (record { fed = law })))) (on_Alike (λ p. p.num_states) (same_Alike fed.u32 Decides-eqb))))))
