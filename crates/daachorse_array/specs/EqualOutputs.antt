-- Equal outputs: all that they keep is equal. And what they feed a hasher.
use Rattle.std.specs.Prelude.{Bool, ◌++◌, nat_eq}
use Rattle.std.specs.Cmp.{IsPartialEquivalence, IsEquivalence, and_per, on_per, and_equiv, on_equiv, partial_equiv_from_equiv, nat_eq_equiv}
use Rattle.std.specs.Ordering.{on, eq_of_both}
use Rattle.std.specs.Hash as fed
use Rattle.std.specs.Hash.{HashWrites, Alike, on_Alike, and-Alike, same_Alike}
use Rattle.std.proofs.lemmas.Bool.Decides.{Decides-eqb}
use Rattle.daachorse_core.specs.declared.outputs.Output.{Output}
use Rattle.daachorse_core.specs.Outputs.{value_of, length_of, parent_of}

-- equal values, lengths and parents
abbrev pub output_eq : {V : Type 0} → (V → V → Bool) → Output V → Output V → Bool
output_eq E = eq_of_both (on value_of E) (eq_of_both (on length_of nat_eq) (on parent_of nat_eq))

abbrev pub output_input : {V : Type 0} → (V → HashWrites) → Output V → HashWrites
output_input G o = G (value_of o) ++ (fed.u32 (length_of o) ++ fed.u32 (parent_of o))

-- ---- the laws of these

module _ {K : Type 0} {E : K → K → Bool} where
  pub output_per : IsPartialEquivalence E → IsPartialEquivalence (output_eq E)
  output_per law = and_per (on_per value_of law) (and_per (on_per length_of (partial_equiv_from_equiv nat_eq_equiv)) (on_per parent_of (partial_equiv_from_equiv nat_eq_equiv)))

  pub output_equiv : IsEquivalence E → IsEquivalence (output_eq E)
  output_equiv law = and_equiv (on_equiv value_of law) (and_equiv (on_equiv length_of nat_eq_equiv) (on_equiv parent_of nat_eq_equiv))

module _ {K : Type 0} {E : K → K → Bool} {G : K → HashWrites} where
  pub output_alike : Alike E G → Alike (output_eq E) (output_input G)
  output_alike law =
      and-Alike (on_Alike value_of law) (and-Alike (on_Alike length_of (same_Alike fed.u32 Decides-eqb)) (on_Alike parent_of (same_Alike fed.u32 Decides-eqb)))
