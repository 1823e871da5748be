-- The trie of the root and the dead state.
use Rattle.std.proofs.Common.{◌≡◌, ℕ, zero, suc, List, [], ◌∷◌, ◌++◌, length, get_or, map, Option, Some, None, refl, sym, ap, ◌∙◌, subst, inl, inr, arith}
use Rattle.std.specs.Prelude.{option_map, unwrap_or}
use Rattle.std.proofs.lemmas.Option.{none-some}
use Rattle.std.specs.declared.cmp.Ordering.{Ordering}
use Rattle.std.specs.Map.{lookup, keys_of}
use Rattle.std.specs.BTreeMap.{is_at}
use Rattle.std.specs.List.Sorted.{IsStrictlySortedBy}
use Rattle.daachorse_build.specs.declared.nfa_builder.NfaBuilderState.{NfaBuilderState}
use Rattle.daachorse_model.specs.declared.MatchKind.{MatchKind}
use Rattle.daachorse_model.specs.declared.MatchKind.TheVariants.{Standard, LeftmostLongest, LeftmostFirst}
use Rattle.daachorse_model.specs.Units.{size}
use Rattle.daachorse_model.specs.Dictionary.{dictionary, kept_registrations, values_of}
use Rattle.daachorse_model.specs.Prefixes.{IsPrefix}
use Rattle.daachorse_model.specs.Paths.{walk, Leads}
use Rattle.daachorse_build.specs.Tables.{child_in, child_of, edges_of, own_of, own_at, output_count, IsTable}
use Rattle.daachorse_build.specs.Holds.{in_units, Holds}
use Rattle.daachorse_build.proofs.Registrations.{nil_of_units}

none_at : {X : Type 0} (s : ℕ) → get_or {A = List X} ([] ∷ [] ∷ []) s [] ≡ []
none_at zero = refl
none_at (suc zero) = refl
none_at (suc (suc s)) = refl

module _ {L : Type 0} (cmp : L → L → Ordering) where
  no_child : (s : ℕ) (c : L) → child_in cmp ([] ∷ [] ∷ []) s c ≡ None
  no_child s c = ap (lookup (is_at (cmp c))) (none_at s)

  pub empty_table : IsTable cmp ([] ∷ [] ∷ [])
  unfolding IsStrictlySortedBy
  empty_table = record {
    ordered = λ s. let P : List (L × ℕ) → Type 0 = λ es. IsStrictlySortedBy cmp (keys_of es) in subst P (sym (none_at s)) tt;
    trie = record {
      two = omega arith;
      bounds = λ s c t h. absurd (none-some t (sym (no_child s c) ∙ h));
      one_parent = λ s c s' c' t h k. absurd (none-some t (sym (no_child s c) ∙ h));
      reached = λ t low high. absurd (omega arith);
    };
  }

  empty_walk : (w : List L) (s : ℕ) → walk (child_in cmp ([] ∷ [] ∷ [])) 0 w ≡ Some s → w ≡ []
  empty_walk [] s h = refl
  empty_walk (c ∷ cs) s h = absurd (none-some s h)

no_outputs : {V : Type 0} (o : Option ℕ) → unwrap_or (option_map (λ s. get_or {A = List (V × ℕ)} ([] ∷ [] ∷ []) s []) o) [] ≡ []
no_outputs None = refl
no_outputs (Some s) = none_at s

pub kept_none : {V : Type 0} (kind : MatchKind) → kept_registrations {V = V} kind [] ≡ []
kept_none Standard = refl
kept_none LeftmostLongest = refl
kept_none LeftmostFirst = refl

-- two states with no edges and no outputs hold nothing
pub holds_none : {L V A : Type 0} (cmp : L → L → Ordering) (unit : L → ℕ) (width : ℕ → ℕ) (kind : MatchKind) (states : List (NfaBuilderState L V A)) → edges_of states ≡ [] ∷ [] ∷ [] → own_of states ≡ [] ∷ [] ∷ [] → Holds cmp unit width kind states []
holds_none {L} {V} cmp unit width kind states edges outputs = record {
  trie = rw edges (empty_table cmp);
  begins = λ w h.
      let P : List L → Type 0 = λ x. Leads (child_of cmp states) x 0 in
      (0, subst P (sym (nil_of_units unit w (only_nil w h))) refl);
  only = λ w s h. let P : List (List (L × ℕ)) → Type 0 = λ es. walk (child_in cmp es) 0 w ≡ Some s in inl (ap (map unit) (empty_walk cmp w s (subst P edges h)));
  outputs = λ w.
      ap (λ os. unwrap_or (option_map (own_at os) (walk (child_of cmp states) 0 w)) []) outputs
      ∙ no_outputs (walk (child_of cmp states) 0 w)
      ∙ sym (ap (map (λ v. (v, size width (map unit w)))) (no_value (map unit w)));
  dead = ap (λ os. own_at os 1) outputs;
  count = ap output_count outputs ∙ sym (ap length (kept_none {V = V} kind));
}
  where
    no_value : (k : List ℕ) → ◌≡◌ {A = List V} (dictionary kind (in_units {L = L} {V = V} unit []) k) []
    no_value k = ap (λ rs. values_of rs k) (kept_none {V = V} kind)

    only_nil : (w : List L) → IsPrefix (dictionary kind (in_units {L = L} {V = V} unit [])) (map unit w) → map unit w ≡ []
    only_nil w (inl e) = e
    only_nil w (inr (x, key)) = absurd (key (no_value (map unit w ++ x)))
