-- A pattern more: its text has one value more, and each other text keeps its values.
use Rattle.std.proofs.Common.{◌≡◌, ◌≢◌, ℕ, ◌⊎◌, Bool, true, false, cond, List, [], ◌∷◌, ◌++◌, length, map, refl, sym, ap, ◌∙◌, subst, inl, inr, arith}
use Rattle.std.specs.Prelude.{option_map, unwrap_or}
use Rattle.std.proofs.lemmas.Bool.{cases_Bool, false≢true, cond-true}
use Rattle.std.proofs.lemmas.List.{append-nil, map-append, length_push}
use Rattle.std.proofs.lemmas.Slice.Eq.{bytes_eq-Decides}
use Rattle.std.specs.declared.cmp.Ordering.{Ordering}
use Rattle.daachorse_model.specs.declared.MatchKind.{MatchKind}
use Rattle.daachorse_model.specs.Units.{same_text, size}
use Rattle.daachorse_model.specs.Dictionary.{Dictionary, dictionary, kept_registrations, values_of}
use Rattle.daachorse_model.specs.Prefixes.{IsKey, IsPrefix}
use Rattle.daachorse_model.specs.Paths.{walk, Leads}
use Rattle.daachorse_model.proofs.Lists.{no_front, no_back}
use Rattle.daachorse_build.specs.declared.nfa_builder.NfaBuilderState.{NfaBuilderState}
use Rattle.daachorse_build.specs.Tables.{child_in, child_of, own_of, own_at, own_outputs_at, output_count}
use Rattle.daachorse_build.specs.Growth.{IsPrefixOf, IsAdded, HasTrieOf}
use Rattle.daachorse_build.specs.Holds.{in_units, Holds}
use Rattle.daachorse_build.proofs.Labels.{labels_of_front, text_exact}

pub nil_of_units : {L : Type 0} (unit : L → ℕ) (w : List L) → map unit w ≡ [] → w ≡ []
nil_of_units unit [] h = refl
nil_of_units unit (c ∷ w) h = cc

-- two texts that are the same, or not
pub text_same : (v w : List ℕ) → same_text v w ≡ true → v ≡ w
text_same v w h = (bytes_eq-Decides v w).0 h

pub text_refl : (w : List ℕ) → same_text w w ≡ true
text_refl w = (bytes_eq-Decides w w).1 refl

module _ {V : Type 0} where
  values_of-push : (rs : List (List ℕ × V)) (k : List ℕ) (v : V) (w : List ℕ) → values_of (rs ++ (k, v) ∷ []) w ≡ values_of rs w ++ cond (same_text k w) (v ∷ []) []
  values_of-push [] k v w = refl
  values_of-push (r ∷ rs) k v w =
      elim (same_text r.0 w) as (λ b. cond b (r.1 ∷ values_of (rs ++ (k, v) ∷ []) w) (values_of (rs ++ (k, v) ∷ []) w) ≡ cond b (r.1 ∷ values_of rs w) (values_of rs w) ++ cond (same_text k w) (v ∷ []) [])
      [ true ↦ ap (λ vs. r.1 ∷ vs) (values_of-push rs k v w) | false ↦ values_of-push rs k v w ]

module _ {L V : Type 0} (unit : L → ℕ) (exact : (a b : L) → unit a ≡ unit b → a ≡ b) (kind : MatchKind) (rs : List (List L × V)) (p : List L) (v : V) (adds : kept_registrations kind (in_units unit (rs ++ (p, v) ∷ [])) ≡ kept_registrations kind (in_units unit rs) ++ (map unit p, v) ∷ []) where
  abbrev pub before : Dictionary V
  before = dictionary kind (in_units unit rs)

  abbrev pub after : Dictionary V
  after = dictionary kind (in_units unit (rs ++ (p, v) ∷ []))

  -- the values after it
  after_is : (k : List ℕ) → after k ≡ before k ++ cond (same_text (map unit p) k) (v ∷ []) []
  after_is k = ap (λ ks. values_of ks k) adds ∙ values_of-push (kept_registrations kind (in_units unit rs)) (map unit p) v k

  -- a prefix of a key stays one
  pub prefix_stays : (w : List ℕ) → IsPrefix before w → IsPrefix after w
  prefix_stays w (inl e) = inl e
  prefix_stays w (inr (x, key)) = inr (x, λ none. key (no_front (before (w ++ x)) _ (sym (after_is (w ++ x)) ∙ none)))

  key_now : IsKey after (map unit p)
  key_now none =
      let last : cond (same_text (map unit p) (map unit p)) (v ∷ []) [] ≡ [] = no_back (before (map unit p)) _ (sym (after_is (map unit p)) ∙ none) in
      let value : v ∷ [] ≡ [] = sym (cond-true (same_text (map unit p) (map unit p)) (v ∷ []) [] (text_refl (map unit p))) ∙ last in
      cc

  -- a beginning of the pattern is a prefix of a key
  pub prefix_now : (w : List L) → IsPrefixOf w p → IsPrefix after (map unit w)
  prefix_now w (rest, e) =
      let whole : map unit w ++ map unit rest ≡ map unit p = sym (map-append unit w rest) ∙ ap (map unit) e in
      inr (map unit rest, λ none. key_now (sym (ap after whole) ∙ none))

  prefix_of_units : (w p : List L) (x : List ℕ) → map unit w ++ x ≡ map unit p → IsPrefixOf w p
  prefix_of_units w p x e =
      let parts = labels_of_front unit p (map unit w) x (sym e) in
      (parts.1, ap (λ v. v ++ parts.1) (text_exact unit exact w parts.0 (sym parts.3)) ∙ sym parts.2)

  -- a prefix of a key began one before, or begins the pattern
  prefix_came : (w : List L) (x : List ℕ) → IsKey after (map unit w ++ x) → (IsPrefix before (map unit w)) ⊎ IsPrefixOf w p
  prefix_came w x key =
      elim (cases_Bool (same_text (map unit p) (map unit w ++ x))) [
        | inl same ↦ inr (prefix_of_units w p x (sym (text_same (map unit p) (map unit w ++ x) same)))
        | inr other ↦ inl (inr (x, λ none. key (after_is (map unit w ++ x) ∙ ap (λ b. before (map unit w ++ x) ++ cond b (v ∷ []) []) other ∙ append-nil _ ∙ none)))
      ]

  module _ {A : Type 0} (cmp : L → L → Ordering) (width : ℕ → ℕ) (old new : List (NfaBuilderState L V A)) (holds : Holds cmp unit width kind old rs) (added : IsAdded cmp old new p (v, size width (map unit p))) where
    begins : (w : List L) → IsPrefix after (map unit w) → (s : ℕ) × Leads (child_of cmp new) w s
    begins w (inl e) =
        let P : List L → Type 0 = λ x. Leads (child_of cmp new) x 0 in
        (0, subst P (sym (nil_of_units unit w e)) refl)
    begins w (inr (x, key)) =
        elim (prefix_came w x key) [
          | inl was ↦ let s = holds.begins w was in (s.0, added.keeps w s.0 s.1)
          | inr front ↦ added.begins w front
        ]

    outputs : (w : List L) (b : Bool) → same_text (map unit p) (map unit w) ≡ b → own_outputs_at cmp new w ≡ map (λ x. (x, size width (map unit w))) (before (map unit w) ++ cond b (v ∷ []) [])
    outputs w true e =
        let same : p ≡ w = text_exact unit exact p w (text_same (map unit p) (map unit w) e) in
        let P : List L → Type 0 = λ x. own_outputs_at cmp new x ≡ map (λ y. (y, size width (map unit x))) (before (map unit x) ++ v ∷ []) in
        subst P same (added.here ∙ ap (λ os. os ++ (v, size width (map unit p)) ∷ []) (holds.outputs p) ∙ sym (map-append (λ y. (y, size width (map unit p))) (before (map unit p)) (v ∷ [])))
    outputs w false e =
        let ne : w ≢ p = λ k. false≢true (sym e ∙ ap (λ x. same_text (map unit p) (map unit x)) k ∙ text_refl (map unit p)) in
        added.others w ne ∙ holds.outputs w ∙ ap (map (λ y. (y, size width (map unit w)))) (sym (append-nil (before (map unit w))))

    -- what is held once a pattern was added
    pub holds_more : Holds cmp unit width kind new (rs ++ (p, v) ∷ [])
    holds_more = record {
      trie = added.trie;
      begins = begins;
      only = λ w s h.
          elim (added.only w s h) [
            | inl was ↦ prefix_stays (map unit w) (holds.only w s was)
            | inr front ↦ prefix_now w front
          ];
      outputs = λ w. outputs w (same_text (map unit p) (map unit w)) refl ∙ ap (map (λ x. (x, size width (map unit w)))) (sym (after_is (map unit w)));
      dead = added.dead ∙ holds.dead;
      count = omega (arith, added.count, holds.count, ap length adds, length_push (kept_registrations kind (in_units unit rs)) (map unit p, v));
    }

-- the twin of a trie holds what it does
pub holds_twin : {L V A : Type 0} (cmp : L → L → Ordering) (unit : L → ℕ) (width : ℕ → ℕ) (kind : MatchKind) (old new : List (NfaBuilderState L V A)) (rs : List (List L × V)) → HasTrieOf old new → Holds cmp unit width kind old rs → Holds cmp unit width kind new rs
holds_twin {L} cmp unit width kind old new rs kept_registrations holds = record {
  trie = rw kept_registrations.edges holds.trie;
  begins = λ w h. let s = holds.begins w h in (s.0, subst (leads w s.0) (sym kept_registrations.edges) s.1);
  only = λ w s h. holds.only w s (subst (leads w s) kept_registrations.edges h);
  outputs = λ w. ap (λ es. unwrap_or (option_map (own_at (own_of new)) (walk (child_in cmp es) 0 w)) []) kept_registrations.edges ∙ ap (λ os. unwrap_or (option_map (own_at os) (walk (child_of cmp old) 0 w)) []) kept_registrations.outputs ∙ holds.outputs w;
  dead = ap (λ os. own_at os 1) kept_registrations.outputs ∙ holds.dead;
  count = ap output_count kept_registrations.outputs ∙ holds.count;
}
  where
    leads : List L → ℕ → List (List (L × ℕ)) → Type 0
    leads w s es = Leads (child_in cmp es) w s
