-- What the states of a trie say of the keys: links stop just at the keys, so a walk meets a state that stops where a key begins its text.
use Rattle.std.proofs.Common.{◌≡◌, ◌≢◌, ℕ, Bool, true, false, cond, ◌||◌, List, [], ◌∷◌, ◌++◌, length, map, Option, Some, None, refl, sym, ap, ◌∙◌, subst, inl, inr, arith, append-nil, unwrap_or}
use Rattle.std.specs.Prelude.{option_map, not, ◌==◌, option_and_then}
use Rattle.std.proofs.lemmas.Bool.{eqb-true, false≢true, or_cases, or_parts, false_from_ne_true, not_from_false}
use Rattle.std.proofs.lemmas.Option.{none-some, same_Some}
use Rattle.std.proofs.lemmas.List.{map-append}
use Rattle.std.specs.declared.cmp.Ordering.{Ordering}
use Rattle.daachorse_model.specs.declared.MatchKind.{MatchKind}
use Rattle.daachorse_model.specs.Units.{size}
use Rattle.daachorse_model.specs.Dictionary.{Dictionary, dictionary, is_proper_prefix, kept_registrations, values_of}
use Rattle.daachorse_model.specs.Outputs.{own_outputs}
use Rattle.daachorse_model.specs.Prefixes.{IsPrefix, is_key, key_begins}
use Rattle.daachorse_model.specs.Paths.{walk, Leads}
use Rattle.daachorse_model.proofs.Links.{begins_true}
use Rattle.daachorse_model.proofs.Paths.{walk-push}
use Rattle.daachorse_build.specs.declared.nfa_builder.NfaBuilderState.{NfaBuilderState}
use Rattle.daachorse_build.specs.Tables.{child_of, own_of, own_at, stops_of}
use Rattle.daachorse_build.specs.Holds.{in_units, Holds}
use Rattle.daachorse_build.specs.Left.{meets, meets_early}
use Rattle.daachorse_build.proofs.Labels.{labels_of_front}
use Rattle.daachorse_build.proofs.Dropped.{proper_from, proper_rest}

-- a state of whom as many own outputs are held as the text has values
stops_values : {V : Type 0} (vs : List V) (n : ℕ) → not (length (map {B = V × ℕ} (λ v. (v, n)) vs) == 0) ≡ elim vs [ [] ↦ false | _ ∷ _ ↦ true ]
stops_values [] n = refl
stops_values (v ∷ vs) n = not_from_false _ (false_from_ne_true _ (λ e. absurd (omega (arith, eqb-true _ 0 e))))

module _ {L V A : Type 0} (cmp : L → L → Ordering) (unit : L → ℕ) (width : ℕ → ℕ) (kind : MatchKind) (states : List (NfaBuilderState L V A)) (rs : List (List L × V)) (holds : Holds cmp unit width kind states rs) where
  abbrev pub keys : Dictionary V
  keys = dictionary kind (in_units unit rs)

  -- a state stops where its text is a key
  pub stops-key : (w : List L) (s : ℕ) → Leads (child_of cmp states) w s → stops_of true states s ≡ is_key keys (map unit w)
  stops-key w s h =
      let own : own_at (own_of states) s ≡ map (λ v. (v, size width (map unit w))) (keys (map unit w)) = ap (λ o. unwrap_or (option_map (own_at (own_of states)) o) []) (sym h) ∙ holds.outputs w in
      ap (λ os. not (length os == 0)) own ∙ stops_values (keys (map unit w)) (size width (map unit w))

  -- what leads nowhere begins no key
  no_key : (t : List L) (s : ℕ) (c : L) (w : List L) → Leads (child_of cmp states) t s → child_of cmp states s c ≡ None → key_begins keys (map unit t ++ unit c ∷ []) (map unit w) ≡ false
  no_key t s c w at none =
      false_from_ne_true _ (λ yes'.
      let r = begins_true keys (map unit t ++ unit c ∷ []) (map unit w) yes' in
      let text : map unit (t ++ c ∷ []) ≡ map unit t ++ unit c ∷ [] = map-append unit t (c ∷ []) in
      let there = holds.begins (t ++ c ∷ []) (inr (r.0, λ e. r.3 (ap (λ z. keys (z ++ r.0)) (sym text) ∙ e))) in
      none-some there.0 (sym none ∙ sym (walk-push (child_of cmp states) 0 t c s at) ∙ there.1))

  -- a walk meets a state that stops where a key begins what was read
  pub meets-from : (t : List L) (s : ℕ) (w : List L) → Leads (child_of cmp states) t s → meets (child_of cmp states) (stops_of true states) s w ≡ key_begins keys (map unit t) (map unit w)
  meets-from t s [] at = stops-key t s at
  meets-from t s (c ∷ w) at =
      ap (λ b. b || unwrap_or (option_map (λ u. meets (child_of cmp states) (stops_of true states) u w) (child_of cmp states s c)) false) (stops-key t s at)
      ∙ either (is_key keys (map unit t)) _ _ (next (child_of cmp states s c) refl (λ u h. meets-from (t ++ c ∷ []) u w h))
    where
      either : (b x y : Bool) → x ≡ y → (b || x) ≡ cond b true y
      either true x y e = refl
      either false x y e = e

      next : (o : Option ℕ) → child_of cmp states s c ≡ o → ((u : ℕ) → Leads (child_of cmp states) (t ++ c ∷ []) u → meets (child_of cmp states) (stops_of true states) u w ≡ key_begins keys (map unit (t ++ c ∷ [])) (map unit w)) → unwrap_or (option_map (λ u. meets (child_of cmp states) (stops_of true states) u w) (child_of cmp states s c)) false ≡ key_begins keys (map unit t ++ unit c ∷ []) (map unit w)
      next None e ih = ap (λ o. unwrap_or (option_map (λ u. meets (child_of cmp states) (stops_of true states) u w) o) false) e ∙ sym (no_key t s c w at e)
      next (Some u) e ih =
          ap (λ o. unwrap_or (option_map (λ x. meets (child_of cmp states) (stops_of true states) x w) o) false) e
          ∙ ih u (walk-push (child_of cmp states) 0 t c s at ∙ e)
          ∙ ap (λ z. key_begins keys z (map unit w)) (map-append unit t (c ∷ []))

  pub meets-key : (w : List L) → meets (child_of cmp states) (stops_of true states) 0 w ≡ key_begins keys [] (map unit w)
  meets-key w = meets-from [] 0 w refl

-- ---- a walk that meets a state that stops before its end
module _ {A : Type 0} (child : ℕ → A → Option ℕ) (stops : ℕ → Bool) where
  -- where it does so
  pub record StopsAt (s : ℕ) (w : List A) : Type 0 where
    pub front : List A
    pub label : A
    pub rest : List A
    pub splits : w ≡ front ++ label ∷ rest
    pub state : ℕ
    pub there : walk child s front ≡ Some state
    pub stop : stops state ≡ true

  pub meets_early-true : (s : ℕ) (w : List A) → meets_early child stops s w ≡ true → StopsAt s w
  meets_early-true s [] h = absurd (false≢true h)
  meets_early-true s (c ∷ w) h =
      elim (or_cases (stops s) _ h) [
        | inl stop ↦ record { front = []; label = c; rest = w; splits = refl; state = s; there = refl; stop = stop }
        | inr more ↦
            (elim (child s c) as (λ o. child s c ≡ o → unwrap_or (option_map (λ t. meets_early child stops t w) o) false ≡ true → StopsAt s (c ∷ w)) [
              | None ↦ λ e k. absurd (false≢true k)
              | Some t ↦ λ e k. (
                  let r = meets_early-true t w k in
                  record {
                    front = c ∷ r.front;
                    label = r.label;
                    rest = r.rest;
                    splits = ap (λ z. c ∷ z) r.splits;
                    state = r.state;
                    there = ap (option_and_then (λ x. walk child x r.front)) e ∙ r.there;
                    stop = r.stop;
                  })
            ]) refl more
      ]

  pub meets_early-false : (s : ℕ) (v : List A) (c : A) (w : List A) (t : ℕ) → meets_early child stops s (v ++ c ∷ w) ≡ false → walk child s v ≡ Some t → stops t ≡ false
  meets_early-false s [] c w t h at = ap stops (sym (same_Some s t at)) ∙ (or_parts (stops s) _ h).0
  meets_early-false s (a ∷ v) c w t h at =
      (elim (child s a) as (λ o. unwrap_or (option_map (λ x. meets_early child stops x (v ++ c ∷ w)) o) false ≡ false → option_and_then (λ x. walk child x v) o ≡ Some t → stops t ≡ false)
      [ None ↦ λ k e. absurd (none-some t e) | Some x ↦ λ k e. meets_early-false x v c w t k e ]) (or_parts (stops s) _ h).1 at

-- ---- a key that is a proper prefix of a pattern
module _ {L V A : Type 0} (cmp : L → L → Ordering) (unit : L → ℕ) (width : ℕ → ℕ) (kind : MatchKind) (states : List (NfaBuilderState L V A)) (rs : List (List L × V)) (holds : Holds cmp unit width kind states rs) (p : List L) where
  some_key : (x : List ℕ) → is_key (keys cmp unit width kind states rs holds) x ≡ true → dictionary kind (in_units unit rs) x ≢ []
  some_key x h e = false≢true (sym (ap (λ vs. elim vs [ [] ↦ false | _ ∷ _ ↦ true ]) e) ∙ h)

  no_value : (x : List ℕ) → is_key (keys cmp unit width kind states rs holds) x ≡ false → dictionary kind (in_units unit rs) x ≡ []
  no_value x = none (dictionary kind (in_units unit rs) x)
    where
      none : (vs : List V) → elim vs [ [] ↦ false | _ ∷ _ ↦ true ] ≡ false → vs ≡ []
      none [] h = refl
      none (v ∷ vs) h = absurd (false≢true (sym h))

  pub key_before : meets_early (child_of cmp states) (stops_of true states) 0 p ≡ true → (x : List ℕ) × (is_proper_prefix x (map unit p) ≡ true) × (dictionary kind (in_units unit rs) x ≢ [])
  key_before h =
      let r = meets_early-true (child_of cmp states) (stops_of true states) 0 p h in
      let units : map unit p ≡ map unit r.front ++ unit r.label ∷ map unit r.rest = ap (map unit) r.splits ∙ map-append unit r.front (r.label ∷ r.rest) in (
        map unit r.front,
        ap (is_proper_prefix (map unit r.front)) units ∙ proper_from (map unit r.front) (unit r.label) (map unit r.rest),
        some_key (map unit r.front) (sym (stops-key cmp unit width kind states rs holds r.front r.state r.there) ∙ r.stop),
      )

  pub no_key_before : meets_early (child_of cmp states) (stops_of true states) 0 p ≡ false → (x : List ℕ) → is_proper_prefix x (map unit p) ≡ true → dictionary kind (in_units unit rs) x ≡ []
  no_key_before h x proper =
      let r = proper_rest x (map unit p) proper in
      let f = labels_of_front unit p x (r.0 ∷ r.1) r.2 in
      no_value x (false_from_ne_true _ (λ key. at f.0 f.1 f.2 f.3 f.4 key))
    where
      at : {r0 : ℕ} {r1 : List ℕ} (v w : List L) → p ≡ v ++ w → map unit v ≡ x → map unit w ≡ r0 ∷ r1 → is_key (keys cmp unit width kind states rs holds) x ≡ true → ⊥
      at v [] e front rest key = absurd (cc)
      at v (c ∷ w) e front rest key =
          let is : dictionary kind (in_units unit rs) (map unit v) ≢ [] = λ n. some_key x key (ap (dictionary kind (in_units unit rs)) (sym front) ∙ n) in
          let s = holds.begins v (inr ([], λ n. is (ap (dictionary kind (in_units unit rs)) (sym (append-nil (map unit v))) ∙ n))) in
          let no' = meets_early-false (child_of cmp states) (stops_of true states) 0 v c w s.0 (ap (meets_early (child_of cmp states) (stops_of true states) 0) (sym e) ∙ h) s.1 in
          false≢true (sym no' ∙ stops-key cmp unit width kind states rs holds v s.0 s.1 ∙ ap (is_key (dictionary kind (in_units unit rs))) front ∙ key)

-- a trie holds what it held where a pattern is left out
pub holds_same : {L V A : Type 0} (cmp : L → L → Ordering) (unit : L → ℕ) (width : ℕ → ℕ) (kind : MatchKind) (states : List (NfaBuilderState L V A)) (rs rs' : List (List L × V)) → Holds cmp unit width kind states rs → ◌≡◌ {A = List (List ℕ × V)} (kept_registrations kind (in_units unit rs')) (kept_registrations kind (in_units unit rs)) → Holds cmp unit width kind states rs'
holds_same {L} {V} cmp unit width kind states rs rs' holds e = record {
  trie = holds.trie;
  begins = λ w h. holds.begins w (subst (λ ks. IsPrefix (values_of ks) (map unit w)) e h);
  only = λ w s h. subst (λ ks. IsPrefix (values_of ks) (map unit w)) (sym e) (holds.only w s h);
  outputs = λ w. holds.outputs w ∙ ap (λ ks. own_outputs width (values_of ks) (map unit w)) (sym e);
  dead = holds.dead;
  count = holds.count ∙ ap length (sym e);
}
