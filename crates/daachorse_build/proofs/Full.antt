-- Where no id is free: the text of each id but that of the dead state, and the text that needs one more, are prefixes of keys, no two the same.
use Rattle.std.proofs.Common.{◌≡◌, ◌≢◌, ◌-◌, ℕ, zero, suc, ◌+◌, ◌<◌, ◌≤◌, false, List, [], ◌∷◌, ◌++◌, length, map, Option, None, refl, sym, ap, ◌∙◌, subst, inl, inr, append_assoc, arith}
use Rattle.std.proofs.lemmas.Option.{none-some, same_Some}
use Rattle.std.proofs.lemmas.Bool.{false_from_ne_true}
use Rattle.std.proofs.lemmas.List.{length-map}
use Rattle.std.specs.List.{AllByRecursion, IsDistinct}
use Rattle.std.specs.declared.cmp.Ordering.{Ordering}
use Rattle.daachorse_model.specs.declared.MatchKind.{MatchKind}
use Rattle.daachorse_model.specs.Units.{same_text}
use Rattle.daachorse_model.specs.Dictionary.{dictionary, kept_registrations}
use Rattle.daachorse_model.specs.Prefixes.{IsPrefix}
use Rattle.daachorse_model.specs.Paths.{walk, Leads}
use Rattle.daachorse_model.proofs.Paths.{walk-push}
use Rattle.daachorse_build.specs.declared.nfa_builder.NfaBuilderState.{NfaBuilderState}
use Rattle.daachorse_build.specs.Trie.{IsTrie}
use Rattle.daachorse_build.specs.Tables.{child_of, edges_of}
use Rattle.daachorse_build.specs.Growth.{Overflows}
use Rattle.daachorse_build.specs.Holds.{in_units, Holds, HasMorePrefixes}
use Rattle.daachorse_build.proofs.Labels.{text_exact}
use Rattle.daachorse_build.proofs.Walks.{text_of}
use Rattle.daachorse_build.proofs.Registrations.{text_same, after, prefix_stays, prefix_now}

-- no two texts are the same
abbrev pub Apart : {A : Type 0} → List (List A) → Type 0
Apart [] = Unit {0}
Apart (w ∷ ws) = AllByRecursion (λ v. w ≢ v) ws × Apart ws

-- texts of states below n, as many as there are but for the dead one
pub record TextsBelow {A : Type 0} (child : ℕ → A → Option ℕ) (n : ℕ) : Type 0 where
  pub texts : List (List A)
  pub count : length texts + 1 ≡ n
  pub lead : AllByRecursion (λ w. (t : ℕ) × (t < n) × Leads child w t) texts
  pub apart : Apart texts

-- what holds of each, by what follows from it
pub all_mapped : {X : Type 0} (P Q : X → Type 0) → ((x : X) → P x → Q x) → (xs : List X) → AllByRecursion P xs → AllByRecursion Q xs
all_mapped P Q f [] h = tt
all_mapped P Q f (x ∷ xs) h = (f x h.0, all_mapped P Q f xs h.1)

module _ {A : Type 0} (child : ℕ → A → Option ℕ) where
  -- a text leads to a state below n
  abbrev LeadsBelow : ℕ → List A → Type 0
  LeadsBelow n w = (t : ℕ) × (t < n) × Leads child w t

  -- the text of n is none of those below it
  new_text : (n : ℕ) (w : List A) → Leads child w n → (v : List A) → LeadsBelow n v → w ≢ v
  new_text n w at v h e = let same : n ≡ h.0 = same_Some n h.0 (sym at ∙ ap (walk child 0) e ∙ h.2) in omega (arith, same, h.1)

  -- a text that leads nowhere is none that leads somewhere
  lost_text : (n : ℕ) (w : List A) → walk child 0 w ≡ None → (v : List A) → LeadsBelow n v → w ≢ v
  lost_text n w none v h e = none-some h.0 (sym none ∙ ap (walk child 0) e ∙ h.2)

  texts_below : (n : ℕ) → IsTrie child n → (k : ℕ) → k + 2 ≤ n → TextsBelow child (k + 2)
  texts_below n trie zero h = record { texts = [] ∷ []; count = omega arith; lead = ((0, omega arith, refl), tt); apart = (tt, tt) }
  texts_below n trie (suc k) h =
      let rest = texts_below n trie k (omega arith) in
      let text = text_of child n trie (k + 2) (omega arith) (omega arith) in
      record {
        texts = text.0 ∷ rest.texts;
        count = omega (arith, rest.count);
        lead = ((k + 2, omega arith, text.1), all_mapped (LeadsBelow (k + 2)) (LeadsBelow (suc k + 2)) (λ w h. (h.0, omega (arith, h.1), h.2)) rest.texts rest.lead);
        apart = (all_mapped (LeadsBelow (k + 2)) (λ v. text.0 ≢ v) (new_text (k + 2) text.0 text.1) rest.texts rest.lead, rest.apart);
      }

  -- as many texts as ids, less the dead state's
  pub all_texts : (n : ℕ) → IsTrie child n → TextsBelow child n
  all_texts n trie =
      let e : n - 2 + 2 ≡ n = omega (arith, trie.two) in
      subst (λ (m : ℕ). TextsBelow child m) e (texts_below n trie (n - 2) (omega (arith, trie.two)))

-- texts that differ have units that differ
distinct_units : {L : Type 0} (unit : L → ℕ) → ((a b : L) → unit a ≡ unit b → a ≡ b) → (ws : List (List L)) → Apart ws → IsDistinct same_text (map (map unit) ws)
unfolding IsDistinct
distinct_units unit exact [] h = tt
distinct_units {L} unit exact (w ∷ ws) h = (others ws h.0, distinct_units unit exact ws h.1)
  where
    others : (vs : List (List L)) → AllByRecursion (λ v. w ≢ v) vs → AllByRecursion (λ y. same_text (map unit w) y ≡ false) (map (map unit) vs)
    others [] k = tt
    others (v ∷ vs) k =
        (false_from_ne_true (same_text (map unit w) (map unit v)) (λ same. k.0 (text_exact unit exact w v (text_same (map unit w) (map unit v) same))), others vs k.1)

module _ {L V A : Type 0} (cmp : L → L → Ordering) (unit : L → ℕ) (exact : (a b : L) → unit a ≡ unit b → a ≡ b) (width : ℕ → ℕ) (kind : MatchKind) (old : List (NfaBuilderState L V A)) (rs : List (List L × V)) (p : List L) (v : V) (adds : kept_registrations kind (in_units unit (rs ++ (p, v) ∷ [])) ≡ kept_registrations kind (in_units unit rs) ++ (map unit p, v) ∷ []) (holds : Holds cmp unit width kind old rs) where
  -- a pattern that needs a state too many makes too many prefixes
  pub too_many : (limit : ℕ) → Overflows cmp old p limit → HasMorePrefixes (dictionary kind (in_units unit (rs ++ (p, v) ∷ []))) limit
  too_many limit over =
      let mid = over.mid in
      let child = child_of cmp mid in
      let below = all_texts child (length (edges_of mid)) over.adding.trie.trie in
      let lost = over.front ++ over.label ∷ [] in
      let none : walk child 0 lost ≡ None = walk-push child 0 over.front over.label over.id over.adding.here ∙ over.none in
      record {
        texts = map (map unit) (lost ∷ below.texts);
        distinct = distinct_units unit exact (lost ∷ below.texts) (all_mapped _ (λ v. lost ≢ v) (lost_text child (length (edges_of mid)) lost none) below.texts below.lead, below.apart);
        prefixes = (prefix_now unit exact kind rs p v adds lost (over.rest, append_assoc over.front (over.label ∷ []) over.rest ∙ over.splits), all_prefixes below.texts below.lead);
        more = omega (arith, over.full, below.count, length-map (lost ∷ below.texts) (map unit), length-map mid (λ s. s.edges));
      }
    where
      is_prefix : (w : List L) (t : ℕ) → Leads (child_of cmp over.mid) w t → IsPrefix (after unit exact kind rs p v adds) (map unit w)
      is_prefix w t h =
          elim (over.adding.grows.news w t h) [
            | inl was ↦ prefix_stays unit exact kind rs p v adds (map unit w) (holds.only w t was)
            | inr fresh ↦
                prefix_now unit exact kind rs p v adds w (fresh.1.0 ++ (over.label ∷ over.rest), sym (append_assoc w fresh.1.0 (over.label ∷ over.rest)) ∙ ap (λ x. x ++ over.label ∷ over.rest) fresh.1.1 ∙ over.splits)
          ]

      all_prefixes : (ws : List (List L)) → AllByRecursion (λ w. (t : ℕ) × (t < length (edges_of over.mid)) × Leads (child_of cmp over.mid) w t) ws → AllByRecursion (IsPrefix (after unit exact kind rs p v adds)) (map (map unit) ws)
      all_prefixes [] h = tt
      all_prefixes (w ∷ ws) h = (is_prefix w h.0.0 h.0.2, all_prefixes ws h.1)
