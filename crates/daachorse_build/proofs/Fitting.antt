-- Where there are ids for the states, there are few prefixes: texts that differ are those of states that differ.
use Rattle.std.proofs.Common.{◌≡◌, ◌≢◌, ℕ, suc, ◌+◌, ◌<◌, ◌≤◌, true, false, List, [], ◌∷◌, ◌++◌, length, map, refl, sym, ap, ◌∙◌, subst, inl, inr, arith}
use Rattle.std.proofs.Math.Dec.{eqb}
use Rattle.std.proofs.lemmas.Bool.{eqb-true, false_from_ne_true, false≢true, or_cases}
use Rattle.std.proofs.lemmas.List.{length-map}
use Rattle.std.proofs.lemmas.Map.Steps.{length-le_from_distinct_below}
use Rattle.std.specs.List.{AllByRecursion, IsDistinct, list_any}
use Rattle.std.specs.declared.cmp.Ordering.{Ordering}
use Rattle.daachorse_model.specs.declared.MatchKind.{MatchKind}
use Rattle.daachorse_model.specs.Units.{same_text}
use Rattle.daachorse_model.specs.Dictionary.{dictionary}
use Rattle.daachorse_model.specs.Prefixes.{IsPrefix}
use Rattle.daachorse_model.specs.Paths.{Leads}
use Rattle.daachorse_build.specs.declared.nfa_builder.NfaBuilderState.{NfaBuilderState}
use Rattle.daachorse_build.specs.Tables.{child_of, edges_of}
use Rattle.daachorse_build.specs.Holds.{in_units, Holds, HasMorePrefixes}
use Rattle.daachorse_build.proofs.Walks.{walk-same, walk-bounds}
use Rattle.daachorse_build.proofs.Registrations.{text_refl}
use Rattle.daachorse_build.proofs.KeyTexts.{of_key}
use Rattle.daachorse_build.proofs.Labels.{labels_of_front}

-- ---- a prefix of a key is a text of labels
module _ {L : Type 0} (unit : L → ℕ) where
  -- units of labels
  abbrev pub OfLabels : List ℕ → Type 0
  OfLabels w = (x : List L) × (map unit x ≡ w)

  each_text : {V : Type 0} (rs : List (List L × V)) → AllByRecursion (λ r. OfLabels r.0) (in_units unit rs)
  each_text [] = tt
  each_text (r ∷ rs) = ((r.0, refl), each_text rs)

  prefix_labels : {V : Type 0} (kind : MatchKind) (rs : List (List L × V)) (w : List ℕ) → IsPrefix (dictionary kind (in_units unit rs)) w → OfLabels w
  prefix_labels kind rs w (inl e) = ([], sym e)
  prefix_labels kind rs w (inr (x, key)) =
      let p = of_key OfLabels kind (in_units unit rs) (each_text rs) (w ++ x) key in
      let parts = labels_of_front unit p.0 w x p.1 in
      (parts.0, parts.3)

-- ---- texts that differ have states that differ
module _ {L V A : Type 0} (cmp : L → L → Ordering) (unit : L → ℕ) (width : ℕ → ℕ) (kind : MatchKind) (states : List (NfaBuilderState L V A)) (rs : List (List L × V)) (holds : Holds cmp unit width kind states rs) where
  -- a text leads to t
  abbrev pub IsAt : List ℕ → ℕ → Type 0
  IsAt w t = (x : List L) × (map unit x ≡ w) × Leads (child_of cmp states) x t

  -- the state of a prefix
  pub state_of : (w : List ℕ) → IsPrefix (dictionary kind (in_units unit rs)) w → (t : ℕ) × IsAt w t
  state_of w is =
      let x = prefix_labels unit kind rs w is in
      let P : List ℕ → Type 0 = λ k. IsPrefix (dictionary kind (in_units unit rs)) k in
      let s = holds.begins x.0 (subst P (sym x.1) is) in
      (s.0, (x.0, x.1, s.1))

  -- the states of prefixes
  abbrev states_at : (ws : List (List ℕ)) → AllByRecursion (IsPrefix (dictionary kind (in_units unit rs))) ws → List ℕ
  states_at [] h = []
  states_at (w ∷ ws) h = (state_of w h.0).0 ∷ states_at ws h.1

  length-states_at : (ws : List (List ℕ)) (h : AllByRecursion (IsPrefix (dictionary kind (in_units unit rs))) ws) → length (states_at ws h) ≡ length ws
  length-states_at [] h = refl
  length-states_at (w ∷ ws) h = ap suc (length-states_at ws h.1)

  same_state : (v w : List ℕ) (t : ℕ) → IsAt v t → IsAt w t → v ≡ w
  same_state v w t a b =
      sym a.1 ∙ ap (map unit) (walk-same (child_of cmp states) (length (edges_of states)) holds.trie.trie a.0 b.0 t a.2 b.2) ∙ b.1

  apart : (w : List ℕ) (t : ℕ) → IsAt w t → (ws : List (List ℕ)) (h : AllByRecursion (IsPrefix (dictionary kind (in_units unit rs))) ws) → AllByRecursion (λ v. same_text w v ≡ false) ws → AllByRecursion (λ u. eqb t u ≡ false) (states_at ws h)
  apart w t at [] h d = tt
  apart w t at (v ∷ ws) h d = (
    false_from_ne_true _
        (λ e.
        let P : ℕ → Type 0 = λ s. IsAt v s in
        let same : w ≡ v = same_state w v t at (subst P (sym (eqb-true t _ e)) (state_of v h.0).1) in
        false≢true (sym d.0 ∙ ap (same_text w) (sym same) ∙ text_refl w)),
    apart w t at ws h.1 d.1,
  )

  distinct_states : (ws : List (List ℕ)) (h : AllByRecursion (IsPrefix (dictionary kind (in_units unit rs))) ws) → IsDistinct same_text ws → IsDistinct eqb (states_at ws h)
  unfolding IsDistinct
  distinct_states [] h d = tt
  distinct_states (w ∷ ws) h d = (apart w (state_of w h.0).0 (state_of w h.0).1 ws h.1 d.0, distinct_states ws h.1 d.1)

  bounds : (w : List ℕ) (t : ℕ) → IsAt w t → (t < length (edges_of states)) × (t ≢ 1)
  bounds w t at = walk-bounds (child_of cmp states) (length (edges_of states)) holds.trie.trie at.0 t at.2

  alive : (ws : List (List ℕ)) (h : AllByRecursion (IsPrefix (dictionary kind (in_units unit rs))) ws) → AllByRecursion (λ u. eqb 1 u ≡ false) (states_at ws h)
  alive [] h = tt
  alive (w ∷ ws) h =
      (false_from_ne_true _ (λ e. (bounds w (state_of w h.0).0 (state_of w h.0).1).1 (sym (eqb-true 1 _ e))), alive ws h.1)

  below : (ws : List (List ℕ)) (h : AllByRecursion (IsPrefix (dictionary kind (in_units unit rs))) ws) (q : ℕ) → list_any (eqb q) (states_at ws h) ≡ true → q < length (edges_of states)
  below [] h q e = absurd (false≢true e)
  below (w ∷ ws) h q e =
      let s = state_of w h.0 in
      elim (or_cases (eqb q s.0) _ e) [ inl is ↦ (let same = eqb-true q s.0 is in omega (arith, same, (bounds w s.0 s.1).0)) | inr later ↦ below ws h.1 q later ]

  -- no more prefixes than states, less the dead one
  pub enough : (n : ℕ) → length states ≤ n + 1 → HasMorePrefixes (dictionary kind (in_units unit rs)) n → ⊥
  unfolding IsDistinct
  enough n few more =
      let ts = states_at more.texts more.prefixes in
      let all : IsDistinct eqb (1 ∷ ts) = (alive more.texts more.prefixes, distinct_states more.texts more.prefixes more.distinct) in
      let most = length-le_from_distinct_below (1 ∷ ts) (length (edges_of states)) all
      (λ q e. elim (or_cases (eqb q 1) _ e) [
        | inl is ↦ (let same = eqb-true q 1 is in omega (arith, same, holds.trie.trie.two))
        | inr later ↦ below more.texts more.prefixes q later
      ]) in
      omega (arith, few, most, length-states_at more.texts more.prefixes, more.more, length-map states (λ s. s.edges))
