-- Links that lead to shorter texts: a walk along them ends, and the links that are built are such.
use Rattle.std.proofs.Common.{◌≡◌, ◌≢◌, ℕ, zero, suc, ◌+◌, ◌<◌, ◌≤◌, ◌⊎◌, Bool, false, List, [], ◌∷◌, length, get_or, Option, Some, None, refl, sym, ap, ◌∙◌, subst, inl, inr, arith}
use Rattle.std.proofs.lemmas.Option.{none-some, same_Some, option_and_then_some}
use Rattle.std.proofs.lemmas.Bool.{cond_both}
use Rattle.std.specs.declared.cmp.Ordering.{Ordering}
use Rattle.std.specs.Cmp.{IsTotalOrder}
use Rattle.daachorse_model.specs.Paths.{walk, is_reached, Leads}
use Rattle.daachorse_build.specs.declared.nfa_builder.NfaBuilderState.{NfaBuilderState}
use Rattle.daachorse_build.specs.Trie.{IsTrie}
use Rattle.daachorse_build.specs.Left.{meets, long_unless_stop, left_link, IsStateOf}
use Rattle.daachorse_build.specs.Tables.{child_in, child_of, edges_of, fails_of, stops_of, HoldTrie}
use Rattle.daachorse_build.specs.Orders.{HoldLinks, HoldLeftLinks}
use Rattle.daachorse_build.specs.Counts.{LinksLeadBack}
use Rattle.daachorse_build.proofs.Walks.{label_of, text_of, walk-bounds}
use Rattle.daachorse_build.proofs.Queue.{all_in_order, left_of_linked}

-- how many links lead from a state to the root or a dead one, as far as n
abbrev pub links_from : ℕ → List ℕ → ℕ → ℕ
links_from zero fails t = 0
links_from (suc n) fails zero = 0
links_from (suc n) fails (suc zero) = 0
links_from (suc n) fails (suc (suc t)) = suc (links_from n fails (get_or fails (suc (suc t)) 0))

no_links : (fails : List ℕ) (n t : ℕ) → t < 2 → links_from n fails t ≡ 0
no_links fails zero t l = refl
no_links fails (suc n) zero l = refl
no_links fails (suc n) (suc zero) l = refl
no_links fails (suc n) (suc (suc t)) l = absurd (omega (arith, l))

module _ {A : Type 0} (child : ℕ → A → Option ℕ) (n : ℕ) (trie : IsTrie child n) where
  -- a label leads to a higher number
  walk-rises : (w : List A) (s t : ℕ) → walk child s w ≡ Some t → s + length w ≤ t
  walk-rises [] s t h = omega (arith, same_Some s t h)
  walk-rises (c ∷ w) s t h =
      option_and_then_some (λ u. walk child u w) (child s c) t h
      (λ u e k. let b = trie.bounds s c u e in let r = walk-rises w u t k in omega (arith, b.0, r))

  module _ (fails : List ℕ) (back : (c : A) (w : List A) (t : ℕ) → Leads child (c ∷ w) t → (get_or fails t 0 ≡ 1) ⊎ ((v : List A) × Leads child v (get_or fails t 0) × (length v ≤ length w))) where
    -- what is counted further stays, once the number is as great as the length of the text
    links-more : (k : ℕ) (w : List A) (t : ℕ) → Leads child w t → length w ≤ k → links_from (suc k) fails t ≡ links_from k fails t
    links-more k w zero h l = no_links fails (suc k) 0 (omega arith) ∙ sym (no_links fails k 0 (omega arith))
    links-more k w (suc zero) h l = no_links fails (suc k) 1 (omega arith) ∙ sym (no_links fails k 1 (omega arith))
    links-more k [] (suc (suc t)) h l = absurd (omega (arith, same_Some 0 (suc (suc t)) h))
    links-more zero (c ∷ w) (suc (suc t)) h l = absurd (omega (arith, l))
    links-more (suc k) (c ∷ w) (suc (suc t)) h l =
        let f = get_or fails (suc (suc t)) 0 in
        elim (back c w (suc (suc t)) h) [
          | inl dead ↦ ap suc (no_links fails (suc k) f (omega (arith, dead)) ∙ sym (no_links fails k f (omega (arith, dead))))
          | inr there ↦ ap suc (links-more k there.0 f there.1 (omega (arith, there.2, l)))
        ]

    -- fewer links lead on from the link of a state
    pub links-fewer : (t : ℕ) → t < n → t ≢ 0 → t ≢ 1 → get_or fails t 0 ≢ 1 → links_from n fails (get_or fails t 0) < links_from n fails t
    links-fewer zero low ne alive goes = absurd (ne refl)
    links-fewer (suc zero) low ne alive goes = absurd (alive refl)
    links-fewer (suc (suc t)) low ne alive goes =
        let text = text_of child n trie (suc (suc t)) low alive in
        let more : links_from (suc n) fails (suc (suc t)) ≡ links_from n fails (suc (suc t)) = links-more n text.0 (suc (suc t)) text.1 (omega (arith, walk-rises text.0 0 (suc (suc t)) text.1, low)) in
        omega (arith, more)

    -- a link that isn't dead leads to a state
    pub link-bounds : (t : ℕ) → t < n → t ≢ 0 → t ≢ 1 → get_or fails t 0 ≢ 1 → get_or fails t 0 < n
    link-bounds t low ne alive goes =
        let (c, w, at) = label_of child n trie t (omega (arith, ne, alive)) low in
        elim (back c w t at) [
          | inl dead ↦ absurd (goes dead)
          | inr there ↦ (walk-bounds child n trie there.0 (get_or fails t 0) there.1).0
        ]

-- ---- the links that are built
module _ {A : Type 0} (child : ℕ → A → Option ℕ) (stops : ℕ → Bool) where
  -- what a leftmost link stands for is no longer than the text behind the first label
  left-short : (w v : List A) → long_unless_stop child stops w ≡ Some v → length v ≤ length w
  left-short [] v = λ e. omega (arith, ap length (same_Some [] v e))
  left-short (c ∷ w) v =
      let P : Option (List A) → Type 0 = λ o. o ≡ Some v → length v ≤ length (c ∷ w) in
      cond_both (is_reached child (c ∷ w)) _ _ P (λ _ e. omega (arith, ap length (same_Some (c ∷ w) v e)))
      (λ _. cond_both (meets child stops 0 (c ∷ w)) _ _ P (λ _ e. absurd (none-some v e)) (λ _ e. (let short = left-short w v e in omega (arith, short))))

  -- the state of a leftmost link has such a text
  abbrev LeadsBack : List A → ℕ → Type 0
  LeadsBack w f = (f ≡ 1) ⊎ ((v : List A) × Leads child v f × (length v ≤ length w))

  of_option : (w : List A) (f : ℕ) (o : Option (List A)) → long_unless_stop child stops w ≡ o → IsStateOf child o f → LeadsBack w f
  of_option w f None e is = inl is
  of_option w f (Some v) e is = inr (v, is, left-short w v e)

  left-back : (c : A) (w : List A) (f : ℕ) → IsStateOf child (left_link child stops c w) f → LeadsBack w f
  left-back c w f =
      cond_both (meets child stops 0 (c ∷ w)) _ _ (λ o. IsStateOf child o f → LeadsBack w f) (λ _ is. inl is) (λ _. of_option w f (long_unless_stop child stops w) refl)

module _ {L V A : Type 0} (cmp : L → L → Ordering) (total : IsTotalOrder cmp) (states : List (NfaBuilderState L V A)) (table : HoldTrie cmp states) (order : List ℕ) where
  -- the links of leftmost searches
  pub back_of_left_links : (leftmost : Bool) → HoldLeftLinks cmp leftmost states order → LinksLeadBack cmp states
  back_of_left_links leftmost links = record {
    each = λ c w t at.
        let low = walk-rises (child_of cmp states) (length (edges_of states)) table.trie (c ∷ w) 0 t at in
        let b = walk-bounds (child_of cmp states) (length (edges_of states)) table.trie (c ∷ w) t at in
        let in' = all_in_order cmp total (edges_of states) table order links.first t (omega (arith, low, b.1)) b.0 in
        left-back (child_of cmp states) (stops_of leftmost states) c w (get_or (fails_of states) t 0) (links.linked t in' c w at);
  }

  -- those of standard searches, where no state stops
  pub back_of_links : HoldLinks cmp states order → LinksLeadBack cmp states
  back_of_links links = back_of_left_links false (left_of_linked cmp total (edges_of states) table (stops_of false states) (λ s. refl) (fails_of states) order links)

-- the same links in the same trie
pub back_of_same : {L V A : Type 0} (cmp : L → L → Ordering) (old new : List (NfaBuilderState L V A)) → edges_of new ≡ edges_of old → fails_of new ≡ fails_of old → LinksLeadBack cmp old → LinksLeadBack cmp new
back_of_same {L} cmp old new same_edges same_fails back =
    let P : List (List (L × ℕ)) → List ℕ → Type 0 = λ edges fails. (c : L) (w : List L) (t : ℕ) → Leads (child_in cmp edges) (c ∷ w) t → (get_or fails t 0 ≡ 1) ⊎ ((v : List L) × Leads (child_in cmp edges) v (get_or fails t 0) × (length v ≤ length w)) in
    let Q : List (List (L × ℕ)) → Type 0 = λ edges. P edges (fails_of old) in
    let R : List ℕ → Type 0 = λ fails. P (edges_of new) fails in
    record { each = subst R (sym same_fails) (subst Q (sym same_edges) back.each) }
