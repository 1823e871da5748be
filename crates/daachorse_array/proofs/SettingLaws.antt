-- Coming to a rank from its link, and going back.
use Rattle.std.proofs.Common.{◌≡◌, ◌≢◌, ℕ, ◌+◌, ◌<◌, ◌≤◌, ◌⊎◌, Bool, List, length, Some, None, refl, sym, ap, ◌∙◌, subst, inl, inr, arith}
use Rattle.std.proofs.Common.{get_or, set, get_or-set_other, get_or-set_same}
use Rattle.std.proofs.lemmas.List.{length-set}
use Rattle.std.proofs.lemmas.Bool.{cases_eq, cases_lt}
use Rattle.daachorse_array.specs.Ranks.{child, IsTrieOfRanks, LinksFall, AreStarts}
use Rattle.daachorse_array.specs.Near.{up, near, right, AreNear}
use Rattle.daachorse_array.specs.Tours.{IsEntering, IsLeaving}
use Rattle.daachorse_array.proofs.ChildByLabel.{edge, back}
use Rattle.daachorse_array.proofs.NearLaws.{near_child, near_other}
use Rattle.daachorse_array.proofs.StartLaws.{not_after}

module _ (parents labels : List ℕ) (stops : List Bool) (fails : List ℕ) (alphabet : ℕ) (trie : IsTrieOfRanks parents labels alphabet)
    (each : length fails ≡ length parents) (falls : LinksFall fails)
    (starts : List ℕ) (are : AreStarts parents starts) (p : ℕ) (within : p < length parents) where
  fall_to : (q : ℕ) → 0 < q → q ≤ p → q < length fails → (get_or fails q 0 < q) ⊎ (get_or fails q 0 ≡ length fails)
  fall_to q low _ high = falls q low high

  -- no child of p but m has m's label
  one_label : (j m : ℕ) → 0 < j → j < length parents → 0 < m → m < length parents → get_or parents j 0 ≡ p → get_or parents m 0 ≡ p
      → get_or labels j 0 ≡ get_or labels m 0 → j ≡ m
  one_label j m hj lj hm lm e g same = grind (arith, trie.apart j m hj, trie.apart m j hm)

  -- a child of p has its rank before the ranks of the state behind p
  in_range : (m : ℕ) → get_or starts (p + 1) 0 ≤ m → (j : ℕ) → j < length parents → get_or parents j 0 ≡ p → j < m
  in_range m done j lj ej = elim (cases_lt j m) [
    | inl h ↦ h
    | inr h ↦
        absurd (not_after parents starts are p within j (omega (arith, done, h)) lj ej)
  ]

  no_child : (c : ℕ) → child parents labels p c ≡ None → (j : ℕ) → 0 < j → j < length parents → get_or parents j 0 ≡ p
      → get_or labels j 0 ≡ c → ⊥
  no_child c e j pos hj ej g = let some = edge parents labels alphabet trie j pos hj in cc

  -- ---- coming
  -- what the array has of the label of the next child
  pub entering_reads : (array saved old : List ℕ) (m : ℕ) → length array ≡ alphabet
      → IsEntering parents labels stops fails array saved old p m → (0 < m) × (m < length parents) × (get_or parents m 0 ≡ p) →
      get_or array (get_or labels m 0) 0 ≡ near parents labels fails (up fails p) (get_or labels m 0)
  entering_reads array saved old m wide is at =
      is.other (get_or labels m 0) (omega (arith, trie.inside m at.0 at.1, wide))
      (λ j pos lt low e g. omega (arith, one_label j m pos lt at.0 at.1 e at.2 g, low))

  to_next : (j m : ℕ) → j < m + 1 → (P : Type 0) → (j < m → P) → (j ≡ m → P) → P
  to_next j m lt P a b = elim (cases_eq j m) [ inl h ↦ b h | inr h ↦ a (omega (arith, h, lt)) ]

  pub entering_next : (array saved old : List ℕ) (m v : ℕ) → length array ≡ alphabet → length saved ≡ length parents
      → IsEntering parents labels stops fails array saved old p m → (0 < m) × (m < length parents) × (get_or parents m 0 ≡ p) →
      v ≡ near parents labels fails (up fails p) (get_or labels m 0)
      → get_or fails m 0 ≡ right parents labels stops fails p m (get_or labels m 0) →
      IsEntering parents labels stops fails (set array (get_or labels m 0) m) (set saved m v) old p (m + 1)
  entering_next array saved old m v wide size is at found is_right =
      let l = get_or labels m 0 in
      let lt : l < length array = omega (arith, trie.inside m at.0 at.1, wide) in
      record {
        checked = λ j pos high low e. to_next j m low _ (λ h. is.checked j pos high h e)
            (λ h. subst (λ x. get_or fails x 0 ≡ right parents labels stops fails p x (get_or labels x 0)) (sym h) is_right);
        mine = λ j pos high low e. to_next j m low _
            (λ h. get_or-set_other array l (get_or labels j 0) m 0 (λ g. omega (arith, one_label j m pos high at.0 at.1 e at.2 g, h))
            ∙ is.mine j pos high h e)
            (λ h. subst (λ x. get_or (set array l m) (get_or labels x 0) 0 ≡ x) (sym h) (get_or-set_same array l m 0 lt));
        other = λ c high no'.
            let ne : c ≢ l = λ g. no' m at.0 at.1 (omega arith) at.2 (sym g) in
            get_or-set_other array l c m 0 ne ∙ is.other c (omega (arith, high, length-set array l m))
            (λ j pos hj low e g. no' j pos hj (omega (arith, low)) e g);
        kept = λ j pos high low e. to_next j m low _
            (λ h. get_or-set_other saved m j v 0 (λ g. omega (arith, g, h)) ∙ is.kept j pos high h e)
            (λ h. subst (λ x. get_or (set saved m v) x 0 ≡ near parents labels fails (up fails p) (get_or labels x 0)) (sym h)
            (get_or-set_same saved m v 0 (omega (arith, at.1, size)) ∙ found));
        frame = λ j ne. get_or-set_other saved m j v 0 (λ g. ne (ap (λ x. get_or parents x 0) g ∙ at.2)) ∙ is.frame j ne;
      }

  -- p is reached
  pub entered : (array saved old : List ℕ) (m : ℕ) → get_or starts (p + 1) 0 ≤ m → IsEntering parents labels stops fails array saved old p m
      → AreNear parents labels fails array p
  entered array saved old m done is c lt =
      (elim (child parents labels p c) as (λ o. child parents labels p c ≡ o → get_or array c 0 ≡ near parents labels fails p c) [
        | Some j ↦ λ e.
            let r = back parents labels alphabet trie p c j e in
            ap (λ x. get_or array x 0) (sym r.3) ∙ is.mine j r.0 r.1 (in_range m done j r.1 r.2) r.2
            ∙ sym (near_child parents labels fails alphabet trie each p fall_to p c j (omega arith) (omega (arith, within, each)) e)
        | None ↦ λ e.
            is.other c lt (λ j pos hj low ej g. no_child c e j pos hj ej g)
            ∙ sym (near_other parents labels fails alphabet trie each p fall_to p c (omega arith) (omega (arith, within, each)) e)
      ]) refl

  -- ---- going back
  -- p is left
  pub left : (array : List ℕ) (m : ℕ) → get_or starts (p + 1) 0 ≤ m → IsLeaving parents labels fails array p m
      → AreNear parents labels fails array (up fails p)
  left array m done is c lt = (elim (child parents labels p c) as (λ o. child parents labels p c ≡ o
      → get_or array c 0 ≡ near parents labels fails (up fails p) c) [
        | Some j ↦ λ e.
            let r = back parents labels alphabet trie p c j e in
            subst (λ x. get_or array x 0 ≡ near parents labels fails (up fails p) x) r.3 (is.back j r.0 r.1 (in_range m done j r.1 r.2) r.2)
        | None ↦ λ e.
            is.other c lt (λ j pos hj low ej g. no_child c e j pos hj ej g)
            ∙ near_other parents labels fails alphabet trie each p fall_to p c (omega arith) (omega (arith, within, each)) e
      ]) refl
