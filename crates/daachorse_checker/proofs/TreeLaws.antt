-- A text leads to the element at each rank, and what a text leads to has a rank; a child that is met again shows that some element has two
-- paths.
use Rattle.std.proofs.Common.{◌≡◌, ℕ, ◌<◌, ◌≤◌, List, [], ◌∷◌, ◌++◌, length, Option, Some, refl, sym, ap, zero, suc, ◌∙◌, arith, get_or}
use Rattle.std.proofs.lemmas.Option.{same_Some}
use Rattle.std.proofs.lemmas.List.{length_push, same_from_push}
use Rattle.daachorse_model.specs.Paths.{walk}
use Rattle.daachorse_model.proofs.Paths.{walk-push, push-parts}
use Rattle.daachorse_model.proofs.Lists.{last_of}
use Rattle.daachorse_checker.specs.Ranks.{HasOnePath, HasRanks, IsClosed}
use Rattle.daachorse_checker.proofs.RankLaws.{same_rank}

module _ {child : ℕ → ℕ → Option ℕ} {label : ℕ → ℕ} {order parents labels marks : List ℕ}
    (list : HasRanks child label order parents labels marks) where
  text_by : (fuel m : ℕ) → m ≤ fuel → m < length order → (w : List ℕ) × (walk child 0 w ≡ Some (get_or order m 0))
  text_by fuel zero le lt = ([], ap Some (sym list.first))
  text_by zero (suc m) le lt = absurd (omega (arith, le))
  text_by (suc fuel) (suc m) le lt =
      let e = list.earlier (suc m) (omega arith) lt in
      let up = text_by fuel (get_or parents (suc m) 0) (omega (arith, le, e)) (omega (arith, lt, e)) in
      let c = label (get_or order (suc m) 0) in (
        up.0 ++ c ∷ [],
        walk-push child 0 up.0 c _ up.1 ∙ list.edge (suc m) (omega arith) lt,
      )

  -- a text leads to the element at each rank
  pub text_at : (m : ℕ) → m < length order → (w : List ℕ) × (walk child 0 w ≡ Some (get_or order m 0))
  text_at m lt = text_by m m (omega arith) lt

  module _ (unit : (s c t : ℕ) → (m : ℕ) × (m < length order) × (get_or order m 0 ≡ s) → child s c ≡ Some t → c ≡ label t)
      (closed : IsClosed child order parents (length order)) where
    found_by : (n : ℕ) (w : List ℕ) (i : ℕ) → length w ≤ n → walk child 0 w ≡ Some i → (m : ℕ) × (m < length order) × (get_or order m 0 ≡ i)
    found_by n [] i le h = (0, list.some, list.first ∙ same_Some 0 i h)
    found_by zero (x ∷ xs) i le h = absurd (omega (arith, le))
    found_by (suc n) (x ∷ xs) i le h =
        let a = last_of x xs in
        let p = push-parts child 0 a.0 a.1 i (sym (ap (walk child 0) a.2) ∙ h) in
        let q = found_by n a.0 p.0 (omega (arith, le, ap length a.2, length_push a.0 a.1)) p.1 in
        let e = closed q.0 q.1 a.1 i (ap (λ s. child s a.1) q.2 ∙ p.2) in
        (e.0, e.2, e.3)

    -- what a text leads to has a rank
    pub found : (w : List ℕ) (i : ℕ) → walk child 0 w ≡ Some i → (m : ℕ) × (m < length order) × (get_or order m 0 ≡ i)
    found w i h = found_by (length w) w i (omega arith) h

  -- a child that is the root, the dead state or a child of another entry: some element has two paths
  pub no_root : (k c t : ℕ) → k < length order → child (get_or order k 0) c ≡ Some t → t ≤ 1 → HasOnePath child → ⊥
  no_root k c zero lt e low tree =
      let w = text_at k lt in
      let empty = tree.one_path 0 (w.0 ++ c ∷ []) [] (walk-push child 0 w.0 c _ w.1 ∙ e) refl in
      omega (arith, ap length empty, length_push w.0 c)
  no_root k c (suc t) lt e low tree =
      let w = text_at k lt in
      tree.dead_no_child (w.0 ++ c ∷ []) (walk-push child 0 w.0 c _ w.1 ∙ e ∙ ap Some (omega arith))

  pub no_second : (k l c d t : ℕ) → k < length order → l < length order → (k ≡ l → ⊥) → child (get_or order k 0) c ≡ Some t
      → child (get_or order l 0) d ≡ Some t → HasOnePath child → ⊥
  no_second k l c d t hk hl ne e g tree =
      let v = text_at k hk in
      let w = text_at l hl in
      let same = tree.one_path t (v.0 ++ c ∷ []) (w.0 ++ d ∷ []) (walk-push child 0 v.0 c _ v.1 ∙ e) (walk-push child 0 w.0 d _ w.1 ∙ g) in
      let front : v.0 ≡ w.0 = (same_from_push v.0 w.0 c d same).0 in
      let to : Some (get_or order k 0) ≡ Some (get_or order l 0) = sym v.1 ∙ ap (walk child 0) front ∙ w.1 in
      ne (same_rank list k l hk hl (same_Some _ _ to))
