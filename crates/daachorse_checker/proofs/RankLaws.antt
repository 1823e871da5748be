-- How ranks grow by one child.
use Rattle.std.proofs.Common.{◌≡◌, ℕ, ◌+◌, ◌<◌, ◌≤◌, ◌⊎◌, List, [], ◌∷◌, ◌++◌, length, Option, Some, refl, sym, ap, zero, suc, ◌∙◌, inl}
use Rattle.std.proofs.Common.{inr, arith, get_or, set, get_or-set_other, get_or-set_same}
use Rattle.std.proofs.lemmas.List.{length-set, length_push, get_or_push, get_or_append_left}
use Rattle.std.proofs.lemmas.Bool.{cases_lt, cases_eq}
use Rattle.daachorse_array.proofs.PathLaws.{pigeon}
use Rattle.daachorse_checker.specs.Ranks.{HasRanks, HasEntry, IsClosed}

pub old_at : (xs : List ℕ) (y i : ℕ) → i < length xs → get_or (xs ++ y ∷ []) i 0 ≡ get_or xs i 0
old_at xs y i lt = get_or_append_left xs (y ∷ []) 0 i lt

module _ {child : ℕ → ℕ → Option ℕ} {label : ℕ → ℕ} where
  module _ {order parents labels marks : List ℕ} (h : HasRanks child label order parents labels marks) where
    -- an element has one rank
    pub same_rank : (l m : ℕ) → l < length order → m < length order → get_or order l 0 ≡ get_or order m 0 → l ≡ m
    same_rank l m hl hm e = sym (h.ranked l hl) ∙ ap (λ i. get_or marks i 0) e ∙ h.ranked m hm

    -- there are at most as many ranks as elements
    pub few : length order ≤ length marks
    few = pigeon (length marks) (length order) (λ m. get_or order m 0) h.inside
        (λ l m less lt e. omega (arith, less, same_rank l m (omega (arith, less, lt)) lt e))

    -- what has no mark has no rank
    pub fresh : (j m : ℕ) → 1 < j → get_or marks j 0 ≡ 0 → m < length order → get_or order m 0 ≡ j → ⊥
    fresh j zero low none lt e = omega (arith, h.first, e, low)
    fresh j (suc m) low none lt e =
        let d = ap (λ i. get_or marks i 0) e in
        omega (arith, h.ranked (suc m) lt, d, none)

    module _ {k j u : ℕ} (here : k < length order) (edge : child (get_or order k 0) (label j) ≡ Some j) (is : u ≡ label j) (low : 1 < j)
        (none : get_or marks j 0 ≡ 0) (high : j < length marks) (last : (m : ℕ) → 0 < m → m < length order → get_or parents m 0 ≤ k) where
      abbrev new : List ℕ
      new = set marks j (length order)

      kept : (m : ℕ) → m < length order → get_or new (get_or (order ++ j ∷ []) m 0) 0 ≡ get_or marks (get_or order m 0) 0
      kept m lt =
          ap (λ i. get_or new i 0) (old_at order j m lt)
          ∙ get_or-set_other marks j (get_or order m 0) (length order) 0 (fresh j m low none lt)

      old_or_new : (m : ℕ) → m < length (order ++ j ∷ []) → (m < length order) ⊎ (m ≡ length order)
      old_or_new m lt = elim (cases_lt m (length order)) [ inl a ↦ inl a | inr b ↦ inr (omega (arith, lt, b, length_push order j)) ]

      new_order : (m : ℕ) → m ≡ length order → get_or (order ++ j ∷ []) m 0 ≡ j
      new_order m e = get_or_push order j 0 m (sym e)

      new_parents : (m : ℕ) → m ≡ length order → get_or (parents ++ k ∷ []) m 0 ≡ k
      new_parents m e = get_or_push parents k 0 m (h.one_each ∙ sym e)

      old_parents : (m : ℕ) → m < length order → get_or (parents ++ k ∷ []) m 0 ≡ get_or parents m 0
      old_parents m lt = old_at parents k m (omega (arith, lt, h.one_each))

      pub ranks_push : HasRanks child label (order ++ j ∷ []) (parents ++ k ∷ []) (labels ++ u ∷ []) new
      ranks_push = record {
        some = omega (arith, length_push order j);
        first = old_at order j 0 h.some ∙ h.first;
        one_each = length_push parents k ∙ ap (λ n. n + 1) h.one_each ∙ sym (length_push order j);
        label_each = length_push labels u ∙ ap (λ n. n + 1) h.label_each ∙ sym (length_push order j);
        earlier = λ m pos lt. grind (arith, old_or_new m lt, old_parents m, new_parents m, h.earlier m pos);
        edge = λ m pos lt.
            let at_k = old_at order j k here in
            let up = h.earlier m pos in
            grind (
              arith,
              old_or_new m lt,
              old_parents m,
              old_at order j m,
              old_at order j (get_or parents m 0),
              h.edge m pos,
              new_parents m,
              new_order m,
              edge,
            );
        labelled = λ m pos lt.
            grind (
              arith,
              old_or_new m lt,
              old_at labels u m,
              old_at order j m,
              h.labelled m pos,
              h.label_each,
              get_or_push labels u 0 m,
              new_order m,
              is,
            );
        alive = λ m pos lt. grind (arith, old_or_new m lt, old_at order j m, new_order m, h.alive m pos);
        inside = λ m lt. grind (arith, old_or_new m lt, old_at order j m, new_order m, h.inside m, length-set marks j (length order));
        ranked = λ m lt. grind (arith, old_or_new m lt, kept m, h.ranked m, new_order m, get_or-set_same marks j (length order) 0 high);
        marked = λ i pos. elim (cases_eq i j) [
          | inl g ↦ rw (g, get_or-set_same marks j (length order) 0 high)
              (omega (arith, length_push order j), new_order (length order) refl)
          | inr g ↦
              let at : get_or new i 0 ≡ get_or marks i 0 = get_or-set_other marks j i (length order) 0 g in
              let old = h.marked i (omega (arith, pos, at)) in
              rw at (omega (arith, old.0, length_push order j), old_at order j (get_or marks i 0) old.0 ∙ old.1)
        ];
        rising = λ l m pos less lt.
            let where_m = old_or_new m (omega (arith, lt, length_push parents k, h.one_each, length_push order j)) in
            grind (arith, old_parents m, old_parents l, new_parents m, h.rising l m pos less, last l pos, h.one_each);
      }

      pub entry_push : (l i : ℕ) → HasEntry order parents l i → HasEntry (order ++ j ∷ []) (parents ++ k ∷ []) l i
      entry_push l i e = (e.0, e.1, omega (arith, e.2, length_push order j), old_at order j e.0 e.2 ∙ e.3, old_parents e.0 e.2 ∙ e.4)

      pub entry_new : HasEntry (order ++ j ∷ []) (parents ++ k ∷ []) k j
      entry_new = (length order, h.some, omega (arith, length_push order j), new_order (length order) refl, new_parents (length order) refl)

      pub closed_push : (next : ℕ) → next ≤ length order → IsClosed child order parents next
          → IsClosed child (order ++ j ∷ []) (parents ++ k ∷ []) next
      closed_push next le closed l less c t e =
          entry_push l t (closed l less c t (ap (λ s. child s c) (sym (old_at order j l (omega (arith, less, le)))) ∙ e))

      pub parents_push : (m : ℕ) → 0 < m → m < length (order ++ j ∷ []) → get_or (parents ++ k ∷ []) m 0 ≤ k
      parents_push m pos lt = grind (arith, old_or_new m lt, old_parents m, new_parents m, last m pos)
