-- A search among edges in order ends at the edge of the label, or between the edges before it and those after it.
use Rattle.std.proofs.Common.{◌≡◌, ℕ, zero, suc, ◌+◌, ◌<◌, ◌≤◌, ◌⊎◌, Bool, true, false, cond, List, [], ◌∷◌, length, get_or, set, Option, Some, None, refl, sym, ap, ◌∙◌, subst, inl, inr, arith}
use Rattle.std.specs.Prelude.{insert}
use Rattle.std.proofs.lemmas.Bool.{cond-true, cond-false, cases_Bool}
use Rattle.std.proofs.lemmas.List.{length-map, get_or-map}
use Rattle.std.proofs.lemmas.List.Sorted.{searchable_from_sorted}
use Rattle.std.proofs.lemmas.Map.Keys.{sorted_tail, Less-from_sorted}
use Rattle.std.specs.declared.cmp.Ordering.{Ordering}
use Rattle.std.specs.declared.cmp.Ordering.TheVariants.{Less, Equal, Greater}
use Rattle.std.specs.Ordering.{ordering_reverse, ordering_index, is_eq, is_lt, match_ordering}
use Rattle.std.specs.Cmp.{IsTotalOrder, eq_by_cmp_equiv, alike_right, tied_back}
use Rattle.std.specs.List.{AllByRecursion}
use Rattle.std.specs.List.Sorted.{IsStrictlySortedBy, IsNonDecreasingBy, IsSortedBy, IsPartitionPoint}
use Rattle.std.specs.BTreeMap.{insert_entry, is_at}
use Rattle.std.specs.Map.{keys_of}
use Rattle.std.specs.Map.Iter.{TakesFirst, ShowsInOrder}
use Rattle.std.proofs.iter.runs.Sources.{from_front}
use Rattle.daachorse_build.specs.EdgeMaps.{id_at, IsOrdered, Updates}

by_ordering : {P : Type 0} (r : Ordering) → (r ≡ Less → P) → (r ≡ Equal → P) → (r ≡ Greater → P) → P
by_ordering Less a b c = a refl
by_ordering Equal a b c = b refl
by_ordering Greater a b c = c refl

cond_again : (b : Bool) (v w x : Option ℕ) → cond b v x ≡ cond b v (cond b w x)
cond_again true v w x = refl
cond_again false v w x = refl

module _ {L : Type 0} (cmp : L → L → Ordering) (total : IsTotalOrder cmp) where
  -- an order from the other side
  flipped : {r : Ordering} (x y : L) → cmp x y ≡ r → cmp y x ≡ ordering_reverse r
  flipped x y h = total.antisymm y x ∙ ap ordering_reverse h

  -- the first edge is below each other
  first_below : (e : L × ℕ) (es : List (L × ℕ)) (i : ℕ) (d : L × ℕ) → IsOrdered cmp (e ∷ es) → i < length es → cmp e.0 (get_or es i d).0 ≡ Less
  first_below e es i d s l =
      let low : suc i < length (keys_of (e ∷ es)) = omega (arith, length-map es (λ x. x.0)) in
      ap (cmp e.0) (sym (get_or-map (λ x. x.0) es i d d.0 l)) ∙ Less-from_sorted cmp (keys_of (e ∷ es)) 0 (suc i) d.0 s (omega arith) low

  -- one step of a walk over the edges
  put_step : (e : L × ℕ) (es : List (L × ℕ)) (k : L) (v : ℕ) (r : Ordering) → cmp k e.0 ≡ r → insert_entry cmp (e ∷ es) k v ≡ match_ordering r ((k, v) ∷ e ∷ es) ((e.0, v) ∷ es) (e ∷ insert_entry cmp es k v)
  put_step e es k v r h = ap (λ o. match_ordering o ((k, v) ∷ e ∷ es) ((e.0, v) ∷ es) (e ∷ insert_entry cmp es k v)) h

  past : (e : L × ℕ) (es : List (L × ℕ)) (k : L) → is_eq (cmp k e.0) ≡ false → id_at cmp (e ∷ es) k ≡ id_at cmp es k
  past e es k n = cond-false _ _ _ n

  here : (e : L × ℕ) (es : List (L × ℕ)) (k : L) → cmp k e.0 ≡ Equal → id_at cmp (e ∷ es) k ≡ Some e.1
  here e es k h = cond-true _ _ _ (ap is_eq h)

  -- ---- a search that hits
  pub found_at : (es : List (L × ℕ)) (i : ℕ) (k : L) (d : L × ℕ) → IsOrdered cmp es → i < length es → cmp (get_or es i d).0 k ≡ Equal → id_at cmp es k ≡ Some (get_or es i d).1
  found_at [] i k d s l h = absurd (omega arith)
  found_at (e ∷ es) zero k d s l h = here e es k (tied_back total e.0 k h)
  found_at (e ∷ es) (suc i) k d s l h =
      let less : cmp e.0 k ≡ Less = sym (alike_right total (get_or es i d).0 k e.0 h) ∙ first_below e es i d s (omega arith) in
      past e es k (ap is_eq (flipped e.0 k less)) ∙ found_at es i k d (sorted_tail cmp e.0 (keys_of es) s) (omega arith) h

  pub put_at : (es : List (L × ℕ)) (i : ℕ) (k : L) (v : ℕ) (d : L × ℕ) → IsOrdered cmp es → i < length es → cmp (get_or es i d).0 k ≡ Equal → set es i ((get_or es i d).0, v) ≡ insert_entry cmp es k v
  put_at [] i k v d s l h = absurd (omega arith)
  put_at (e ∷ es) zero k v d s l h = sym (put_step e es k v Equal (tied_back total e.0 k h))
  put_at (e ∷ es) (suc i) k v d s l h =
      let less : cmp e.0 k ≡ Less = sym (alike_right total (get_or es i d).0 k e.0 h) ∙ first_below e es i d s (omega arith) in
      ap (λ x. e ∷ x) (put_at es i k v d (sorted_tail cmp e.0 (keys_of es) s) (omega arith) h) ∙ sym (put_step e es k v Greater (flipped e.0 k less))

  -- ---- a search that misses
  pub none_at : (es : List (L × ℕ)) (i : ℕ) (k : L) → i ≤ length es → IsPartitionPoint (λ e. cmp e.0 k ≡ Less) (λ e. cmp e.0 k ≡ Greater) es i → id_at cmp es k ≡ None
  none_at [] i k l h = refl
  none_at (e ∷ es) zero k l h =
      past e es k (ap is_eq (flipped e.0 k (h.1 0 e (omega arith) (omega arith))))
      ∙ none_at es zero k (omega arith) (λ j d a b. absurd (omega arith), λ j d a b. h.1 (suc j) d (omega arith) (omega arith))
  none_at (e ∷ es) (suc i) k l h =
      past e es k (ap is_eq (flipped e.0 k (h.0 0 e (omega arith) (omega arith))))
      ∙ none_at es i k (omega arith) (λ j d a b. h.0 (suc j) d (omega arith) (omega arith), λ j d a b. h.1 (suc j) d (omega arith) (omega arith))

  pub put_between : (es : List (L × ℕ)) (i : ℕ) (k : L) (v : ℕ) → i ≤ length es → IsPartitionPoint (λ e. cmp e.0 k ≡ Less) (λ e. cmp e.0 k ≡ Greater) es i → insert es i (k, v) ≡ insert_entry cmp es k v
  put_between [] zero k v l h = refl
  put_between [] (suc i) k v l h = absurd (omega arith)
  put_between (e ∷ es) zero k v l h = sym (put_step e es k v Less (flipped e.0 k (h.1 0 e (omega arith) (omega arith))))
  put_between (e ∷ es) (suc i) k v l h =
      ap (λ x. e ∷ x) (put_between es i k v (omega arith) (λ j d a b. h.0 (suc j) d (omega arith) (omega arith), λ j d a b. h.1 (suc j) d (omega arith) (omega arith)))
      ∙ sym (put_step e es k v Greater (flipped e.0 k (h.0 0 e (omega arith) (omega arith))))

  -- ---- what a binary search asks
  sorted_pairs : (es : List (L × ℕ)) → IsOrdered cmp es → IsSortedBy (λ a b. is_lt (cmp a.0 b.0)) es
  sorted_pairs es s k d low high =
      let n : length (keys_of es) ≡ length es = length-map es (λ x. x.0) in
      let less : cmp (get_or es k d).0 (get_or es (k + 1) d).0 ≡ Less =
      ap (λ x. cmp x (get_or es (k + 1) d).0) (sym (get_or-map (λ x. x.0) es k d d.0 (omega arith)))
      ∙ ap (cmp (get_or (keys_of es) k d.0)) (sym (get_or-map (λ x. x.0) es (k + 1) d d.0 high))
      ∙ Less-from_sorted cmp (keys_of es) k (k + 1) d.0 s (omega arith) (omega (arith, n)) in
      ap is_lt (flipped _ _ less)

  pub searchable : (es : List (L × ℕ)) (k : L) → IsOrdered cmp es → IsNonDecreasingBy (λ e. ordering_index (cmp e.0 k)) es
  searchable es k s = searchable_from_sorted total (λ e. e.0) es k (sorted_pairs es s)

  -- ---- one edge more
  all_put : (P : L → Type 0) (es : List (L × ℕ)) (k : L) (v : ℕ) → P k → AllByRecursion P (keys_of es) → AllByRecursion P (keys_of (insert_entry cmp es k v))
  all_put P [] k v p a = (p, tt)
  all_put P (e ∷ es) k v p a =
      let Q : List (L × ℕ) → Type 0 = λ x. AllByRecursion P (keys_of x) in
      by_ordering (cmp k e.0)
      (λ h. subst Q (sym (put_step e es k v Less h)) (p, a))
      (λ h. subst Q (sym (put_step e es k v Equal h)) a)
      (λ h. subst Q (sym (put_step e es k v Greater h)) (a.0, all_put P es k v p a.1))

  all_less : (x y : L) (ks : List L) → cmp x y ≡ Less → AllByRecursion (λ z. cmp y z ≡ Less) ks → AllByRecursion (λ z. cmp x z ≡ Less) ks
  all_less x y [] h a = tt
  all_less x y (z ∷ zs) h a = (total.trans x y z h a.0, all_less x y zs h a.1)

  pub ordered_put : (es : List (L × ℕ)) (k : L) (v : ℕ) → IsOrdered cmp es → IsOrdered cmp (insert_entry cmp es k v)
  unfolding IsStrictlySortedBy
  ordered_put [] k v s = (tt, tt)
  ordered_put (e ∷ es) k v s =
      let Q : List (L × ℕ) → Type 0 = IsOrdered cmp in
      by_ordering (cmp k e.0)
      (λ h. subst Q (sym (put_step e es k v Less h)) ((h, all_less k e.0 (keys_of es) h s.0), s))
      (λ h. subst Q (sym (put_step e es k v Equal h)) s)
      (λ h. subst Q (sym (put_step e es k v Greater h)) (all_put (λ y. cmp e.0 y ≡ Less) es k v (flipped k e.0 h) s.0, ordered_put es k v s.1))

  -- two labels that are equal are equal to the same labels
  at_equal : (k x q : L) → cmp k x ≡ Equal → is_at (cmp q) x ≡ is_at (cmp k) q
  at_equal k x q h =
      let laws = eq_by_cmp_equiv total in
      laws.symm q x ∙ sym (laws.congr k x q (ap is_eq h))

  at_other : (k x q : L) → cmp k x ≡ Greater → is_at (cmp q) x ≡ true → is_at (cmp k) q ≡ false
  at_other k x q h t =
      let laws = eq_by_cmp_equiv total in
      laws.symm k q ∙ laws.congr q x k t ∙ laws.symm x k ∙ ap is_eq h

  put_later : (e : L × ℕ) (es fs : List (L × ℕ)) (k q : L) (v : ℕ) → cmp k e.0 ≡ Greater → id_at cmp fs q ≡ cond (is_at (cmp k) q) (Some v) (id_at cmp es q) → (is_at (cmp q) e.0 ≡ true) ⊎ (is_at (cmp q) e.0 ≡ false) → id_at cmp (e ∷ fs) q ≡ cond (is_at (cmp k) q) (Some v) (id_at cmp (e ∷ es) q)
  put_later e es fs k q v h more (inl yes') =
      cond-true _ _ _ yes' ∙ sym (cond-false _ _ _ (at_other k e.0 q h yes') ∙ cond-true _ _ _ yes')
  put_later e es fs k q v h more (inr no') =
      cond-false _ _ _ no' ∙ more ∙ ap (cond (is_at (cmp k) q) (Some v)) (sym (cond-false _ _ _ no'))

  -- the new edge is found at its label, and each other edge as before
  pub updates_put : (es : List (L × ℕ)) (k : L) (v : ℕ) → Updates cmp es (insert_entry cmp es k v) k v
  updates_put [] k v q = ap (λ b. cond b (Some v) None) ((eq_by_cmp_equiv total).symm q k)
  updates_put (e ∷ es) k v q =
      let more = updates_put es k v q in
      by_ordering (cmp k e.0)
      (λ h. ap (λ x. id_at cmp x q) (put_step e es k v Less h) ∙ ap (λ b. cond b (Some v) (id_at cmp (e ∷ es) q)) ((eq_by_cmp_equiv total).symm q k))
      (λ h. ap (λ x. id_at cmp x q) (put_step e es k v Equal h) ∙ cond_again _ (Some v) (Some e.1) (id_at cmp es q) ∙ ap (λ b. cond b (Some v) (id_at cmp (e ∷ es) q)) (at_equal k e.0 q h))
      (λ h. ap (λ x. id_at cmp x q) (put_step e es k v Greater h) ∙ put_later e es (insert_entry cmp es k v) k q v h more (cases_Bool (is_at (cmp q) e.0)))

-- ---- a run of an iterator that is seen as the list of what it has left
pub shows_in_order : {A X : Type 0} (shows : A → X) → ShowsInOrder shows
shows_in_order shows = from_front (TakesFirst shows) shows (λ s. s) (λ s t h. ap length h.0) (λ s x t h. h)
