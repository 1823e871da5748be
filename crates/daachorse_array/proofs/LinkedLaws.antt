-- Lists keep their numbers while the table grows: a link leads to numbers before it alone. So one pass over the elements, each put before the others of its group, makes the list of each group.
use Rattle.std.proofs.Common.{◌≡◌, ℕ, zero, suc, ◌+◌, ◌-◌, ◌<◌, ◌≤◌, inl, inr, List, [], ◌∷◌, ◌++◌, length, map, get_or, set, replicate, Option, Some, None, refl, sym, ap, ◌∙◌, arith, length-append, add-one, sub-one}
use Rattle.std.proofs.lemmas.List.{get_or-map, get_or_push, get_or_append_left, get_or_past, get_or-replicate, get_or-set_same, get_or-set_other, length-set, length-replicate}
use Rattle.std.proofs.lemmas.Bool.{cases_eq, cases_order, eq-eqb, ne_eqb}
use Rattle.std.proofs.Math.Seq.{get_or-append_seam}
use Rattle.daachorse_array.specs.Edges.{is_in, members}
use Rattle.daachorse_array.specs.Linked.{numbers_from, linked_from, IsPut}

module _ (next : List ℕ) (fall : (q : ℕ) → get_or next q 0 ≤ q) where
  -- any number of steps that is enough gives the same
  steps-same : (s t link : ℕ) → link ≤ s → link ≤ t → numbers_from next s link ≡ numbers_from next t link
  steps-same zero zero link h k = refl
  steps-same zero (suc t) zero h k = refl
  steps-same zero (suc t) (suc q) h k = absurd (omega arith)
  steps-same (suc s) zero zero h k = refl
  steps-same (suc s) zero (suc q) h k = absurd (omega arith)
  steps-same (suc s) (suc t) zero h k = refl
  steps-same (suc s) (suc t) (suc q) h k =
      let back : get_or next q 0 ≤ q = fall q in
      ap (λ l. q ∷ l) (steps-same s t (get_or next q 0) (omega (arith, back)) (omega (arith, back)))

  -- the list of a link is its number, and then the list that this one goes on with
  pub linked_from-cons : (q : ℕ) → linked_from next (suc q) ≡ q ∷ linked_from next (get_or next q 0)
  linked_from-cons q =
      let back : get_or next q 0 ≤ q = fall q in
      ap (λ l. q ∷ l) (steps-same q (get_or next q 0) (get_or next q 0) back (omega arith))

  -- the same at a link that ends no list
  pub linked_from-at : (link : ℕ) → 0 < link → linked_from next link ≡ (link - 1) ∷ linked_from next (get_or next (link - 1) 0)
  linked_from-at zero h = absurd (omega arith)
  linked_from-at (suc q) h = rw sub-one (linked_from-cons q)

  -- ---- one more number
  module _ (x : ℕ) (back : x ≤ length next) where
    pub falls-push : (q : ℕ) → get_or (next ++ x ∷ []) q 0 ≤ q
    falls-push q = elim (cases_order q (length next)) [
      | inl same ↦ omega (arith, back, same, get_or_push next x 0 q (sym same))
      | inr other ↦ elim other [
        | inl less ↦ omega (arith, get_or_append_left next (x ∷ []) 0 q less, fall q)
        | inr more ↦ omega (arith, get_or_past (next ++ x ∷ []) q 0 (omega (arith, length-append next (x ∷ []))))
      ]
    ]

    steps-push : (s link : ℕ) → link ≤ length next → numbers_from (next ++ x ∷ []) s link ≡ numbers_from next s link
    steps-push zero link h = refl
    steps-push (suc s) zero h = refl
    steps-push (suc s) (suc q) h =
        rw (get_or_append_left next (x ∷ []) 0 q (omega arith)) (ap (λ l. q ∷ l) (steps-push s (get_or next q 0) (omega (arith, fall q))))

    -- the list of another number stays
    pub list-push-other : (link : ℕ) → link ≤ length next → linked_from (next ++ x ∷ []) link ≡ linked_from next link
    list-push-other link h = steps-push link link h

    -- the list that the new number begins
    pub list-push-first : linked_from (next ++ x ∷ []) (suc (length next)) ≡ length next ∷ linked_from next x
    list-push-first =
        rw (get_or-append_seam next x [] 0) (ap (λ l. length next ∷ l) (steps-push (length next) x back ∙ steps-same (length next) x x back (omega arith)))

-- the lists of n groups, of the first k elements
pub record IsGrouped (edge : ℕ → Option (ℕ × ℕ)) (n k : ℕ) (first next : List ℕ) : Type 0 where
  pub size : length first ≡ n
  pub made : length next ≡ k
  pub fall : (q : ℕ) → get_or next q 0 ≤ q
  pub inside : (g : ℕ) → g < n → get_or first g 0 ≤ k
  pub lists : (g : ℕ) → g < n → linked_from next (get_or first g 0) ≡ members edge g k

abbrev zeros : ℕ → List ℕ
zeros n = replicate n 0

zero-at : (n g : ℕ) → g < n → get_or (zeros n) g 0 ≡ 0
zero-at n g h = get_or-replicate n g 0 0 h

grouped-empty : (edge : ℕ → Option (ℕ × ℕ)) (n : ℕ) → IsGrouped edge n 0 (zeros n) []
grouped-empty edge n = record {
  size = length-replicate n 0;
  made = refl;
  fall = λ q. omega arith;
  inside = λ g h. (let z = zero-at n g h in omega (arith, z));
  lists = λ g h. ap (linked_from []) (zero-at n g h);
}

pub grouped-start : (edge : ℕ → Option (ℕ × ℕ)) (n : ℕ) (first next : List ℕ) → first ≡ zeros n → next ≡ [] → IsGrouped edge n 0 first next
grouped-start edge n first next a b = rw (a, b) (grouped-empty edge n)

module _ (edge : ℕ → Option (ℕ × ℕ)) (n k : ℕ) (first next : List ℕ) (h : IsGrouped edge n k first next) where
  one-more : (x : ℕ) → length (next ++ x ∷ []) ≡ suc k
  one-more x = let made = h.made in omega (arith, length-append next (x ∷ []), made)

  -- an element of no group
  pub grouped-none : edge k ≡ None → IsGrouped edge n (suc k) first (next ++ 0 ∷ [])
  grouped-none e = record {
    size = h.size;
    made = one-more 0;
    fall = falls-push next h.fall 0 (omega arith);
    inside = λ g less. (let low = h.inside g less in omega (arith, low));
    lists = λ g less. rw e (list-push-other next h.fall 0 (omega arith) (get_or first g 0) (omega (arith, h.inside g less, h.made)) ∙ h.lists g less);
  }

  -- an element of group g
  pub grouped-some : (g u : ℕ) → edge k ≡ Some (g, u) → g < n → IsGrouped edge n (suc k) (set first g (suc k)) (next ++ get_or first g 0 ∷ [])
  grouped-some g u e real = record {
    size = length-set first g (suc k) ∙ h.size;
    made = one-more (get_or first g 0);
    fall = falls-push next h.fall (get_or first g 0) back;
    inside = λ q less. elim (cases_eq q g) [
      | inl same ↦ rw (same, get_or-set_same first g (suc k) 0 within) (omega arith)
      | inr other ↦ rw (get_or-set_other first g q (suc k) 0 other) (omega (arith, h.inside q less))
    ];
    lists = λ q less. elim (cases_eq q g) [
      | inl same ↦
          rw (same, get_or-set_same first g (suc k) 0 within, ap (is_in g) e ∙ eq-eqb g g refl)
          ((rw h.made at (list-push-first next h.fall (get_or first g 0) back)) ∙ ap (λ l. k ∷ l) (h.lists g real ∙ ap (λ i. members edge i k) (sym same)))
      | inr other ↦
          rw (get_or-set_other first g q (suc k) 0 other, ap (is_in q) e ∙ ne_eqb g q (λ same. other (sym same)))
          (list-push-other next h.fall (get_or first g 0) back (get_or first q 0) (omega (arith, h.inside q less, h.made)) ∙ h.lists q less)
    ];
  }
    where
      back : get_or first g 0 ≤ length next
      back = omega (arith, h.inside g real, h.made)

      within : g < length first
      within = omega (arith, h.size, real)

pub grouped-next : (edge : ℕ → Option (ℕ × ℕ)) (n k : ℕ) (first new next then : List ℕ) (link : ℕ) → IsGrouped edge n k first next → IsPut (edge k) k first new link → then ≡ next ++ link ∷ [] → IsGrouped edge n (k + 1) new then
grouped-next edge n k first new next then link h put e = rw (e, add-one k) (at (edge k) refl put)
  where
    at : (o : Option (ℕ × ℕ)) → edge k ≡ o → IsPut o k first new link → IsGrouped edge n (suc k) new (next ++ link ∷ [])
    at None is (same, none) = rw (same, none) (grouped-none edge n k first next h is)
    at (Some x) is (less, changed, taken) =
        let size = h.size in
        let done : new ≡ set first x.0 (suc k) = changed ∙ ap (λ i. set first x.0 i) (add-one k) in
        rw (done, taken) (grouped-some edge n k first next h x.0 x.1 is (omega (arith, less, size)))

-- the lists of all groups, read as one table
pub grouped-list : (edge : ℕ → Option (ℕ × ℕ)) (n k : ℕ) (first next : List ℕ) → IsGrouped edge n k first next → (g : ℕ) → g < n → get_or (map (linked_from next) first) g [] ≡ members edge g k
grouped-list edge n k first next h g less = get_or-map (linked_from next) first g 0 [] (omega (arith, h.size, less)) ∙ h.lists g less
