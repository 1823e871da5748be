-- The queue of a breadth-first traversal, from step to step.
use Rattle.std.proofs.Common.{◌≡◌, ◌≢◌, ℕ, zero, suc, ◌+◌, ◌<◌, ◌≤◌, Bool, true, false, cond, eqb, List, [], ◌∷◌, ◌++◌, length, get_or, take, drop, set, replicate, Contains, Some, refl, sym, ap, ◌∙◌, subst, inl, inr, arith, append_assoc, get_or-set_same, get_or-set_other}
use Rattle.std.proofs.lemmas.Option.{none-some, same_Some}
use Rattle.std.proofs.lemmas.List.{append-nil, take-append-le, get_or_append_left, get_or_push, length_push, length-set, length-replicate, get_or-replicate, take_more, take_all, length-take-le, get_or-take, take_at, take-take, take-append-drop, flat_map_more, get_or_default}
use Rattle.std.proofs.lemmas.List.Elements.{Contains-get_or, Contains-append_left, Contains-append_right, Contains-append_cases, Contains-push_cases, at_from_Contains}
use Rattle.std.proofs.lemmas.Map.Entries.{length-keys_of, length-values_of, place_from_lookup, lookup_from_place}
use Rattle.std.proofs.lemmas.Map.Made.{Contains-tail}
use Rattle.std.proofs.lemmas.Map.Views.{Contains-from_any}
use Rattle.std.proofs.lemmas.Map.Keys.{IsDistinct-from_sorted, IsDistinct-from_apart, Less-from_sorted}
use Rattle.std.proofs.lemmas.Map.Steps.{length-le_from_distinct_below}
use Rattle.std.specs.Cmp.{eq_by_cmp_equiv, IsTotalOrder}
use Rattle.std.specs.declared.cmp.Ordering.{Ordering}
use Rattle.std.specs.declared.cmp.Ordering.TheVariants.{Less}
use Rattle.std.specs.List.{IsDistinct, filter, flat_map, slice_get}
use Rattle.std.proofs.lemmas.Bool.{cases_lt, cases_eq, cond_both, cond-true, cond-false, eq-eqb, eqb-true, ne_eqb, false_from_ne_true, false≢true}
use Rattle.std.specs.Ordering.{is_eq}
use Rattle.std.specs.BTreeMap.{is_at}
use Rattle.std.specs.Map.{keys_of, values_of}
use Rattle.daachorse_build.specs.Traversals.{ComesFrom}
use Rattle.daachorse_build.specs.Left.{IsLeftFailOf}
use Rattle.daachorse_build.specs.Tables.{child_in, IsTable}
use Rattle.daachorse_build.proofs.LeftLinks.{fail_of_left, left_of_fail, alive}
use Rattle.daachorse_build.specs.Orders.{IsKnown, children, IsBreadthFirst, LeftLinksComeFirst, StandOnce, IsLinked, IsLeftLinked, AllLeftLinked, IsLinkAmong, IsTraversal}

-- ---- elements
pub Contains-take : {X : Type 0} (n : ℕ) (xs : List X) (x : X) → Contains (take n xs) x → Contains xs x
Contains-take n xs x h = subst (λ ys. Contains ys x) (take-append-drop n xs) (Contains-append_left (take n xs) (drop n xs) x h)

Contains-take_more : {X : Type 0} (m n : ℕ) (xs : List X) (x : X) → m ≤ n → Contains (take m xs) x → Contains (take n xs) x
Contains-take_more m n xs x l h = Contains-take m (take n xs) x (subst (λ ys. Contains ys x) (sym (take-take m n xs l)) h)

pub Contains-filter : {X : Type 0} (p : X → Bool) (xs : List X) (x : X) → Contains xs x → p x ≡ true → Contains (filter p xs) x
Contains-filter p [] x h e = absurd (omega (arith, h.1))
Contains-filter p (y ∷ ys) x (zero, low, is) e =
    cond_both (p y) _ _ (λ zs. Contains zs x) (λ k. (0, omega arith, is)) (λ k. absurd (false≢true (sym k ∙ ap p is ∙ e)))
Contains-filter p (y ∷ ys) x (suc i, low, is) e =
    let later = Contains-filter p ys x (i, omega arith, is) e in
    cond_both (p y) _ _ (λ zs. Contains zs x) (λ k. Contains-append_right (y ∷ []) (filter p ys) x later) (λ k. later)

Contains-flat_map : {X Y : Type 0} (f : X → List Y) (xs : List X) (x : X) (y : Y) → Contains xs x → Contains (f x) y → Contains (flat_map f xs) y
Contains-flat_map f [] x y h k = absurd (omega (arith, h.1))
Contains-flat_map f (z ∷ xs) x y (zero, low, is) k =
    Contains-append_left (f z) (flat_map f xs) y (subst (λ v. Contains (f v) y) (sym is) k)
Contains-flat_map f (z ∷ xs) x y (suc i, low, is) k =
    Contains-append_right (f z) (flat_map f xs) y (Contains-flat_map f xs x y (i, omega arith, is) k)

Contains-from_flat_map : {X Y : Type 0} (f : X → List Y) (xs : List X) (y : Y) → Contains (flat_map f xs) y → (x : X) × Contains xs x × Contains (f x) y
Contains-from_flat_map f [] y h = absurd (omega (arith, h.1))
Contains-from_flat_map f (x ∷ xs) y h =
    elim (Contains-append_cases (f x) (flat_map f xs) y h) [
      | inl here ↦ (x, (0, omega arith, refl), here)
      | inr later ↦ let r = Contains-from_flat_map f xs y later in (r.0, Contains-append_right (x ∷ []) xs r.0 r.1, r.2)
    ]

among_more : (m n : ℕ) (xs : List ℕ) (t : ℕ) → m ≤ n → IsLinkAmong (take m xs) t → IsLinkAmong (take n xs) t
among_more m n xs t l (inl dead) = inl dead
among_more m n xs t l (inr (inl root)) = inr (inl root)
among_more m n xs t l (inr (inr h)) = inr (inr (Contains-take_more m n xs t l h))

-- the link of a state among the first n is among them
pub link_among : (fails order : List ℕ) (n t : ℕ) → n ≤ length order → LeftLinksComeFirst fails order → Contains (take n order) t → IsLinkAmong (take n order) (get_or fails t 0)
link_among fails order n t within earlier h =
    let p = at_from_Contains (take n order) t h in
    let len = length-take-le n order within in
    let short : p.0 < n = omega (arith, p.1, len) in
    let low : p.0 < length order = omega (arith, short, within) in
    let e : get_or order p.0 0 ≡ t = sym (get_or-take n order p.0 0 short) ∙ p.2 0 in
    let P : ℕ → Type 0 = λ u. IsLinkAmong (take n order) (get_or fails u 0) in
    subst P e (among_more p.0 n order _ (omega arith) (earlier p.0 low))

-- where t first stands; past the end where it doesn't
abbrev pub first_place : List ℕ → ℕ → ℕ
first_place [] t = 0
first_place (x ∷ xs) t = cond (eqb x t) 0 (first_place xs t + 1)

first_place_here : (x : ℕ) (xs : List ℕ) (t : ℕ) → x ≡ t → first_place (x ∷ xs) t ≡ 0
first_place_here x xs t e = cond-true _ _ _ (eq-eqb x t e)

first_place_after : (x : ℕ) (xs : List ℕ) (t : ℕ) → x ≢ t → first_place (x ∷ xs) t ≡ first_place xs t + 1
first_place_after x xs t ne = cond-false _ _ _ (ne_eqb x t ne)

-- what stands there
at_first_place : (xs : List ℕ) (t : ℕ) → Contains xs t → (first_place xs t < length xs) × (get_or xs (first_place xs t) 0 ≡ t)
at_first_place [] t h = absurd (omega (arith, h.1))
at_first_place (x ∷ xs) t h =
    elim (cases_eq x t) [
      | inl e ↦ let here = first_place_here x xs t e in (omega (arith, here), ap (λ i. get_or (x ∷ xs) i 0) here ∙ e)
      | inr ne ↦
          let after = first_place_after x xs t ne in
          let rest = at_first_place xs t (Contains-tail x xs t ne h) in
          let next : first_place (x ∷ xs) t ≡ suc (first_place xs t) = omega (arith, after) in
          (omega (arith, after, rest.0), ap (λ i. get_or (x ∷ xs) i 0) next ∙ rest.1)
    ]

-- what is among the first n stands before the place n
first_place_among : (n : ℕ) (xs : List ℕ) (t : ℕ) → Contains (take n xs) t → first_place xs t < n
first_place_among zero xs t h = absurd (omega (arith, h.1))
first_place_among (suc n) [] t h = absurd (omega (arith, h.1))
first_place_among (suc n) (x ∷ xs) t h =
    elim (cases_eq x t) [
      | inl e ↦ omega (arith, first_place_here x xs t e)
      | inr ne ↦ omega (arith, first_place_after x xs t ne, first_place_among n xs t (Contains-tail x (take n xs) t ne h))
    ]

-- behind the root, a link that is alive stands before its state
pub link_before : (fails order : List ℕ) (t : ℕ) → LeftLinksComeFirst fails order → Contains order t → t ≢ 0 → get_or fails t 0 ≢ 1 → first_place (0 ∷ order) (get_or fails t 0) < first_place (0 ∷ order) t
link_before fails order t earlier h ne alive =
    let at = at_first_place order t h in
    let after : first_place (0 ∷ order) t ≡ first_place order t + 1 = first_place_after 0 order t (λ e. ne (sym e)) in
    let P : ℕ → Type 0 = λ u. IsLinkAmong (take (first_place order t) order) (get_or fails u 0) in
    elim (subst P at.1 (earlier (first_place order t) at.0)) [
      | inl dead ↦ absurd (alive dead)
      | inr (inl root) ↦ omega (arith, after, first_place_here 0 order (get_or fails t 0) (sym root))
      | inr (inr before) ↦
          let front = first_place_among (first_place order t) order (get_or fails t 0) before in
          elim (cases_eq 0 (get_or fails t 0)) [
            | inl e ↦ omega (arith, after, first_place_here 0 order (get_or fails t 0) e)
            | inr apart ↦ omega (arith, after, front, first_place_after 0 order (get_or fails t 0) apart)
          ]
    ]

pub known_but_root : (xs : List ℕ) (t : ℕ) → t ≢ 0 → IsKnown xs t → Contains xs t
known_but_root xs t ne (inl e) = absurd (ne e)
known_but_root xs t ne (inr h) = h

-- ---- an element more at the end
pub once_push : (xs : List ℕ) (t : ℕ) → StandOnce xs → (Contains xs t → ⊥) → StandOnce (xs ++ t ∷ [])
once_push xs t once fresh = λ i l h.
    elim (cases_lt i (length xs)) [
      | inl below ↦ once i below (rw (take-append-le i xs (t ∷ []) (omega arith), get_or_append_left xs (t ∷ []) 0 i below) at h)
      | inr above ↦
          let len = length_push xs t in
          let e : length xs ≡ i = omega arith in
          fresh (rw (take_at xs (t ∷ []) i e, get_or_push xs t 0 i e) at h)
    ]

-- ---- edges and children
-- what stands at a place, under any key for places past the end
entry_at : {L : Type 0} (es : List (L × ℕ)) (i : ℕ) → i < length (values_of es) → (c : L) × (slice_get es i ≡ Some (c, get_or (values_of es) i 0)) × ((d : L) → get_or (keys_of es) i d ≡ c)
entry_at [] i h = absurd (omega arith)
entry_at (e ∷ es) zero h = (e.0, refl, λ d. refl)
entry_at (e ∷ es) (suc i) h = entry_at es i (omega arith)

pub value_at : {L : Type 0} (es : List (L × ℕ)) (i : ℕ) (c : L) (t : ℕ) → slice_get es i ≡ Some (c, t) → (i < length (values_of es)) × (get_or (values_of es) i 0 ≡ t)
value_at [] i c t h = absurd (none-some _ h)
value_at (e ∷ es) zero c t h = (omega arith, ap (λ p. p.1) (same_Some e (c, t) h))
value_at (e ∷ es) (suc i) c t h = let r = value_at es i c t h in (omega (arith, r.0), r.1)

pub distinct_once : (xs : List ℕ) → StandOnce xs → IsDistinct eqb xs
distinct_once xs once =
    IsDistinct-from_apart eqb xs
    (λ i j d l h.
    false_from_ne_true _ (λ e.
    let t = get_or xs j 0 in
    once j h (
      i,
      omega (arith, length-take-le j xs (omega arith)),
      get_or-take j xs i t l ∙ get_or_default xs i t d (omega arith) ∙ eqb-true _ _ e ∙ get_or_default xs j d 0 h,
    )))

-- numbers below n that each stand once are no more than n
pub length-once : (xs : List ℕ) (n : ℕ) → StandOnce xs → ((t : ℕ) → Contains xs t → t < n) → length xs ≤ n
length-once xs n once below =
    length-le_from_distinct_below xs n (distinct_once xs once) (λ q h. below q (Contains-from_any eqb-true q xs h))

module _ {L : Type 0} (cmp : L → L → Ordering) (total : IsTotalOrder cmp) (edges : List (List (L × ℕ))) (table : IsTable cmp edges) where
  -- what stands in the list of edges
  pub child_at_place : (s i : ℕ) (c : L) (t : ℕ) → slice_get (get_or edges s []) i ≡ Some (c, t) → child_in cmp edges s c ≡ Some t
  child_at_place s i c t h =
      lookup_from_place (eq_by_cmp_equiv total) (get_or edges s []) i c t (IsDistinct-from_sorted cmp _ (table.ordered s)) h

  pub listed_of_child : (s : ℕ) (c : L) (t : ℕ) → child_in cmp edges s c ≡ Some t → Contains (children edges s) t
  listed_of_child s c t h =
      let p = place_from_lookup (is_at (cmp c)) (get_or edges s []) t h in
      let v = value_at (get_or edges s []) p.0 p.1 t p.2 in
      subst (Contains (children edges s)) v.1 (Contains-get_or (children edges s) p.0 0 v.0)

  pub child_of_listed : (s t : ℕ) → Contains (children edges s) t → (c : L) × (child_in cmp edges s c ≡ Some t)
  child_of_listed s t h =
      let p = at_from_Contains (children edges s) t h in
      let x = entry_at (get_or edges s []) p.0 p.1 in
      (x.0, child_at_place s p.0 x.0 t (x.1 ∙ ap (λ v. Some (x.0, v)) (p.2 0)))

  -- no state is twice a child of one state
  pub children_once : (s : ℕ) → StandOnce (children edges s)
  children_once s = λ i l h.
      let es = get_or edges s [] in
      let p = at_from_Contains (take i (children edges s)) (get_or (children edges s) i 0) h in
      let short : p.0 < i = omega (arith, p.1, length-take-le i (children edges s) (omega arith)) in
      let low : p.0 < length (values_of es) = omega (arith, short, l) in
      let x = entry_at es i l in
      let y = entry_at es p.0 low in
      let here = child_at_place s i _ _ x.1 in
      let there = child_at_place s p.0 _ _ y.1 in
      let same : get_or (values_of es) p.0 0 ≡ get_or (values_of es) i 0 = sym (get_or-take i (values_of es) p.0 0 short) ∙ p.2 0 in
      let one = table.trie.one_parent s _ s _ _ (there ∙ ap Some same) here in
      let rises : cmp (get_or (keys_of es) p.0 y.0) (get_or (keys_of es) i y.0) ≡ Less = Less-from_sorted cmp (keys_of es) p.0 i y.0 (table.ordered s) short (omega (arith, l, length-keys_of es, length-values_of es)) in
      let equal = (eq_by_cmp_equiv total).refl y.0 in
      let less : cmp y.0 y.0 ≡ Less = ap (λ k. cmp k y.0) (sym (y.2 y.0)) ∙ ap (cmp (get_or (keys_of es) p.0 y.0)) (one.1 ∙ sym (x.2 y.0)) ∙ rises in
      absurd (false≢true (sym (ap is_eq less) ∙ equal))

  pub bounds_of_listed : (s t : ℕ) → Contains (children edges s) t → (1 < t) × (t < length edges)
  bounds_of_listed s t h =
      let c = child_of_listed s t h in
      let b = table.trie.bounds s c.0 t c.1 in
      (b.2, b.3)

  -- a child of a known state is reached
  in_reached : (done : List ℕ) (s t : ℕ) → IsKnown done s → Contains (children edges s) t → Contains (children edges 0 ++ flat_map (children edges) done) t
  in_reached done s t (inl e) h = Contains-append_left (children edges 0) _ t (subst (λ u. Contains (children edges u) t) e h)
  in_reached done s t (inr known) h = Contains-append_right (children edges 0) _ t (Contains-flat_map (children edges) done s t known h)

  -- what is reached is a child of a known state
  pub child_of_known : (done : List ℕ) (t : ℕ) → Contains (children edges 0 ++ flat_map (children edges) done) t → (s : ℕ) × IsKnown done s × Contains (children edges s) t
  child_of_known done t h =
      elim (Contains-append_cases (children edges 0) (flat_map (children edges) done) t h) [ inl a ↦ (0, inl refl, a) | inr b ↦ let p = Contains-from_flat_map (children edges) done t b in (p.0, inr p.1, p.2) ]

  complete_by : (order : List ℕ) → IsBreadthFirst edges order → (k t : ℕ) → t ≤ k → 1 < t → t < length edges → Contains order t
  complete_by order first zero t e low high = absurd (omega (arith, e, low))
  complete_by order first (suc k) t e low high =
      let r = table.trie.reached t low high in
      let b = table.trie.bounds r.0 r.1 t r.2 in
      let known : IsKnown order r.0 = elim (cases_eq r.0 0) [
        | inl root ↦ inl root
        | inr ne ↦ inr (complete_by order first k r.0 (omega (arith, b.0, e)) (omega (arith, ne, b.1)) (omega (arith, b.0, high)))
      ] in
      subst (λ ts. Contains ts t) (sym first) (in_reached order r.0 t known (listed_of_child r.0 r.1 t r.2))

  -- each state stands in the order
  pub all_in_order : (order : List ℕ) → IsBreadthFirst edges order → (t : ℕ) → 1 < t → t < length edges → Contains order t
  all_in_order order first t low high = complete_by order first t t (omega arith) low high

  -- ---- the traversal, where the states that stops names stop
  module _ (stops : ℕ → Bool) where
    -- nothing is in the queue
    pub traversal_start : (n : ℕ) → n ≡ length edges → IsTraversal cmp stops edges [] (replicate n 0) [] 0 []
    traversal_start n e = record {
      queue = refl;
      within = omega arith;
      states = λ t h. absurd (omega (arith, h.1));
      one_each = length-replicate n 0 ∙ e;
      root = get_or-replicate n 0 0 0 (omega (arith, e, table.trie.two));
      linked = λ t h. absurd (omega (arith, h.1));
      earlier = λ i l. absurd (omega arith);
      once = λ i l h. absurd (omega arith);
    }

    -- the link of a known state is known
    pub known_link : (fails order pending : List ℕ) (next t : ℕ) → IsTraversal cmp stops edges (children edges 0) fails order next pending → Contains (take next order) t → IsLinkAmong (take next order) (get_or fails t 0)
    known_link fails order pending next t traversal h = link_among fails order next t traversal.within traversal.earlier h

    -- a child of the state that is left, which comes after the children pending, is new
    pub child_is_new : (fails order : List ℕ) (next k : ℕ) (c : L) (t : ℕ) → (s : ℕ) → IsTraversal cmp stops edges (children edges 0) fails order next (take k (children edges s)) → next < length order → get_or order next 0 ≡ s → slice_get (get_or edges s []) k ≡ Some (c, t) → Contains order t → ⊥
    child_is_new fails order next k c t s traversal l is at h =
        let here = child_at_place s k c t at in
        let low : 1 < s = omega (arith, traversal.states (get_or order next 0) (Contains-get_or order next 0 l), is) in
        elim (Contains-append_cases (children edges 0 ++ flat_map (children edges) (take next order)) (take k (children edges s)) t (subst (λ ts. Contains ts t) traversal.queue h)) [
          | inl before ↦
              let p = child_of_known (take next order) t before in
              let r = child_of_listed p.0 t p.2 in
              let one = table.trie.one_parent p.0 r.0 s c t r.1 here in
              elim p.1 [ inl root ↦ omega (arith, one.0, root, low) | inr known ↦ traversal.once next l (subst (Contains (take next order)) (one.0 ∙ sym is) known) ]
          | inr pending ↦
              let v = value_at (get_or edges s []) k c t at in
              children_once s k v.0 (subst (Contains (take k (children edges s))) (sym v.1) pending)
        ]

    among_reached : (order pending : List ℕ) (next : ℕ) (c : L) (r : ℕ) → order ≡ (children edges 0 ++ flat_map (children edges) (take next order)) ++ pending → ComesFrom cmp edges (take next order) c r → IsLinkAmong order r
    among_reached order pending next c r queue (inl e) = inl e
    among_reached order pending next c r queue (inr (inl e)) = inr (inl e)
    among_reached order pending next c r queue (inr (inr (f, known, h))) =
        inr (inr (subst (λ ts. Contains ts r) (sym queue) (Contains-append_left _ pending r (in_reached (take next order) f r known (listed_of_child f c r h)))))

    linked_push : (fails order : List ℕ) (t r : ℕ) → t < length fails → AllLeftLinked cmp stops edges fails order → (Contains order t → ⊥) → IsLeftFailOf (child_in cmp edges) stops t r → AllLeftLinked cmp stops edges (set fails t r) (order ++ t ∷ [])
    linked_push fails order t r l linked fresh link = λ u h.
        let P : ℕ → Type 0 = λ f. IsLeftFailOf (child_in cmp edges) stops u f in
        elim (Contains-push_cases order t u h) [
          | inl old ↦
              let ne : u ≢ t = λ e. fresh (subst (Contains order) e old) in
              subst P (sym (get_or-set_other fails t u r 0 ne)) (linked u old)
          | inr e ↦
              let Q : ℕ → Type 0 = λ v. IsLeftFailOf (child_in cmp edges) stops v (get_or (set fails t r) v 0) in
              let R : ℕ → Type 0 = λ f. IsLeftFailOf (child_in cmp edges) stops t f in
              subst Q e (subst R (sym (get_or-set_same fails t r 0 l)) link)
        ]

    earlier_push : (fails order : List ℕ) (t r : ℕ) → t < length fails → LeftLinksComeFirst fails order → (Contains order t → ⊥) → IsLinkAmong order r → LeftLinksComeFirst (set fails t r) (order ++ t ∷ [])
    earlier_push fails order t r l earlier fresh known = λ i h.
        elim (cases_lt i (length order)) [
          | inl below ↦
              let at : get_or (order ++ t ∷ []) i 0 ≡ get_or order i 0 = get_or_append_left order (t ∷ []) 0 i below in
              let ne : get_or order i 0 ≢ t = λ e. fresh (subst (Contains order) e (Contains-get_or order i 0 below)) in
              let fail : get_or (set fails t r) (get_or (order ++ t ∷ []) i 0) 0 ≡ get_or fails (get_or order i 0) 0 = ap (λ u. get_or (set fails t r) u 0) at ∙ get_or-set_other fails t _ r 0 ne in
              let front : take i (order ++ t ∷ []) ≡ take i order = take-append-le i order (t ∷ []) (omega arith) in
              rw (front, fail) (earlier i below)
          | inr above ↦
              let len = length_push order t in
              let e : length order ≡ i = omega arith in
              let fail : get_or (set fails t r) (get_or (order ++ t ∷ []) i 0) 0 ≡ r = ap (λ u. get_or (set fails t r) u 0) (get_or_push order t 0 i e) ∙ get_or-set_same fails t r 0 l in
              let front : take i (order ++ t ∷ []) ≡ order = take_at order (t ∷ []) i e in
              rw (front, fail) known
        ]

    states_push : (order : List ℕ) (t : ℕ) → ((u : ℕ) → Contains order u → (1 < u) × (u < length edges)) → (1 < t) × (t < length edges) → (u : ℕ) → Contains (order ++ t ∷ []) u → (1 < u) × (u < length edges)
    states_push order t old b u h =
        elim (Contains-push_cases order t u h) [ inl in' ↦ old u in' | inr e ↦ (omega (arith, e, b.0), omega (arith, e, b.1)) ]

    -- the root's link stays where that of another state is set
    root_push : (fails : List ℕ) (t r : ℕ) → 1 < t → get_or fails 0 0 ≡ 0 → get_or (set fails t r) 0 0 ≡ 0
    root_push fails t r low root =
        let ne : 0 ≢ t = omega (arith, low) in
        get_or-set_other fails t 0 r 0 ne ∙ root

    -- one state more in the queue, with its link
    longer : (start start' fails order pending pending' : List ℕ) (next t r : ℕ) → IsTraversal cmp stops edges start fails order next pending → (1 < t) × (t < length edges) → (Contains order t → ⊥) → IsLeftFailOf (child_in cmp edges) stops t r → IsLinkAmong order r → order ++ t ∷ [] ≡ (start' ++ flat_map (children edges) (take next order)) ++ pending' → IsTraversal cmp stops edges start' (set fails t r) (order ++ t ∷ []) next pending'
    longer start start' fails order pending pending' next t r traversal b fresh link among queue =
        let in' : t < length fails = omega (arith, b.1, traversal.one_each) in
        record {
          queue = queue ∙ ap (λ xs. (start' ++ flat_map (children edges) xs) ++ pending') (sym (take-append-le next order (t ∷ []) traversal.within));
          within = omega (arith, traversal.within, length_push order t);
          states = states_push order t traversal.states b;
          one_each = length-set fails t r ∙ traversal.one_each;
          root = root_push fails t r b.0 traversal.root;
          linked = linked_push fails order t r in' traversal.linked fresh link;
          earlier = earlier_push fails order t r in' traversal.earlier fresh among;
          once = once_push order t traversal.once fresh;
        }

    -- one child more of those that are pending
    pending_more : (s k : ℕ) (c : L) (t : ℕ) → slice_get (get_or edges s []) k ≡ Some (c, t) → take k (children edges s) ++ t ∷ [] ≡ take (k + 1) (children edges s)
    pending_more s k c t at =
        let v = value_at (get_or edges s []) k c t at in
        ap (λ u. take k (children edges s) ++ u ∷ []) (sym v.1) ∙ sym (take_more (children edges s) k 0 v.0)

    -- one child more
    pub traversal_push : (fails order : List ℕ) (next k : ℕ) (c : L) (t s r : ℕ) → IsTraversal cmp stops edges (children edges 0) fails order next (take k (children edges s)) → next < length order → get_or order next 0 ≡ s → slice_get (get_or edges s []) k ≡ Some (c, t) → IsLeftFailOf (child_in cmp edges) stops t r → ComesFrom cmp edges (take next order) c r → IsTraversal cmp stops edges (children edges 0) (set fails t r) (order ++ t ∷ []) next (take (k + 1) (children edges s))
    traversal_push fails order next k c t s r traversal l is at link from =
        let b = table.trie.bounds s c t (child_at_place s k c t at) in
        let before = children edges 0 ++ flat_map (children edges) (take next order) in
        longer (children edges 0) _ fails order (take k (children edges s)) _ next t r traversal (b.2, b.3) (child_is_new fails order next k c t s traversal l is at) link
        (among_reached order _ next c r traversal.queue from)
        (ap (λ xs. xs ++ t ∷ []) traversal.queue ∙ append_assoc before (take k (children edges s)) (t ∷ []) ∙ ap (λ xs. before ++ xs) (pending_more s k c t at))

    -- on to the state after the one that is left
    pub traversal_next : (fails order : List ℕ) (next s : ℕ) → IsTraversal cmp stops edges (children edges 0) fails order next (children edges s) → next < length order → get_or order next 0 ≡ s → IsTraversal cmp stops edges (children edges 0) fails order (next + 1) []
    traversal_next fails order next s traversal l is =
        let more : take (next + 1) order ≡ take next order ++ s ∷ [] = take_more order next 0 l ∙ ap (λ u. take next order ++ u ∷ []) is in
        record {
          queue =
              traversal.queue
              ∙ flat_map_more (children edges) (children edges 0) (take next order) s
              ∙ ap (λ xs. children edges 0 ++ flat_map (children edges) xs) (sym more)
              ∙ sym (append-nil (children edges 0 ++ flat_map (children edges) (take (next + 1) order)));
          within = omega arith;
          states = traversal.states;
          one_each = traversal.one_each;
          root = traversal.root;
          linked = traversal.linked;
          earlier = traversal.earlier;
          once = traversal.once;
        }

    -- where each state has been left, the order is breadth-first
    pub traversal_end : (fails order : List ℕ) (next : ℕ) → IsTraversal cmp stops edges (children edges 0) fails order next [] → length order ≤ next → IsBreadthFirst edges order
    traversal_end fails order next traversal l =
        traversal.queue ∙ append-nil _ ∙ ap (λ xs. children edges 0 ++ flat_map (children edges) xs) (take_all next order l)

    -- no more states stand in the queue than there are
    pub length-order : (fails order pending : List ℕ) (next : ℕ) → IsTraversal cmp stops edges (children edges 0) fails order next pending → length order ≤ length edges
    length-order fails order pending next traversal =
        length-once order (length edges) traversal.once (λ q h. (traversal.states q h).1)

    -- a known state is one
    pub known_bounds : (fails order pending : List ℕ) (next t : ℕ) → IsTraversal cmp stops edges (children edges 0) fails order next pending → IsKnown (take next order) t → t < length edges
    known_bounds fails order pending next t traversal (inl e) = omega (arith, table.trie.two, e)
    known_bounds fails order pending next t traversal (inr known) = omega (arith, (traversal.states t (Contains-take next order t known)).1)

    -- a child of the root more
    pub traversal_first : (fails order : List ℕ) (k : ℕ) (c : L) (t r : ℕ) → IsTraversal cmp stops edges (take k (children edges 0)) fails order 0 [] → slice_get (get_or edges 0 []) k ≡ Some (c, t) → IsLeftFailOf (child_in cmp edges) stops t r → IsLinkAmong order r → IsTraversal cmp stops edges (take (k + 1) (children edges 0)) (set fails t r) (order ++ t ∷ []) 0 []
    traversal_first fails order k c t r traversal at link among =
        let b = table.trie.bounds 0 c t (child_at_place 0 k c t at) in
        let v = value_at (get_or edges 0 []) k c t at in
        let queue : order ≡ take k (children edges 0) = traversal.queue ∙ append-nil _ ∙ append-nil _ in
        let fresh : Contains order t → ⊥ = λ h. children_once 0 k v.0 (subst (Contains (take k (children edges 0))) (sym v.1) (subst (λ ts. Contains ts t) queue h)) in
        longer (take k (children edges 0)) (take (k + 1) (children edges 0)) fails order [] [] 0 t r traversal (b.2, b.3) fresh link among
        (ap (λ xs. xs ++ t ∷ []) queue ∙ pending_more 0 k c t at ∙ sym (append-nil _) ∙ sym (append-nil _))

  -- where no state stops, the links are the standard ones
  pub linked_of_left : (stops : ℕ → Bool) → ((s : ℕ) → stops s ≡ false) → (fails order : List ℕ) → ((t : ℕ) → Contains order t → (1 < t) × (t < length edges)) → IsLeftLinked cmp stops edges fails order → IsLinked cmp edges fails order
  linked_of_left stops never fails order states left = record {
    first = left.first;
    linked = λ t h. fail_of_left (child_in cmp edges) stops never t (get_or fails t 0) (left.linked t h);
    earlier = λ i l.
        let t = get_or order i 0 in
        let h = Contains-get_or order i 0 l in
        let b = states t h in
        elim (left.earlier i l) [
          | inl dead ↦ absurd (alive (child_in cmp edges) stops never (length edges) table.trie t (get_or fails t 0) b.0 b.1 (left.linked t h) dead)
          | inr known ↦ known
        ];
    once = left.once;
  }

  -- and the other way round
  pub left_of_linked : (stops : ℕ → Bool) → ((s : ℕ) → stops s ≡ false) → (fails order : List ℕ) → IsLinked cmp edges fails order → IsLeftLinked cmp stops edges fails order
  left_of_linked stops never fails order links = record {
    first = links.first;
    linked = λ t h. left_of_fail (child_in cmp edges) stops never t (get_or fails t 0) (links.linked t h);
    earlier = λ i l. inr (links.earlier i l);
    once = links.once;
  }
