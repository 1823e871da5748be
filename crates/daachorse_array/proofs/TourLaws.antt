-- How a tour is made: each rank is put right after its link.
use Rattle.std.proofs.Common.{◌≡◌, ◌≢◌, ℕ, suc, ◌<◌, ◌≤◌, ◌⊎◌, ◌==◌, cond, List, [], ◌∷◌, length, refl, sym, ap, ◌∙◌, subst, inl, inr}
use Rattle.std.proofs.Common.{arith, get_or, set, get_or-set_other, get_or-set_same}
use Rattle.std.proofs.lemmas.List.{length-set}
use Rattle.std.proofs.lemmas.Bool.{cases_eq, cond_both, eqb-false, eqb-true}
use Rattle.daachorse_array.specs.Near.{IsAbove}
use Rattle.daachorse_array.specs.Tours.{In, IsApart, IsThreaded, IsTour}

-- the list with m after f
abbrev insert : ℕ → ℕ → List ℕ → List ℕ
insert f m [] = []
insert f m (x ∷ xs) = cond (x == f) (x ∷ m ∷ xs) (x ∷ insert f m xs)

by_test : (x f : ℕ) (a b : List ℕ) (P : List ℕ → Type 0) → (x ≡ f → P a) → (x ≢ f → P b) → P (cond (x == f) a b)
by_test x f a b P p q = cond_both (x == f) a b P (λ e. p (eqb-true x f e)) (λ e. q (eqb-false x f e))

module _ (f m : ℕ) where
  in_old : (x : ℕ) (xs : List ℕ) → In x xs → In x (insert f m xs)
  in_old x [] h = h
  in_old x (y ∷ ys) h = grind (arith, in_old x ys)

  in_new : (xs : List ℕ) → In f xs → In m (insert f m xs)
  in_new [] h = absurd h
  in_new (y ∷ ys) h = grind (arith, in_new ys)

  in_parts : (x : ℕ) (xs : List ℕ) → In x (insert f m xs) → (x ≡ m) ⊎ In x xs
  in_parts x [] h = absurd h
  in_parts x (y ∷ ys) h = grind (arith, in_parts x ys)

  length_insert : (xs : List ℕ) → In f xs → length (insert f m xs) ≡ suc (length xs)
  length_insert [] h = absurd h
  length_insert (y ∷ ys) h = grind (arith, length_insert ys)

  apart_insert : (xs : List ℕ) → IsApart xs → (In m xs → ⊥) → IsApart (insert f m xs)
  apart_insert [] h no' = h
  apart_insert (y ∷ ys) h no' =
      by_test y f (y ∷ m ∷ ys) (y ∷ insert f m ys) (λ l. IsApart l)
      (λ _. ((λ g. grind (arith, h.0, no')), ((λ g. no' (inr g)), h.1)))
      (λ _. ((λ g. grind (arith, h.0, no', in_parts y ys g)), apart_insert ys h.1 (λ g. no' (inr g))))

module _ (next put : List ℕ) (n : ℕ) where
  agree : (a : ℕ) (xs : List ℕ) → ((x : ℕ) → In x xs → get_or put x 0 ≡ get_or next x 0) → IsThreaded next n a xs → IsThreaded put n a xs
  agree a [] same l = l
  agree a (x ∷ xs) same l =
      (l.0, subst (λ b. IsThreaded put n b xs) (sym (same x (inl refl))) (agree (get_or next x 0) xs (λ y h. same y (inr h)) l.1))

  after_it : (f m a x : ℕ) (xs : List ℕ) → get_or put f 0 ≡ m → get_or put m 0 ≡ get_or next f 0
      → ((y : ℕ) → In y (x ∷ xs) → y ≢ f → get_or put y 0 ≡ get_or next y 0) → IsApart (x ∷ xs) →
      IsThreaded next n a (x ∷ xs) → x ≡ f → IsThreaded put n a (x ∷ m ∷ xs)
  after_it f m a x xs at_f at_m same apart l e =
      let tail : IsThreaded put n (get_or next x 0) xs = agree (get_or next x 0) xs
      (λ y g. same y (inr g) (λ k. apart.0 (subst (λ z. In z xs) (k ∙ sym e) g))) l.1 in
      (l.0, (ap (λ z. get_or put z 0) e ∙ at_f, subst (λ b. IsThreaded put n b xs) (ap (λ z. get_or next z 0) e ∙ sym at_m) tail))

  linked_insert : (f m a : ℕ) (xs : List ℕ) → get_or put f 0 ≡ m → get_or put m 0 ≡ get_or next f 0
      → ((x : ℕ) → In x xs → x ≢ f → get_or put x 0 ≡ get_or next x 0) → In f xs → IsApart xs →
      IsThreaded next n a xs → IsThreaded put n a (insert f m xs)
  linked_insert f m a [] at_f at_m same h apart l = absurd h
  linked_insert f m a (x ∷ xs) at_f at_m same h apart l =
      by_test x f (x ∷ m ∷ xs) (x ∷ insert f m xs) (λ ys. IsThreaded put n a ys) (λ e. after_it f m a x xs at_f at_m same apart l e)
      (λ ne. (
      let later : In f xs = elim h [ inl e ↦ absurd (ne (sym e)) | inr g ↦ g ] in (
        l.0,
        linked_insert f m (get_or put x 0) xs at_f at_m (λ y k. same y (inr k)) later apart.1
            (subst (λ b. IsThreaded next n b xs) (sym (same x (inl refl) ne)) l.1),
      )))

module _ (up : ℕ → ℕ) (n : ℕ) (next : List ℕ) (m : ℕ) (tour : IsTour up n next m) (lt : m < n) where
  abbrev put : List ℕ
  put = set (set next m (get_or next (up m) 0)) (up m) m

  module _ (le : up m ≤ n) (ne : m ≢ up m) where
    size_put : length put ≡ suc n
    size_put = length-set (set next m (get_or next (up m) 0)) (up m) m ∙ length-set next m (get_or next (up m) 0) ∙ tour.size

    read_up : get_or put (up m) 0 ≡ m
    read_up = get_or-set_same (set next m (get_or next (up m) 0)) (up m) m 0
        (omega (arith, le, length-set next m (get_or next (up m) 0), tour.size))

    read_m : get_or put m 0 ≡ get_or next (up m) 0
    read_m = get_or-set_other (set next m (get_or next (up m) 0)) (up m) m m 0 ne
        ∙ get_or-set_same next m (get_or next (up m) 0) 0 (omega (arith, lt, tour.size))

    read_other : (x : ℕ) → x ≢ up m → x ≢ m → get_or put x 0 ≡ get_or next x 0
    read_other x a b = get_or-set_other (set next m (get_or next (up m) 0)) (up m) x m 0 a
        ∙ get_or-set_other next m x (get_or next (up m) 0) 0 b

    abbrev Steps : ℕ → Type 0
    Steps a = (get_or put a 0 ≡ n) ⊎ IsAbove up (up (get_or put a 0)) a

    steps_m : Steps m
    steps_m = elim (tour.steps (up m) le) [ inl z ↦ inl (read_m ∙ z) | inr s ↦ inr (suc s.0, s.1 ∙ ap up (sym read_m)) ]

    steps_other : (a : ℕ) → a ≤ n → a ≢ up m → a ≢ m → Steps a
    steps_other a la x y = elim (tour.steps a la) [
      | inl z ↦ inl (read_other a x y ∙ z)
      | inr s ↦
          inr (s.0, s.1 ∙ ap up (sym (read_other a x y)))
    ]

    steps_put : (a : ℕ) → a ≤ n → Steps a
    steps_put a la = elim (cases_eq a (up m)) [
      | inl e ↦ subst Steps (sym e) (inr (0, ap up (sym read_up)))
      | inr x ↦ elim (cases_eq a m) [ inl e ↦ subst Steps (sym e) steps_m | inr y ↦ steps_other a la x y ]
    ]

    fresh : In m tour.list → ⊥
    fresh h = omega (arith, tour.below m h)

    among : (x : ℕ) → x < suc m → (P : ℕ → Type 0) → P m → (x < m → P x) → P x
    among x h P at less = elim (cases_eq x m) [ inl e ↦ subst P (sym e) at | inr g ↦ less (omega (arith, h, g)) ]

  tour_top : up m ≡ n → IsTour up n put (suc m)
  tour_top e =
      let le : up m ≤ n = omega (arith, e) in
      let ne : m ≢ up m = λ g. omega (arith, e, g, lt) in
      record {
        size = size_put le ne;
        list = m ∷ tour.list;
        linked = (
          ap (λ a. get_or put a 0) (sym e) ∙ read_up le ne,
          subst (λ b. IsThreaded put n b tour.list) (ap (λ a. get_or next a 0) (sym e) ∙ sym (read_m le ne))
              (agree next put n (get_or next n 0) tour.list
              (λ x h. read_other le ne x (λ g. omega (arith, tour.below x h, g, e, lt)) (λ g. omega (arith, tour.below x h, g)))
              tour.linked),
        );
        count = ap suc tour.count;
        apart = (fresh le ne, tour.apart);
        below = λ x h. grind (arith, tour.below x);
        all = λ x h. among le ne x h (λ y. In y (m ∷ tour.list)) (inl refl) (λ l. inr (tour.all x l));
        steps = steps_put le ne;
      }

  tour_under : up m < m → IsTour up n put (suc m)
  tour_under low =
      let le : up m ≤ n = omega (arith, low, lt) in
      let ne : m ≢ up m = λ g. omega (arith, low, g) in
      let has = tour.all (up m) low in
      record {
        size = size_put le ne;
        list = insert (up m) m tour.list;
        linked =
            linked_insert next put n (up m) m (get_or put n 0) tour.list (read_up le ne) (read_m le ne)
            (λ x h g. read_other le ne x g (λ k. omega (arith, tour.below x h, k))) has tour.apart
            (subst (λ b. IsThreaded next n b tour.list)
            (sym (read_other le ne n (λ g. omega (arith, g, low, lt)) (λ g. omega (arith, g, lt)))) tour.linked);
        count = length_insert (up m) m tour.list has ∙ ap suc tour.count;
        apart = apart_insert (up m) m tour.list tour.apart (fresh le ne);
        below = λ x h. grind (arith, in_parts (up m) m x tour.list h, tour.below x);
        all = λ x h. among le ne x h (λ y. In y (insert (up m) m tour.list)) (in_new (up m) m tour.list has)
            (λ l. in_old (up m) m x tour.list (tour.all x l));
        steps = steps_put le ne;
      }

  -- the rank m more
  pub tour_add : (up m < m) ⊎ (up m ≡ n) → IsTour up n put (suc m)
  tour_add (inl low) = tour_under low
  tour_add (inr e) = tour_top e
