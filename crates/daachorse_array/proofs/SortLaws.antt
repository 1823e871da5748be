-- The children of an element, sorted by their units, are the list of them by falling units, read backwards.
use Rattle.std.proofs.Common.{◌≡◌, ◌≢◌, ℕ, zero, suc, ◌+◌, ◌-◌, ◌<◌, ◌≤◌, ◌⊎◌, inl, inr, Bool, true, false, ◌==◌, List, [], ◌∷◌, length, map, get_or, reverse, Option, Some, None, refl, sym, ap, ◌∙◌, arith, subst}
use Rattle.std.proofs.lemmas.List.{get_or-map, get_or-reverse, length-map, length-reverse}
use Rattle.std.proofs.lemmas.List.Elements.{All-from_recursion, All-map, recursion_from_All}
use Rattle.std.proofs.lemmas.Bool.{cases_eq, eqb-false, ne_eqb}
use Rattle.std.proofs.lemmas.List.Sorted.{All-permutation, Contains-permutation, IsNonDecreasingBy-from_all_adjacent, IsPermutation-reverse}
use Rattle.std.proofs.lemmas.Map.Keys.{IsDistinct-IsPermutation}
use Rattle.std.proofs.lemmas.Option.{same_Some}
use Rattle.std.specs.List.{AllByRecursion, IsDistinct}
use Rattle.std.specs.Prelude.{All, Contains, IsPermutation, IsSorted}
use Rattle.std.specs.Ordering.{nat_cmp, ordering_then, is_lt}
use Rattle.std.specs.declared.cmp.Ordering.{Ordering}
use Rattle.std.proofs.lemmas.Bool.Decides.{nat_tests}
use Rattle.daachorse_model.proofs.Booleans.{either}
use Rattle.daachorse_array.specs.Edges.{is_in, below, members, children_below, TellChildren}
use Rattle.daachorse_array.specs.Listing.{unit_of}
use Rattle.daachorse_array.specs.Trees.{IsAmong, Pairs, elements_of}
use Rattle.daachorse_array.proofs.Members.{children_below-among}

-- what each passes still holds of each where it follows
All-weaken : {X : Type 0} (P Q : X → Type 0) (l : List X) → ((x : X) → P x → Q x) → AllByRecursion P l → AllByRecursion Q l
All-weaken P Q [] h a = tt
All-weaken P Q (x ∷ l) h a = (h x a.0, All-weaken P Q l h a.1)

abbrev Kid : Type 0
Kid = ℕ × ℕ

abbrev nobody : Kid
nobody = (0, 0)

abbrev same_unit : Kid → Kid → Bool
same_unit p q = p.0 == q.0

-- the pairs of this list are the children of one element with their units, each once, in any order
record AreKids (from : ℕ → Option ℕ) (l : List Kid) : Type 0 where
  sound : All (λ p. from p.0 ≡ Some p.1) l
  apart : IsDistinct same_unit l
  complete : (u j : ℕ) → from u ≡ Some j → Contains l (u, j)

kids-permuted : (from : ℕ → Option ℕ) (xs ys : List Kid) → IsPermutation xs ys → AreKids from xs → AreKids from ys
kids-permuted from xs ys p h = record {
  sound = All-permutation (λ q. from q.0 ≡ Some q.1) xs ys p h.sound;
  apart = IsDistinct-IsPermutation same_unit (λ x y. grind arith) xs ys p h.apart;
  complete = λ u j e. Contains-permutation xs ys (u, j) p (h.complete u j e);
}

-- ---- there is one list of them by falling units

abbrev Above : Kid → Kid → Type 0
Above p q = q.0 < p.0

-- no unit rises, and none is that of two
falling : (l : List Kid) → IsDistinct same_unit l → ((j k : ℕ) → j < k → k < length l → (get_or l k nobody).0 ≤ (get_or l j nobody).0) → Pairs Above l
unfolding IsDistinct
falling [] apart h = tt
falling (x ∷ l) apart h =
    (first l apart.0 (λ k less. h 0 (suc k) (omega arith) (omega arith)), falling l apart.1 (λ j k up less. h (suc j) (suc k) (omega arith) (omega arith)))
  where
    first : (ys : List Kid) → AllByRecursion (λ y. same_unit x y ≡ false) ys → ((k : ℕ) → k < length ys → (get_or ys k nobody).0 ≤ x.0) → AllByRecursion (Above x) ys
    first [] a low = tt
    first (y ∷ ys) a low = (omega (arith, low 0, eqb-false x.0 y.0 a.0), first ys a.1 (λ k less. low (suc k) (omega arith)))

abbrev Has : ℕ → List Kid → Type 0
Has u [] = ⊥
Has u (p ∷ l) = (p.0 ≡ u) ⊎ Has u l

abbrev elements : List Kid → List ℕ
elements l = map (λ p. p.1) l

Has-above : (u n : ℕ) (l : List Kid) → AllByRecursion (λ p. p.0 < n) l → Has u l → u < n
Has-above u n [] a h = absurd h
Has-above u n (p ∷ l) a (inl e) = let less = a.0 in omega (arith, less, e)
Has-above u n (p ∷ l) a (inr h) = Has-above u n l a.1 h

pub no_some : (o : Option ℕ) → ((j : ℕ) → o ≡ Some j → ⊥) → o ≡ None
no_some None h = refl
no_some (Some j) h = absurd (h j refl)

falling-kids : (child : ℕ → ℕ → Option ℕ) (i m : ℕ) (l : List Kid) → Pairs Above l → AllByRecursion (λ p. p.0 < m) l → AllByRecursion (λ p. child i p.0 ≡ Some p.1) l → ((u j : ℕ) → u < m → child i u ≡ Some j → Has u l)
    → elements l ≡ children_below child i m
falling-kids child i zero [] pairs low sound all = refl
falling-kids child i zero (p ∷ l) pairs low sound all = absurd (omega (arith, low.0))
falling-kids child i (suc m) [] pairs low sound all =
    rw (no_some (child i m) (λ j. all m j (omega arith))) (falling-kids child i m [] tt tt tt (λ u j less. all u j (omega arith)))
falling-kids child i (suc m) (q ∷ k) pairs low sound all = elim (cases_eq q.0 m) [
  | inl same ↦
      let rest = falling-kids child i m k pairs.1 (subst (λ n. AllByRecursion (λ r. r.0 < n) k) same pairs.0) sound.1
      (λ u v less e. elim (all u v (omega arith) e) [ inl this ↦ absurd (omega (arith, this, same, less)) | inr later ↦ later ]) in
      rw (ap (child i) (sym same) ∙ sound.0) (ap (λ r. q.1 ∷ r) rest)
  | inr other ↦
      let less : q.0 < m = omega (arith, low.0, other) in
      let lower : AllByRecursion (λ r. r.0 < m) k = All-weaken (λ r. r.0 < q.0) (λ r. r.0 < m) k (λ r h. omega arith) pairs.0 in
      rw (no_some (child i m) (λ j e. absurd (let up = Has-above m m (q ∷ k) (less, lower) (all m j (omega arith) e) in omega (arith, up))))
      (falling-kids child i m (q ∷ k) pairs (less, lower) sound (λ u j less. all u j (omega arith)))
]

to_has : (u : ℕ) (l : List Kid) (k : ℕ) (d : Kid) → k < length l → (get_or l k d).0 ≡ u → Has u l
to_has u [] k d h e = absurd (omega arith)
to_has u (x ∷ l) zero d h e = inl e
to_has u (x ∷ l) (suc k) d h e = inr (to_has u l k d (omega arith) e)

abbrev kid_cmp : Kid → Kid → Ordering
kid_cmp x y = ordering_then (nat_cmp x.0 y.0) (nat_cmp x.1 y.1)

not-less : (x y : Kid) → is_lt (kid_cmp y x) ≡ false → x.0 ≤ y.0
not-less x y e = grind (arith, nat_tests)

-- sorted pairs rise by their units
pub sorted-few : (l : List Kid) → length l < 2 → IsSorted kid_cmp l
sorted-few l h = λ k d low more. absurd (omega (arith, h, more))

sorted-units : (l : List Kid) → IsSorted kid_cmp l → (j k : ℕ) → j < k → k < length l → (get_or l j nobody).0 ≤ (get_or l k nobody).0
sorted-units l up j k less h =
    let adjacent = λ (i : ℕ) (d : Kid) (h : i + 1 < length l). not-less (get_or l i d) (get_or l (i + 1) d) (up i d (omega arith) h) in
    IsNonDecreasingBy-from_all_adjacent (λ (p : Kid). p.0) l adjacent j k nobody (omega (arith, less)) h

-- ---- the elements of a group

pub below-All : (test : ℕ → Bool) (n : ℕ) → AllByRecursion (λ j. (j < n) × (test j ≡ true)) (below test n)
below-All test n = go n (omega arith)
  where
    go : (k : ℕ) → k ≤ n → AllByRecursion (λ j. (j < n) × (test j ≡ true)) (below test k)
    go zero h = tt
    go (suc k) h = elim (either (test k)) [ inl e ↦ rw e ((omega arith, e), go k (omega arith)) | inr e ↦ rw e (go k (omega arith)) ]

pub below-falls : (test : ℕ → Bool) (n : ℕ) → Pairs (λ a b. b < a) (below test n)
below-falls test zero = tt
below-falls test (suc n) = elim (either (test n)) [
  | inl e ↦ rw e (All-weaken (λ j. (j < n) × (test j ≡ true)) (λ j. j < n) (below test n) (λ j h. h.0) (below-All test n), below-falls test n)
  | inr e ↦ rw e (below-falls test n)
]

pub below-has : (test : ℕ → Bool) (n j : ℕ) → j < n → test j ≡ true → (k : ℕ) × (k < length (below test n)) × (get_or (below test n) k 0 ≡ j)
below-has test zero j h e = absurd (omega arith)
below-has test (suc n) j h e = elim (cases_eq j n) [
  | inl same ↦ rw (ap test (sym same) ∙ e) (0, omega arith, sym same)
  | inr other ↦ (
      let more = below-has test n j (omega (arith, other)) e in
      elim (either (test n)) [ inl t ↦ rw t (suc more.0, omega (arith, more.1), more.2) | inr t ↦ rw t more ])
]

-- an element with its unit
abbrev pub kid_of : (ℕ → Option (ℕ × ℕ)) → ℕ → ℕ × ℕ
kid_of edge j = (unit_of (edge j), j)

pub in-edge : (g : ℕ) (o : Option (ℕ × ℕ)) → is_in g o ≡ true → o ≡ Some (g, unit_of o)
in-edge g None e = absurd (cc)
in-edge g (Some x) e = let same : x.0 ≡ g = grind (arith, e) in ap (λ a. Some (a, x.1)) same

pub edge-in : (g u : ℕ) (o : Option (ℕ × ℕ)) → o ≡ Some (g, u) → (is_in g o ≡ true) × (unit_of o ≡ u)
edge-in g u None e = absurd (cc)
edge-in g u (Some x) e = let same : x ≡ (g, u) = same_Some x (g, u) e in let first : x.0 ≡ g = ap (λ p. p.0) same in (grind (arith, first), ap (λ p. p.1) same)

module _ {child : ℕ → ℕ → Option ℕ} {group : ℕ → Option ℕ} {edge : ℕ → Option (ℕ × ℕ)} {n m : ℕ} (tell : TellChildren child group edge n) (inside : (i c j : ℕ) → child i c ≡ Some j → (j < n) × (c < m)) (i g : ℕ) (real : i < n) (own : group i ≡ Some g) where
  abbrev ms : List ℕ
  ms = members edge g n

  abbrev IsKid : ℕ → Type 0
  IsKid j = child i (unit_of (edge j)) ≡ Some j

  member-kid : (j : ℕ) → (j < n) × (is_in g (edge j) ≡ true) → IsKid j
  member-kid j both = tell.to_child i g (unit_of (edge j)) j real own both.0 (in-edge g (edge j) both.1)

  are-kids : AllByRecursion IsKid ms
  are-kids = All-weaken (λ j. (j < n) × (is_in g (edge j) ≡ true)) IsKid ms member-kid (below-All (λ j. is_in g (edge j)) n)

  -- where the group has a member there is a child
  pub some-children : (j : ℕ) → (j < n) × (is_in g (edge j) ≡ true) → children_below child i m ≢ []
  some-children j both none = let is = member-kid j both in subst (λ l. IsAmong l j) none (children_below-among child i m (unit_of (edge j)) j (inside i (unit_of (edge j)) j is).1 is)

  distinct : (l : List ℕ) → Pairs (λ a b. b < a) l → AllByRecursion IsKid l → IsDistinct same_unit (map (kid_of edge) l)
  unfolding IsDistinct
  distinct [] pairs kids = tt
  distinct (x ∷ l) pairs kids = (first l pairs.0 kids.1, distinct l pairs.1 kids.1)
    where
      first : (ys : List ℕ) → AllByRecursion (λ b. b < x) ys → AllByRecursion IsKid ys → AllByRecursion (λ q. same_unit (kid_of edge x) q ≡ false) (map (kid_of edge) ys)
      first [] low kids' = tt
      first (y ∷ ys) low kids' = (
        ne_eqb (unit_of (edge x)) (unit_of (edge y)) (λ same. omega (arith, low.0, same_Some x y (sym kids.0 ∙ (ap (child i) same ∙ kids'.0)))),
        first ys low.1 kids'.1,
      )

  members-kids : AreKids (child i) (map (kid_of edge) ms)
  members-kids = record {
    sound = All-map (λ p. child i p.0 ≡ Some p.1) (kid_of edge) ms (All-from_recursion IsKid ms are-kids);
    apart = distinct ms (below-falls (λ j. is_in g (edge j)) n) are-kids;
    complete = λ u j e. (
        let both = edge-in g u (edge j) (tell.from_child i g u j real own e) in
        let k = below-has (λ q. is_in g (edge q)) n j (inside i u j e).0 both.0 in
        (k.0, omega (arith, k.1, length-map ms (kid_of edge)), get_or-map (kid_of edge) ms k.0 0 (u, j) k.1 ∙ (ap (kid_of edge) k.2 ∙ ap (λ v. (v, j)) both.1)));
  }

  -- sorted by their units, and read backwards
  pub sorted-children : (xs ys : List (ℕ × ℕ)) → xs ≡ map (kid_of edge) ms → IsPermutation xs ys → IsSorted (λ x y. ordering_then (nat_cmp x.0 y.0) (nat_cmp x.1 y.1)) ys → elements_of ys ≡ children_below child i m
  sorted-children xs ys e p up =
      falling-kids child i m (reverse ys) (falling (reverse ys) back.apart falls)
      (All-weaken (λ q. child i q.0 ≡ Some q.1) (λ q. q.0 < m) (reverse ys) (λ q is. (inside i q.0 q.1 is).1) sound) sound
      (λ u j less is. let at = back.complete u j is in to_has u (reverse ys) at.0 (u, j) at.1 (ap (λ q. q.0) at.2))
    where
      back : AreKids (child i) (reverse ys)
      back = kids-permuted (child i) ys (reverse ys) (IsPermutation-reverse ys) (kids-permuted (child i) xs ys p (subst (AreKids (child i)) (sym e) members-kids))

      sound : AllByRecursion (λ q. child i q.0 ≡ Some q.1) (reverse ys)
      sound = recursion_from_All (λ q. child i q.0 ≡ Some q.1) (reverse ys) back.sound

      falls : (j k : ℕ) → j < k → k < length (reverse ys) → (get_or (reverse ys) k nobody).0 ≤ (get_or (reverse ys) j nobody).0
      falls j k less h =
          let in_ys : k < length ys = omega (arith, length-reverse ys) in
          rw (get_or-reverse ys j nobody (omega arith), get_or-reverse ys k nobody in_ys)
          (sorted-units ys up (length ys - 1 - k) (length ys - 1 - j) (omega arith) (omega arith))
