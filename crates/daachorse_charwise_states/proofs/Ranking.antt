-- What a stable sort by falling frequency makes of the indexes of frequency above 0: neighbours stand in order, and so do all.
use Rattle.std.proofs.Common.{◌≡◌, ℕ, zero, suc, ◌+◌, ◌-◌, ◌<◌, ◌≤◌, Bool, true, false, not, ◌&&◌, cond, nat_lt, ◌==◌, List, [], ◌∷◌, length, slice_index, get_or, filter, All, AllPairs, Contains, IsPermutation, refl, sym, ap, subst, ◌∙◌, arith}
use Rattle.std.specs.Ordering.{is_lt, nat_cmp}
use Rattle.std.specs.Cmp.{IsStrictWeakOrder, nat_cmp_total}
use Rattle.std.specs.List.{enumerate_from, IsDistinct}
use Rattle.std.specs.List.Sorted.{IsSortedBy, IsStableBy, ties}
use Rattle.std.proofs.lemmas.Grind.{common_steps}
use Rattle.std.proofs.lemmas.List.{get_or_default}
use Rattle.std.proofs.lemmas.List.Elements.{All-filter, filter_passes}
use Rattle.std.proofs.lemmas.List.FromFn.{length-enumerate_from, get_or-enumerate_from}
use Rattle.std.proofs.lemmas.List.Kept.{AllPairs-filter}
use Rattle.std.proofs.lemmas.List.Sorted.{All-permutation, Contains-permutation, IsStrictWeakOrder-flip, IsStrictWeakOrder-by_number, ranks_by, ties_stay_sorted, length_permutation}
use Rattle.std.proofs.lemmas.List.Sums.{length-filter}
use Rattle.std.proofs.lemmas.Map.Keys.{IsDistinct-from_apart, IsDistinct-IsPermutation, apart_from_distinct, ge_from_not_lt}
use borrow.Author.Tests.{lt-ltb, le-ltb, ltb-true, ltb-false, eqb-false}
use Rattle.daachorse_charwise_states.specs.Ranks.{AreRanked, used_in}

-- ---- before the sort

abbrev IsEntry : List ℕ → ℕ × ℕ → Type 0
IsEntry freqs p = (p.0 < length freqs) × (slice_index freqs p.0 ≡ p.1)

entry_at : (freqs : List ℕ) (k : ℕ) (d p : ℕ × ℕ) → k < length freqs → p ≡ (0 + k, get_or freqs k d.1) → IsEntry freqs p
entry_at freqs k d p l e =
    let first : p.0 ≡ k = ap (λ q. q.0) e ∙ omega arith in
    let second : p.1 ≡ get_or freqs k d.1 = ap (λ q. q.1) e in
    (omega arith, ap (λ i. slice_index freqs i) first ∙ (get_or_default freqs k 0 d.1 l ∙ sym second))

entries_hold : (freqs : List ℕ) → All (IsEntry freqs) (enumerate_from 0 freqs)
entries_hold freqs k d l =
    let l' : k < length freqs = omega (arith, length-enumerate_from 0 freqs) in
    entry_at freqs k d _ l' (get_or-enumerate_from 0 freqs k d l')

entries_rise : (freqs : List ℕ) → AllPairs (λ p q. p.0 < q.0) (enumerate_from 0 freqs)
entries_rise freqs i j d h l =
    let n = length-enumerate_from 0 freqs in
    let at_i = ap (λ p. p.0) (get_or-enumerate_from 0 freqs i d (omega (arith, n))) in
    let at_j = ap (λ p. p.0) (get_or-enumerate_from 0 freqs j d (omega (arith, n))) in
    omega (arith, at_i, at_j)

used_rise : (freqs : List ℕ) → AllPairs (λ p q. p.0 < q.0) (used_in freqs)
used_rise freqs = AllPairs-filter (λ p q. p.0 < q.0) (λ p. nat_lt 0 p.1) (enumerate_from 0 freqs) (entries_rise freqs)

-- whether the indexes are the same
abbrev same : ℕ × ℕ → ℕ × ℕ → Bool
same p q = p.0 == q.0

same_flips : (p q : ℕ × ℕ) → same p q ≡ same q p
same_flips p q = grind (arith, common_steps)

not_same : (a b : ℕ) → a < b → (a == b) ≡ false
not_same a b h = grind (arith, common_steps)

used_distinct : (freqs : List ℕ) → IsDistinct same (used_in freqs)
used_distinct freqs = IsDistinct-from_apart same (used_in freqs) (λ i j d h l. not_same _ _ (used_rise freqs i j d h l))

-- one more in front
one_more : (b : Bool) (p : ℕ × ℕ) (ps : List (ℕ × ℕ)) (q : ℕ × ℕ) → Contains ps q → Contains (cond b (p ∷ ps) ps) q
one_more true p ps q h = (suc h.0, omega (arith, h.1), h.2)
one_more false p ps q h = h

the_first : (b : Bool) (p : ℕ × ℕ) (ps : List (ℕ × ℕ)) → b ≡ true → Contains (cond b (p ∷ ps) ps) p
the_first true p ps e = (0, omega arith, refl)
the_first false p ps e = cc

has_used : (n : ℕ) (freqs : List ℕ) (c : ℕ) → 0 < slice_index freqs c → Contains (filter (λ p. nat_lt 0 p.1) (enumerate_from n freqs)) (n + c, slice_index freqs c)
has_used n [] c h = absurd (omega arith)
has_used n (f ∷ freqs) zero h =
    let e : n ≡ n + 0 = omega arith in
    let P : ℕ → Type 0 = λ i. Contains (filter (λ p. nat_lt 0 p.1) (enumerate_from n (f ∷ freqs))) (i, f) in
    subst P e (the_first (nat_lt 0 f) (n, f) _ (lt-ltb 0 f h))
has_used n (f ∷ freqs) (suc c) h =
    let e : n + 1 + c ≡ n + suc c = omega arith in
    let P : ℕ → Type 0 = λ i. Contains (filter (λ p. nat_lt 0 p.1) (enumerate_from n (f ∷ freqs))) (i, slice_index freqs c) in
    subst P e (one_more (nat_lt 0 f) (n, f) _ _ (has_used (n + 1) freqs c h))

count_used : (n : ℕ) (freqs : List ℕ) → length (filter (λ p. nat_lt 0 p.1) (enumerate_from n freqs)) ≡ length (filter (λ f. nat_lt 0 f) freqs)
count_used n [] = refl
count_used n (f ∷ freqs) = as_many (nat_lt 0 f) (n, f) f _ _ (count_used (n + 1) freqs)
  where
    as_many : (b : Bool) (p : ℕ × ℕ) (f : ℕ) (ps : List (ℕ × ℕ)) (fs : List ℕ) → length ps ≡ length fs → length (cond b (p ∷ ps) ps) ≡ length (cond b (f ∷ fs) fs)
    as_many true p f ps fs e = ap suc e
    as_many false p f ps fs e = e

-- ---- after it

-- the one may stand before the other
abbrev IsBefore : ℕ × ℕ → ℕ × ℕ → Type 0
IsBefore p q = (q.1 ≤ p.1) × (p.1 ≡ q.1 → p.0 < q.0)

before_through : (p q r : ℕ × ℕ) → IsBefore p q → IsBefore q r → IsBefore p r
before_through p q r a b = (omega (arith, a.0, b.0), λ e. let f : p.1 ≡ q.1 = omega (arith, a.0, b.0) in let g : q.1 ≡ r.1 = omega arith in omega (arith, a.1 f, b.1 g))

-- what neighbours keep, all pairs keep
far_before : (ps : List (ℕ × ℕ)) (d : ℕ × ℕ) → ((k : ℕ) → k + 1 < length ps → IsBefore (get_or ps k d) (get_or ps (k + 1) d))
    → (j n : ℕ) → j + 1 + n < length ps → IsBefore (get_or ps j d) (get_or ps (j + 1 + n) d)
far_before ps d near j zero l =
    let e : j + 1 ≡ j + 1 + 0 = omega arith in
    let P : ℕ → Type 0 = λ i. IsBefore (get_or ps j d) (get_or ps i d) in
    subst P e (near j (omega arith))
far_before ps d near j (suc n) l =
    let e : j + 1 + n + 1 ≡ j + 1 + suc n = omega arith in
    let P : ℕ → Type 0 = λ i. IsBefore (get_or ps j d) (get_or ps i d) in
    subst P e (before_through _ _ _ (far_before ps d near j n (omega arith)) (near (j + 1 + n) (omega arith)))

all_before : (ps : List (ℕ × ℕ)) (d : ℕ × ℕ) → ((k : ℕ) → k + 1 < length ps → IsBefore (get_or ps k d) (get_or ps (k + 1) d))
    → (j k : ℕ) → j < k → k < length ps → IsBefore (get_or ps j d) (get_or ps k d)
all_before ps d near j k h l =
    let e : j + 1 + (k - (j + 1)) ≡ k = omega arith in
    let P : ℕ → Type 0 = λ i. IsBefore (get_or ps j d) (get_or ps i d) in
    subst P e (far_before ps d near j (k - (j + 1)) (omega arith))

-- the order of the sort: by falling frequency
abbrev pub less : ℕ × ℕ → ℕ × ℕ → Bool
less p q = is_lt (nat_cmp q.1 p.1)

less_is_order : IsStrictWeakOrder less
less_is_order = IsStrictWeakOrder-flip _ (ranks_by nat_cmp_total (λ (p : ℕ × ℕ). p.1))

abbrev by_index : ℕ × ℕ → ℕ × ℕ → Bool
by_index p q = nat_lt p.0 q.0

irreflexive : (b : Bool) → (b ≡ true → b ≡ false) → b ≡ false
irreflexive true h = h refl
irreflexive false h = refl

tied : (p q : ℕ × ℕ) → p.1 ≡ q.1 → ties less p q ≡ true
tied p q e =
    let none : is_lt (nat_cmp p.1 p.1) ≡ false = irreflexive (less p p) (less_is_order.one_way p p) in
    let P : ℕ → Type 0 = λ n. is_lt (nat_cmp n p.1) ≡ false in
    let Q : ℕ → Type 0 = λ n. is_lt (nat_cmp p.1 n) ≡ false in
    let there : less p q ≡ false = subst P e none in
    let back : less q p ≡ false = subst Q e none in
    λ i. not (there i) && not (back i)

module _ (freqs : List ℕ) (ranked : List (ℕ × ℕ)) (moved : IsPermutation (used_in freqs) ranked) (sorted : IsSortedBy less ranked) (stable : IsStableBy less (used_in freqs) ranked) where
  used_sorted : IsSortedBy by_index (used_in freqs)
  used_sorted k d h l = le-ltb _ _ (let up = used_rise freqs k (k + 1) d (omega arith) l in omega (arith, up))

  near_before : (k : ℕ) → k + 1 < length ranked → IsBefore (get_or ranked k (0, 0)) (get_or ranked (k + 1) (0, 0))
  near_before k l =
      let p : ℕ × ℕ = get_or ranked k (0, 0) in
      let q : ℕ × ℕ = get_or ranked (k + 1) (0, 0) in
      let distinct = IsDistinct-IsPermutation same same_flips (used_in freqs) ranked moved (used_distinct freqs) in
      let apart = eqb-false p.0 q.0 (apart_from_distinct same ranked k (k + 1) (0, 0) distinct (omega arith) l) in
      let rises : p.1 ≡ q.1 → p.0 ≤ q.0 = λ e.
      ltb-false q.0 p.0 (ties_stay_sorted by_index less (IsStrictWeakOrder-by_number (λ x. x.0)) less_is_order (used_in freqs) ranked used_sorted stable k (0, 0) l (tied p q e)) in
      (ge_from_not_lt p.1 q.1 (sorted k (0, 0) (omega arith) l), λ e. let up = rises e in omega (arith, up, apart))

  pub ranked_from : AreRanked freqs ranked
  ranked_from = record {
    inside = λ k l. (entries k (0, 0) l).0;
    freq = λ k l. (entries k (0, 0) l).1;
    positive = λ k l. ltb-true 0 _ (passing k (0, 0) l);
    complete = λ c h.
        let has = Contains-permutation (used_in freqs) ranked _ moved (has_used 0 freqs c h) in
        (has.0, has.1, ap (λ p. p.0) (get_or_default ranked has.0 (0, 0) _ has.1 ∙ has.2) ∙ omega arith);
    falling = λ j k h l. (all_before ranked (0, 0) near_before j k h l).0;
    ties = λ j k h l e. (all_before ranked (0, 0) near_before j k h l).1 e;
    size = length_permutation _ _ moved ∙ (count_used 0 freqs ∙ length-filter (λ f. nat_lt 0 f) freqs);
  }
    where
      entries : All (IsEntry freqs) ranked
      entries = All-permutation (IsEntry freqs) (used_in freqs) ranked moved (All-filter (λ p. nat_lt 0 p.1) (IsEntry freqs) (enumerate_from 0 freqs) (entries_hold freqs))

      passing : All (λ p. nat_lt 0 p.1 ≡ true) ranked
      passing = All-permutation (λ p. nat_lt 0 p.1 ≡ true) (used_in freqs) ranked moved (filter_passes (λ p. nat_lt 0 p.1) (enumerate_from 0 freqs))
