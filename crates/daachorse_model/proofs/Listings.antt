-- `listing` is what the relation `IsListing` asks: in byte order, with the same values of each text.
use Rattle.std.proofs.Common.{◌≡◌, ℕ, zero, suc, ◌+◌, ◌<◌, ◌≤◌, false, cond, List, [], ◌∷◌, length, get_or, refl, ap, sym, ◌∙◌, arith, add-one, inl, inr, ◌≢◌, Bool, true}
use Rattle.std.specs.Prelude.{IsSortedByKey}
use Rattle.std.specs.declared.cmp.Ordering.{Ordering}
use Rattle.std.specs.declared.cmp.Ordering.TheVariants.{Less, Equal, Greater}
use Rattle.std.specs.Ordering.{nat_cmp, is_lt, ordering_reverse}
use Rattle.std.specs.Cmp.Lexicographic.{slice_cmp, nat_list_cmp_total}
use Rattle.std.proofs.lemmas.Slice.Eq.{bytes_eq-Decides}
use Rattle.daachorse_model.specs.Units.{same_text}
use Rattle.daachorse_model.specs.Dictionary.{values_of}
use Rattle.daachorse_model.specs.Prefixes.{insert_entry, listing, IsListing}
use Rattle.daachorse_model.proofs.Booleans.{either}

abbrev pub order : List ℕ → List ℕ → Ordering
order = slice_cmp nat_cmp

pub order-same : (w : List ℕ) → order w w ≡ Equal
order-same w = itself (order w w) (nat_list_cmp_total.antisymm w w)
  where
    itself : (o : Ordering) → o ≡ ordering_reverse o → o ≡ Equal
    itself Less e = cc
    itself Equal e = refl
    itself Greater e = cc

module _ {V : Type 0} where
  -- a text with a value has one beside another entry
  pub value_later : (r : List ℕ × V) (rs : List (List ℕ × V)) (w : List ℕ) → values_of rs w ≢ [] → values_of (r ∷ rs) w ≢ []
  value_later r rs w h = at (same_text r.0 w)
    where
      at : (c : Bool) → cond c (r.1 ∷ values_of rs w) (values_of rs w) ≢ []
      at true none = cc
      at false none = h none

  -- entries of two texts may change places
  swaps : (r q : List ℕ × V) (w : List ℕ) (vs : List V) → order r.0 q.0 ≡ Greater
      → cond (same_text q.0 w) (q.1 ∷ cond (same_text r.0 w) (r.1 ∷ vs) vs) (cond (same_text r.0 w) (r.1 ∷ vs) vs) ≡ cond (same_text r.0 w) (r.1 ∷ cond (same_text q.0 w) (q.1 ∷ vs) vs) (cond (same_text q.0 w) (q.1 ∷ vs) vs)
  swaps r q w vs after = elim (either (same_text q.0 w)) [
    | inr other ↦ rw other
    | inl same ↦ elim (either (same_text r.0 w)) [
      | inr other ↦ rw (same, other)
      | inl both ↦
          let one : r.0 ≡ q.0 = (bytes_eq-Decides r.0 w).0 both ∙ sym ((bytes_eq-Decides q.0 w).0 same) in
          absurd (let bad : Equal ≡ Greater = sym (order-same q.0) ∙ ap (λ x. order x q.0) (sym one) ∙ after in cc)
    ]
  ]

  insert_entry-values : (r : List ℕ × V) (l : List (List ℕ × V)) (w : List ℕ) → values_of (insert_entry r l) w ≡ values_of (r ∷ l) w
  insert_entry-values r [] w = refl
  insert_entry-values r (q ∷ qs) w = by_order (insert_entry-values r qs w) (order r.0 q.0) refl
    where
      by_order : values_of (insert_entry r qs) w ≡ values_of (r ∷ qs) w → (o : Ordering) → order r.0 q.0 ≡ o → values_of (elim o [ Greater ↦ q ∷ insert_entry r qs | _ ↦ r ∷ q ∷ qs ]) w ≡ values_of (r ∷ q ∷ qs) w
      by_order rest Less e = refl
      by_order rest Equal e = refl
      by_order rest Greater e = ap (λ vs. cond (same_text q.0 w) (q.1 ∷ vs) vs) rest ∙ swaps r q w (values_of qs w) e

  -- b is not after the first entry
  abbrev pub IsAtMostFirst : List ℕ → List (List ℕ × V) → Type 0
  IsAtMostFirst b [] = Unit {0}
  IsAtMostFirst b (q ∷ qs) = is_lt (order q.0 b) ≡ false

  abbrev pub Sorted : List (List ℕ × V) → Type 0
  Sorted l = IsSortedByKey (λ r. r.0) order l

  pub sorted-cons : (q : List ℕ × V) (l : List (List ℕ × V)) → IsAtMostFirst q.0 l → Sorted l → Sorted (q ∷ l)
  sorted-cons q [] first up = λ k d low high. absurd (omega arith)
  sorted-cons q (r ∷ l) first up = each
    where
      each : (k : ℕ) (d : List ℕ × V) → 0 ≤ k → k + 1 < length (q ∷ r ∷ l) → is_lt (order (get_or (q ∷ r ∷ l) (k + 1) d).0 (get_or (q ∷ r ∷ l) k d).0) ≡ false
      each zero d low high = first
      each (suc k) d low high =
          let next = up k d (omega arith) (omega arith) in
          rw add-one (rw add-one at next)

  sorted-tail : (q : List ℕ × V) (l : List (List ℕ × V)) → Sorted (q ∷ l) → Sorted l
  sorted-tail q l up k d low high =
      let next = up (suc k) d (omega arith) (omega arith) in
      rw add-one (rw add-one at next)

  sorted-first : (q : List ℕ × V) (l : List (List ℕ × V)) → Sorted (q ∷ l) → IsAtMostFirst q.0 l
  sorted-first q [] up = tt
  sorted-first q (r ∷ l) up = up 0 q (omega arith) (omega arith)

  insert_entry-first : (b : List ℕ) (r : List ℕ × V) (l : List (List ℕ × V)) → is_lt (order r.0 b) ≡ false → IsAtMostFirst b l → IsAtMostFirst b (insert_entry r l)
  insert_entry-first b r [] own first = own
  insert_entry-first b r (q ∷ qs) own first = by_order (order r.0 q.0)
    where
      by_order : (o : Ordering) → IsAtMostFirst b (elim o [ Greater ↦ q ∷ insert_entry r qs | _ ↦ r ∷ q ∷ qs ])
      by_order Less = own
      by_order Equal = own
      by_order Greater = first

  insert_entry-sorted : (r : List ℕ × V) (l : List (List ℕ × V)) → Sorted l → Sorted (insert_entry r l)
  insert_entry-sorted r [] up = sorted-cons r [] tt up
  insert_entry-sorted r (q ∷ qs) up = by_order (insert_entry-sorted r qs (sorted-tail q qs up)) (order r.0 q.0) refl
    where
      below : (o : Ordering) → order r.0 q.0 ≡ o → is_lt (ordering_reverse o) ≡ false → is_lt (order q.0 r.0) ≡ false
      below o e f = rw (nat_list_cmp_total.antisymm q.0 r.0, e) f

      by_order : Sorted (insert_entry r qs) → (o : Ordering) → order r.0 q.0 ≡ o → Sorted (elim o [ Greater ↦ q ∷ insert_entry r qs | _ ↦ r ∷ q ∷ qs ])
      by_order rest Less e = sorted-cons r (q ∷ qs) (below Less e refl) up
      by_order rest Equal e = sorted-cons r (q ∷ qs) (below Equal e refl) up
      by_order rest Greater e = sorted-cons q (insert_entry r qs) (insert_entry-first q.0 r qs (ap is_lt e) (sorted-first q qs up)) rest

  listing-sorted : (rs : List (List ℕ × V)) → Sorted (listing rs)
  listing-sorted [] = λ k d low high. absurd (omega arith)
  listing-sorted (r ∷ rs) = insert_entry-sorted r (listing rs) (listing-sorted rs)

  listing-values : (rs : List (List ℕ × V)) (w : List ℕ) → values_of (listing rs) w ≡ values_of rs w
  listing-values [] w = refl
  listing-values (r ∷ rs) w = insert_entry-values r (listing rs) w ∙ ap (λ vs. cond (same_text r.0 w) (r.1 ∷ vs) vs) (listing-values rs w)

  pub listing-is : (rs : List (List ℕ × V)) → IsListing (values_of rs) (listing rs)
  listing-is rs = record { sorted = listing-sorted rs; same = listing-values rs }
