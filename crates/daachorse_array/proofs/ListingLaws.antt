-- The patterns of all reached elements, in the order of their texts, are the listing of the dictionary.
use Rattle.std.proofs.Common.{◌≡◌, ◌≢◌, ℕ, zero, suc, ◌≤◌, ◌⊎◌, inl, inr, Bool, true, false, cond, ◌==◌, List, [], ◌∷◌, ◌++◌, Option, Some, None, refl, sym, ap, ◌∙◌, arith}
use Rattle.std.specs.Prelude.{flat_map, slice_get}
use Rattle.std.specs.List.{AllByRecursion}
use Rattle.std.specs.declared.cmp.Ordering.{Ordering}
use Rattle.std.specs.declared.cmp.Ordering.TheVariants.{Less, Equal}
use Rattle.std.specs.Ordering.{is_lt, ordering_reverse}
use Rattle.std.specs.Cmp.Lexicographic.{nat_list_cmp_total}
use Rattle.std.proofs.lemmas.List.{append-nil}
use Rattle.std.proofs.lemmas.Slice.Eq.{bytes_eq-Decides}
use Rattle.daachorse_core.specs.declared.outputs.Output.{Output}
use Rattle.daachorse_core.specs.Outputs.{value_of, length_of, parent_of, ParentsFall}
use Rattle.daachorse_model.specs.Units.{same_text, size}
use Rattle.daachorse_model.specs.Dictionary.{values_of}
use Rattle.daachorse_model.specs.Paths.{walk}
use Rattle.daachorse_model.specs.Prefixes.{IsListing, is_key}
use Rattle.daachorse_model.proofs.Booleans.{either}
use Rattle.daachorse_model.proofs.Listings.{order, order-same, IsAtMostFirst, Sorted, sorted-cons}
use Rattle.daachorse_array.specs.Machines.{Machine, own_next, own_step, own_from, own, values_at, content, IsMachine}
use Rattle.daachorse_array.specs.Texts.{IsReached, text_of}
use Rattle.daachorse_array.proofs.MachineLaws.{text-Leads, Reached-Leads}
use Rattle.daachorse_array.specs.Trees.{IsAmong, Pairs, IsListed}
use Rattle.daachorse_array.specs.Listing.{value_then, values_from, values_until, with_values, patterns_of}
use Rattle.daachorse_array.proofs.Members.{among-All}

-- ---- the values of an element

module _ {V : Type 0} (outputs : List (Output V)) (falls : ParentsFall outputs) where
  -- any number of steps that is enough gives the same
  values-steps : (s t stop p : ℕ) → p ≤ s → p ≤ t → values_from outputs s stop p ≡ values_from outputs t stop p
  values-steps zero zero stop p h k = refl
  values-steps zero (suc t) stop zero h k = refl
  values-steps zero (suc t) stop (suc q) h k = absurd (omega arith)
  values-steps (suc s) zero stop zero h k = refl
  values-steps (suc s) zero stop (suc q) h k = absurd (omega arith)
  values-steps (suc s) (suc t) stop zero h k = refl
  values-steps (suc s) (suc t) stop (suc q) h k = grind (arith, falls q, values-steps s t stop)

  -- one value, and then those of the next position
  pub values_until-step : (stop q : ℕ) (o : Output V) → suc q ≢ stop → slice_get outputs q ≡ Some o → values_until outputs stop (suc q) ≡ value_of o ∷ values_until outputs stop (parent_of o)
  values_until-step stop q o other e =
      let low : parent_of o ≤ q = falls q o e in
      grind (arith, values-steps q (parent_of o) stop (parent_of o))

  -- nothing is left where the end is reached
  pub values_until-end : (stop p : ℕ) → (p ≡ stop) ⊎ (p ≡ 0) → values_until outputs stop p ≡ []
  values_until-end stop zero h = refl
  values_until-end stop (suc q) (inl e) = grind arith
  values_until-end stop (suc q) (inr e) = absurd (omega arith)

  -- the own values end where the chain goes on
  own-values : (s n p : ℕ) → p ≤ s → ((own_from outputs s n p).1 ≤ p) × ((stop : ℕ) → (own_from outputs s n p).1 ≡ stop → values_from outputs s stop p ≡ (own_from outputs s n p).0)
  own-values zero n p h = (omega arith, λ stop e. refl)
  own-values (suc s) n zero h = (omega arith, λ stop e. refl)
  own-values (suc s) n (suc q) h = go (slice_get outputs q) refl (λ r below. own-values s n r (omega arith))
    where
      go : (o : Option (Output V)) → slice_get outputs q ≡ o → ((r : ℕ) → r ≤ q → ((own_from outputs s n r).1 ≤ r) × ((stop : ℕ) → (own_from outputs s n r).1 ≡ stop → values_from outputs s stop r ≡ (own_from outputs s n r).0))
          → ((own_step outputs o n q (λ r. own_from outputs s n r)).1 ≤ suc q)
          × ((stop : ℕ) → (own_step outputs o n q (λ r. own_from outputs s n r)).1 ≡ stop → cond (suc q == stop) [] (value_then outputs o (λ r. values_from outputs s stop r)) ≡ (own_step outputs o n q (λ r. own_from outputs s n r)).0)
      go None is more = (omega arith, λ stop e. grind arith)
      go (Some o) is more = at (length_of o == n) (more (parent_of o) (falls q o is))
        where
          at : (b : Bool) → ((own_from outputs s n (parent_of o)).1 ≤ parent_of o) × ((stop : ℕ) → (own_from outputs s n (parent_of o)).1 ≡ stop → values_from outputs s stop (parent_of o) ≡ (own_from outputs s n (parent_of o)).0)
              → ((own_next outputs b o q (own_from outputs s n (parent_of o))).1 ≤ suc q)
              × ((stop : ℕ) → (own_next outputs b o q (own_from outputs s n (parent_of o))).1 ≡ stop → cond (suc q == stop) [] (value_of o ∷ values_from outputs s stop (parent_of o)) ≡ (own_next outputs b o q (own_from outputs s n (parent_of o))).0)
          at false rest = (omega arith, λ stop e. grind arith)
          at true rest = (omega (arith, falls q o is, rest.0), λ stop e. grind (arith, falls q o is, rest.0, rest.1 stop))

  pub own-until : (n p stop : ℕ) → (own_from outputs p n p).1 ≡ stop → values_until outputs stop p ≡ (own_from outputs p n p).0
  own-until n p stop e = (own-values p n p (omega arith)).1 stop e

  -- there are own values exactly where the chain begins before their end
  pub own-any : (n p stop : ℕ) → (own_from outputs p n p).1 ≡ stop → cond (p == stop) false true ≡ is_key (λ (_ : List ℕ). (own_from outputs p n p).0) []
  own-any n zero stop e = let test : (zero == stop) ≡ true = grind (arith, e) in ap (λ b. cond b false true) test
  own-any n (suc q) stop e = go (slice_get outputs q) refl e
    where
      go : (o : Option (Output V)) → slice_get outputs q ≡ o → (own_step outputs o n q (λ r. own_from outputs q n r)).1 ≡ stop
          → cond (suc q == stop) false true ≡ is_key (λ (_ : List ℕ). (own_step outputs o n q (λ r. own_from outputs q n r)).0) []
      go None is e = grind arith
      go (Some o) is e = at (length_of o == n) e
        where
          at : (b : Bool) → (own_next outputs b o q (own_from outputs q n (parent_of o))).1 ≡ stop
              → cond (suc q == stop) false true ≡ is_key (λ (_ : List ℕ). (own_next outputs b o q (own_from outputs q n (parent_of o))).0) []
          at false e = grind arith
          at true e = let below = (own-values q n (parent_of o) (falls q o is)).0 in grind (arith, falls q o is)

-- ---- entries

module _ {V : Type 0} where
  values_of-append : (xs ys : List (List ℕ × V)) (w : List ℕ) → values_of (xs ++ ys) w ≡ values_of xs w ++ values_of ys w
  values_of-append [] ys w = refl
  values_of-append (x ∷ xs) ys w = grind (arith, values_of-append xs ys w)

  values_of-with : (t w : List ℕ) (vs : List V) → values_of (with_values t vs) w ≡ cond (same_text t w) vs []
  values_of-with t w [] = grind arith
  values_of-with t w (v ∷ vs) = grind (arith, values_of-with t w vs)

module _ {V : Type 0} (text : ℕ → List ℕ) (vals : ℕ → List V) where
  abbrev entries : List ℕ → List (List ℕ × V)
  entries l = flat_map (λ i. with_values (text i) (vals i)) l

  abbrev Before : ℕ → ℕ → Type 0
  Before i j = order (text i) (text j) ≡ Less

  same-not : (t w : List ℕ) → t ≢ w → same_text t w ≡ false
  same-not t w other = elim (either (same_text t w)) [ inl e ↦ absurd (other ((bytes_eq-Decides t w).0 e)) | inr e ↦ e ]

  same-itself : (w : List ℕ) → same_text w w ≡ true
  same-itself w = (bytes_eq-Decides w w).1 refl

  entries-none : (l : List ℕ) (w : List ℕ) → ((i : ℕ) → IsAmong l i → text i ≢ w) → values_of (entries l) w ≡ []
  entries-none [] w h = refl
  entries-none (i ∷ l) w h =
      values_of-append (with_values (text i) (vals i)) (entries l) w
      ∙ (ap (λ a. a ++ values_of (entries l) w) (values_of-with (text i) w (vals i) ∙ ap (λ b. cond b (vals i) []) (same-not (text i) w (h i (inl refl))))
      ∙ entries-none l w (λ j a. h j (inr a)))

  entries-at : (l : List ℕ) (i : ℕ) → Pairs Before l → IsAmong l i → values_of (entries l) (text i) ≡ vals i
  entries-at [] i pairs a = absurd a
  entries-at (j ∷ l) i pairs (inl e) =
      let w = text i in
      let alone : (k : ℕ) → IsAmong l k → text k ≢ w = λ k a same.
      (let less : order (text j) (text k) ≡ Less = among-All (Before j) l k pairs.0 a in
      let bad : ◌≡◌ {A = Ordering} Equal Less = sym (order-same w) ∙ (ap (λ x. order (text x) w) e ∙ (ap (order (text j)) (sym same) ∙ less)) in cc) in
      values_of-append (with_values (text j) (vals j)) (entries l) w
      ∙ (ap (λ a. a ++ values_of (entries l) w) (values_of-with (text j) w (vals j) ∙ ap (λ b. cond b (vals j) []) (ap (λ x. same_text (text x) w) (sym e) ∙ same-itself w))
      ∙ (ap (λ a. vals j ++ a) (entries-none l w alone) ∙ (append-nil (vals j) ∙ ap vals (sym e))))
  entries-at (j ∷ l) i pairs (inr a) =
      let w = text i in
      let less : order (text j) w ≡ Less = among-All (Before j) l i pairs.0 a in
      let other : text j ≢ w = λ same. (let bad : ◌≡◌ {A = Ordering} Equal Less = sym (order-same w) ∙ (ap (λ x. order x w) (sym same) ∙ less) in cc) in
      values_of-append (with_values (text j) (vals j)) (entries l) w
      ∙ (ap (λ a. a ++ values_of (entries l) w) (values_of-with (text j) w (vals j) ∙ ap (λ b. cond b (vals j) []) (same-not (text j) w other))
      ∙ entries-at l i pairs.1 a)

  at-least-append : (t : List ℕ) (xs ys : List (List ℕ × V)) → AllByRecursion (λ r. is_lt (order r.0 t) ≡ false) xs → AllByRecursion (λ r. is_lt (order r.0 t) ≡ false) ys → AllByRecursion (λ r. is_lt (order r.0 t) ≡ false) (xs ++ ys)
  at-least-append t [] ys a b = b
  at-least-append t (x ∷ xs) ys a b = (a.0, at-least-append t xs ys a.1 b)

  at-least-with : (t u : List ℕ) (vs : List V) → is_lt (order u t) ≡ false → AllByRecursion (λ (r : List ℕ × V). is_lt (order r.0 t) ≡ false) (with_values u vs)
  at-least-with t u [] h = tt
  at-least-with t u (v ∷ vs) h = (h, at-least-with t u vs h)

  at-least : (i : ℕ) (l : List ℕ) → AllByRecursion (Before i) l → AllByRecursion (λ (r : List ℕ × V). is_lt (order r.0 (text i)) ≡ false) (entries l)
  at-least i [] h = tt
  at-least i (j ∷ l) h =
      let after : is_lt (order (text j) (text i)) ≡ false = ap is_lt (nat_list_cmp_total.antisymm (text j) (text i) ∙ ap ordering_reverse h.0) in
      at-least-append (text i) (with_values (text j) (vals j)) (entries l) (at-least-with (text i) (text j) (vals j) after) (at-least i l h.1)

  first-of : (t : List ℕ) (l : List (List ℕ × V)) → AllByRecursion (λ r. is_lt (order r.0 t) ≡ false) l → IsAtMostFirst t l
  first-of t [] h = tt
  first-of t (r ∷ l) h = h.0

  sorted-with : (t : List ℕ) (vs : List V) (l : List (List ℕ × V)) → AllByRecursion (λ r. is_lt (order r.0 t) ≡ false) l → Sorted l → Sorted (with_values t vs ++ l)
  sorted-with t [] l h up = up
  sorted-with t (v ∷ vs) l h up =
      sorted-cons (t, v) (with_values t vs ++ l) (first-of t (with_values t vs ++ l) (at-least-append t (with_values t vs) l (at-least-with t t vs (ap is_lt (order-same t))) h)) (sorted-with t vs l h up)

  entries-sorted : (l : List ℕ) → Pairs Before l → Sorted (entries l)
  entries-sorted [] pairs = λ k d low high. absurd (omega arith)
  entries-sorted (i ∷ l) pairs = sorted-with (text i) (vals i) (entries l) (at-least i l pairs.0) (entries-sorted l pairs.1)

-- ---- the listing

module _ {V : Type 0} (width : ℕ → ℕ) (a : Machine V) (leftmost : Bool) (n m : ℕ) (h : IsMachine width a leftmost n m) (taken : List ℕ) (l : IsListed a.child n m taken)
    (stop : ℕ → ℕ) (stops : (i : ℕ) → IsReached a.child m n i → (own width a (text_of a.child m n i) i).1 ≡ stop i) where
  abbrev text : ℕ → List ℕ
  text i = text_of a.child m n i

  abbrev vals : ℕ → List V
  vals i = values_until a.outputs (stop i) (a.output i)

  at : (w : List ℕ) (o : Option ℕ) → walk a.child 0 w ≡ o → values_of (entries text vals taken) w ≡ values_at width a w o
  at w None e = entries-none text vals taken w (λ i b same. (let bad : ◌≡◌ {A = Option ℕ} None (Some i) = sym e ∙ (ap (walk a.child 0) (sym same) ∙ l.reached i b) in cc))
  at w (Some i) e =
      let same : text i ≡ w = text-Leads width a leftmost n m h w i e in
      let reached : IsReached a.child m n i = Reached-Leads width a leftmost n m h w i e in
      ap (values_of (entries text vals taken)) (sym same) ∙ (entries-at text vals taken i l.rising (l.complete i reached)
      ∙ (own-until a.outputs h.parents_fall (size width (text i)) (a.output i) (stop i) (stops i reached) ∙ ap (λ v. (own width a v i).0) same))

  -- the patterns of the elements that are listed are those of the dictionary
  pub listing-is : IsListing (content width a) (patterns_of (text_of a.child m n) a.outputs a.output stop taken)
  listing-is = record { sorted = entries-sorted text vals taken l.rising; same = λ w. at w (walk a.child 0 w) refl }
