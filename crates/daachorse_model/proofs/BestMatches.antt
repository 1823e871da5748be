-- What the definition of leftmost matches gives where nothing starts, and at the best: one equation for each way that a search goes on.
use Rattle.std.proofs.Common.{◌≡◌, ◌≢◌, ℕ, ◌+◌, ◌<◌, ◌≤◌, ◌⊎◌, inl, inr, Bool, true, false, cond, List, [], ◌∷◌, ◌++◌, length, Option, Some, None, refl, sym, ap, ◌∙◌, append_assoc, length-append, add-zero, arith}
use Rattle.daachorse_model.specs.declared.Match.{Match}
use Rattle.daachorse_model.specs.Units.{size}
use Rattle.daachorse_model.specs.Dictionary.{Dictionary}
use Rattle.daachorse_model.specs.Leftmost.{longest_key, match_at, units_to_skip, is_after, leftmost_from}
use Rattle.daachorse_model.specs.Best.{IsBest, NoneStarts}
use Rattle.daachorse_model.proofs.Searches.{key_with_value-none, leftmost_from-skip}
use Rattle.daachorse_model.proofs.Earliest.{longest_key-none, longest_key-is}
use Rattle.daachorse_model.proofs.Lists.{nil_of}

module _ {V : Type 0} (width : ℕ → ℕ) (K : Dictionary V) where
  -- what a search gives at a place and after it
  abbrev from_here : ℕ → ℕ → Bool → List ℕ → Option (List ℕ × V) → List (Match V)
  from_here s next after w best = match_at width s after best ++ leftmost_from width K next (units_to_skip best) (is_after after best) w

  -- nothing is given where nothing starts
  pub leftmost_from-clear : (s : ℕ) (after : Bool) (front back : List ℕ) → NoneStarts K (length front) (front ++ back)
      → leftmost_from width K s 0 after (front ++ back) ≡ leftmost_from width K (s + size width front) 0 after back
  leftmost_from-clear s after [] back none = ap (λ m. leftmost_from width K m 0 after back) (sym (add-zero s))
  leftmost_from-clear s after (u ∷ front) back none =
      let here : longest_key K [] (u ∷ (front ++ back)) ≡ None = longest_key-none K [] (u ∷ (front ++ back)) (λ z y cut. nil_of (K z) (λ key. omega (arith, none [] z y (record { parts = cut; key = key })))) in
      ap (from_here s (s + width u) after (front ++ back)) here
      ∙ leftmost_from-clear (s + width u) after front back (λ a k b o. omega (arith, none (u ∷ a) k b (record { parts = ap (λ x. u ∷ x) o.parts; key = o.key })))
      ∙ ap (λ m. leftmost_from width K m 0 after back) (omega arith)

  -- at a nonempty key, which is the longest there
  pub leftmost_from-key : (s : ℕ) (after : Bool) (c : ℕ) (p b : List ℕ) (v : V) → longest_key K [] (c ∷ (p ++ b)) ≡ Some (c ∷ p, v)
      → leftmost_from width K s 0 after (c ∷ (p ++ b)) ≡ record { start = s; end = s + size width (c ∷ p); value = v } ∷ leftmost_from width K (s + size width (c ∷ p)) 0 true b
  leftmost_from-key s after c p b v is =
      ap (from_here s (s + width c) after (p ++ b)) is
      ∙ ap (λ l. record { start = s; end = s + size width (c ∷ p); value = v } ∷ l)
      (leftmost_from-skip width K (s + width c) (length p) 0 true p b (omega arith) ∙ ap (λ m. leftmost_from width K m 0 true b) (omega arith))

  -- at the empty key
  pub leftmost_from-empty : (s : ℕ) (after : Bool) (u : ℕ) (w : List ℕ) (v : V) → longest_key K [] (u ∷ w) ≡ Some ([], v)
      → leftmost_from width K s 0 after (u ∷ w) ≡ cond after [] (record { start = s; end = s; value = v } ∷ []) ++ leftmost_from width K (s + width u) 0 false w
  leftmost_from-empty s after u w v is = ap (from_here s (s + width u) after w) is

  -- at the end, with an empty key and without
  pub leftmost_from-last : (s : ℕ) (after : Bool) (v : V) → longest_key K [] [] ≡ Some ([], v) → leftmost_from width K s 0 after [] ≡ cond after [] (record { start = s; end = s; value = v } ∷ [])
  leftmost_from-last s after v is = ap (match_at width s after) is

  pub leftmost_from-none : (s : ℕ) (after : Bool) → K [] ≡ [] → leftmost_from width K s 0 after [] ≡ []
  leftmost_from-none s after none = ap (match_at width s after) (key_with_value-none K [] none)

module _ {V : Type 0} (K : Dictionary V) where
  -- the best of a text is the longest key where it stands
  pub longest-best : (w front key : List ℕ) (v : V) (others : List V) → (best : IsBest K w front key) → K key ≡ v ∷ others → longest_key K [] (key ++ best.rest) ≡ Some (key, v)
  longest-best w front key v others best has =
      longest_key-is K [] key best.rest v others has (λ z r cut some. nil_of (K (key ++ z)) (λ bad. longer z r some (best.least front (key ++ z) r (record { parts = best.occurs.parts ∙ ap (λ x. front ++ x) (ap (λ x. key ++ x) cut ∙ sym (append_assoc key z r)); key = bad }))))
    where
      longer : (z r : List ℕ) → z ≢ [] → (length front < length front) ⊎ ((length front ≡ length front) × (length (key ++ z) ≤ length key)) → ⊥
      longer [] r some least = some refl
      longer (x ∷ z) r some (inl bad) = omega arith
      longer (x ∷ z) r some (inr (_, fits)) = omega (arith, fits, length-append key (x ∷ z))

  -- and nothing starts before it
  pub none_starts-best : (w front key : List ℕ) → IsBest K w front key → NoneStarts K (length front) w
  none_starts-best w front key best a k b o = elim (best.least a k b o) [ inl p ↦ omega arith | inr q ↦ omega (arith, q.0) ]
