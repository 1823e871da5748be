-- All patterns of one text are put into a bucket at once, and its first ten bytes say all that the bucket needs.
use Rattle.std.proofs.Common.{◌≡◌, ◌≢◌, ◌⊎◌, ℕ, ◌+◌, ◌-◌, ◌*◌, ◌<◌, ◌≤◌, ◌==◌, Bool, true, false, cond, List, [], ◌∷◌, ◌++◌, get_or, length}
use Rattle.std.proofs.Common.{refl, sym, ap, ◌∙◌, arith, subst, inl, inr, length-append}
use Rattle.std.specs.Prelude.{◌||◌, ◌&&◌}
use Rattle.std.proofs.lemmas.Bool.{false≢true, or_right}
use Rattle.std.proofs.lemmas.List.{get_or_append_left}
use Rattle.std.proofs.lemmas.Slice.Eq.{bytes_eq-Decides}
use Rattle.daachorse_model.specs.Dictionary.{Dictionary, values_of}
use Rattle.daachorse_model.specs.Units.{same_text}
use Rattle.daachorse_array.specs.Listing.{HasMoved, Texts, with_values}
use Rattle.daachorse_prefilter.specs.Buckets.{IsMarked, has_slot, is_clear_at, opens, slot}
use Rattle.daachorse_prefilter.proofs.BucketLaws.{AreMarkedSoFar, marked_more}
use Rattle.daachorse_prefilter.proofs.BucketMarks.{three_slots}
use Rattle.daachorse_prefilter.proofs.BucketWindows.{some_below-same}

-- ---- all patterns of one text

some_more : {V : Type 0} (b : Bool) (v : V) (vs : List V) → vs ≢ [] → cond b (v ∷ vs) vs ≢ []
some_more true v vs some = λ none. cc
some_more false v vs some = some

one_of : {V : Type 0} (b : Bool) (v : V) (vs : List V) → cond b (v ∷ vs) vs ≢ [] → (b ≡ true) ⊎ (vs ≢ [])
one_of true v vs some = inl refl
one_of false v vs some = inr some

module _ {V : Type 0} (spell : List ℕ → List ℕ) (K : Dictionary V) where
  -- a pattern whose text is marked need not be marked
  marked_known : (w : List ℕ) (v : V) (left : List (List ℕ × V)) (table : List ℕ) → IsMarked table (spell w)
      → AreMarkedSoFar spell K ((w, v) ∷ left) table → AreMarkedSoFar spell K left table
  marked_known w v left table is so_far = record {
    keys = λ k some. so_far.keys k (some_more (same_text w k) v (values_of left k) some);
    marked = λ k is_key. elim (so_far.marked k is_key) [
      | inl some ↦ elim (one_of (same_text w k) v (values_of left k) some) [
        | inl same ↦ inr (let P : List ℕ → Type 0 = λ x. IsMarked table (spell x) in subst P ((bytes_eq-Decides w k).0 same) is)
        | inr later ↦ inl later
      ]
      | inr was ↦ inr was
    ];
    no_others = so_far.no_others;
  }

  marked_all_of : (w : List ℕ) (vs : List V) (left : List (List ℕ × V)) (table : List ℕ) → IsMarked table (spell w)
      → AreMarkedSoFar spell K (with_values w vs ++ left) table → AreMarkedSoFar spell K left table
  marked_all_of w [] left table is so_far = so_far
  marked_all_of w (v ∷ vs) left table is so_far =
      marked_all_of w vs left table is (marked_known w v (with_values w vs ++ left) table is so_far)

  -- the walk has moved on to a text, which was marked
  pub marked_text : (s : List (List ℕ × V)) (t : Texts V) (table more : List ℕ) (bucket : ℕ) → HasMoved s true t
      → AreMarkedSoFar spell K s table → bucket < 8
      → ((y i : ℕ) → y < 8192 → i < 64 → is_clear_at more y i ≡ (is_clear_at table y i || opens (spell t.text) bucket 8 y i))
      → AreMarkedSoFar spell K t.left more
  marked_text s t table more bucket (vs, some, is) so_far below adds = by vs some (subst P is so_far)
    where
      P : List (List ℕ × V) → Type 0
      P l = AreMarkedSoFar spell K l table

      by : (us : List V) → us ≢ [] → AreMarkedSoFar spell K (with_values t.text us ++ t.left) table → AreMarkedSoFar spell K t.left more
      by [] none so_far = absurd (none refl)
      by (v ∷ us) other so_far =
          marked_all_of t.text us t.left more
          (record {
            bucket = bucket;
            below = below;
            clear = λ y i h within of. adds y i h within ∙ or_right (is_clear_at table y i) _ of;
          })
          (marked_more spell K t.text v (with_values t.text us ++ t.left) table more bucket so_far below adds)

-- ---- the first ten bytes

-- three bytes at a place of the first ten have the slot, whatever follows
slots-first : (v more : List ℕ) (k y : ℕ) → k < 8 → 10 ≤ length v → has_slot (v ++ more) k y ≡ has_slot v k y
slots-first v more k y place long =
    three_slots (v ++ more) k y (omega (arith, place, long, length-append v more))
    ∙ (ap (λ x. y == slot x (slice (v ++ more) (k + 1)) (slice (v ++ more) (k + 2))) (get_or_append_left v more 0 k (omega (arith, place, long)))
    ∙ ap (λ x. y == slot (slice v k) x (slice (v ++ more) (k + 2))) (get_or_append_left v more 0 (k + 1) (omega (arith, place, long)))
    ∙ ap (λ x. y == slot (slice v k) (slice v (k + 1)) x) (get_or_append_left v more 0 (k + 2) (omega (arith, place, long)))
    ∙ sym (three_slots v k y (omega (arith, place, long))))
  where
    slice : List ℕ → ℕ → ℕ
    slice l j = get_or l j 0

-- so a text of ten bytes and more opens what its beginning opens
pub opens-first : (v more : List ℕ) (bucket y i : ℕ) → 10 ≤ length v → opens (v ++ more) bucket 8 y i ≡ opens v bucket 8 y i
unfolding opens
opens-first v more bucket y i long =
    some_below-same (λ k. (i == 56 - 8 * k + bucket) && has_slot (v ++ more) k y) (λ k. (i == 56 - 8 * k + bucket) && has_slot v k y) 8
    (λ k h. ap (λ b. (i == 56 - 8 * k + bucket) && b) (slots-first v more k y h long))
