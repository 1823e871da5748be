-- Buckets in which each key of a listing was put are those of the keys, and a test by them is sound for the dictionary.
use Rattle.std.proofs.Common.{◌≡◌, ◌≢◌, ◌⊎◌, ℕ, ◌<◌, Bool, true, false, cond, Option, Some, None, List, [], ◌∷◌, ◌++◌, length, refl, sym, ap, ◌∙◌, subst, inl, inr}
use Rattle.std.specs.Prelude.{◌||◌, nat_lt}
use Rattle.std.proofs.lemmas.Bool.{false≢true, or_left, or_right}
use Rattle.std.proofs.lemmas.Slice.Eq.{bytes_eq-Decides}
use Rattle.daachorse_model.specs.Dictionary.{Dictionary, values_of}
use Rattle.daachorse_model.specs.Prefixes.{IsKey, IsListing}
use Rattle.daachorse_model.specs.Units.{same_text}
use Rattle.daachorse_haystack.specs.Filters.{IsSoundFor}
use Rattle.daachorse_prefilter.specs.Asked.{lets_pass}
use Rattle.daachorse_prefilter.specs.Buckets.{AreBuckets, IsMarked, IsOpened, MayTell, is_clear_at, may_begin, opens, some_lets}
use Rattle.daachorse_prefilter.specs.Filters.{Filter}
use Rattle.daachorse_prefilter.proofs.BucketMarks.{marked_lets}
use Rattle.daachorse_prefilter.proofs.SoundFilters.{sound_tested}

one_of : {V : Type 0} (b : Bool) (v : V) (vs : List V) → cond b (v ∷ vs) vs ≢ [] → (b ≡ true) ⊎ (vs ≢ [])
one_of true v vs some = inl refl
one_of false v vs some = inr some

some_more : {V : Type 0} (b : Bool) (v : V) (vs : List V) → vs ≢ [] → cond b (v ∷ vs) vs ≢ []
some_more true v vs some = λ none. cc
some_more false v vs some = some

first_some : {V : Type 0} (b : Bool) (v : V) (vs : List V) → b ≡ true → cond b (v ∷ vs) vs ≢ []
first_some true v vs e = λ none. cc
first_some false v vs e = absurd (false≢true e)

either : (a b : Bool) → (a || b) ≡ true → (a ≡ true) ⊎ (b ≡ true)
either true b e = inl refl
either false b e = inr e

module _ {V : Type 0} (spell : List ℕ → List ℕ) (K : Dictionary V) where
  -- a test by buckets that may tell is sound
  pub sound_buckets : ((v w : List ℕ) → spell (v ++ w) ≡ spell v ++ spell w) → (buckets : Option (List ℕ)) → MayTell spell K buckets → IsSoundFor (λ w. may_begin buckets (spell w)) K
  sound_buckets joined None none = λ key rest is_key. refl
  sound_buckets joined (Some table) are = λ key rest is_key.
      ap (may_begin (Some table)) (joined key rest) ∙ or_right (nat_lt (length (spell key ++ spell rest)) 26) (some_lets table (spell key ++ spell rest)) (marked_lets table (spell key) (spell rest) (are.marked key is_key))

  -- a filter that is asked with such a test is sound for what is the same dictionary
  pub sound_asked : ((v w : List ℕ) → spell (v ++ w) ≡ spell v ++ spell w) → (buckets others : Option (List ℕ)) (filter asked : Option Filter) (L : Dictionary V) → MayTell spell K buckets → IsSoundFor (λ w. lets_pass (may_begin None) filter (spell w)) K → others ≡ buckets → asked ≡ filter → K ≡ L
      → IsSoundFor (λ w. lets_pass (may_begin others) asked (spell w)) L
  sound_asked joined buckets others filter asked L told sound same_buckets same_filter same =
      let P : Option (List ℕ) → Type 0 = λ b. IsSoundFor (λ w. lets_pass (may_begin b) asked (spell w)) L in
      let Q : Option Filter → Type 0 = λ f. IsSoundFor (λ w. lets_pass (may_begin buckets) f (spell w)) L in
      let R : Dictionary V → Type 0 = λ d. IsSoundFor (λ w. lets_pass (may_begin buckets) filter (spell w)) d in
      subst P (sym same_buckets) (subst Q (sym same_filter) (subst R same (sound_tested K (may_begin buckets) spell filter (sound_buckets joined buckets told) sound)))

  -- the keys that are left to be marked, those that were, and nothing else
  pub record AreMarkedSoFar (left : List (List ℕ × V)) (table : List ℕ) : Type 0 where
    pub keys : (k : List ℕ) → values_of left k ≢ [] → IsKey K k
    pub marked : (k : List ℕ) → IsKey K k → (values_of left k ≢ []) ⊎ IsMarked table (spell k)
    pub no_others : (y i : ℕ) → y < 8192 → i < 64 → is_clear_at table y i ≡ true → IsOpened spell K y i

  pub marked_none : (left : List (List ℕ × V)) (table : List ℕ) → IsListing K left → ((y i : ℕ) → y < 8192 → i < 64 → is_clear_at table y i ≡ false) → AreMarkedSoFar left table
  marked_none left table listing none = record {
    keys = λ k some nil. some (listing.same k ∙ nil);
    marked = λ k is_key. inl (λ nil. is_key (sym (listing.same k) ∙ nil));
    no_others = λ y i h within is. absurd (false≢true (sym (none y i h within) ∙ is));
  }

  pub marked_all : (table : List ℕ) → AreMarkedSoFar [] table → AreBuckets spell K table
  marked_all table so_far = record {
    marked = λ k is_key. elim (so_far.marked k is_key) [
      | inl some ↦ absurd (some refl)
      | inr is ↦ is
    ];
    no_others = so_far.no_others;
  }

  pub marked_more : (w : List ℕ) (v : V) (left : List (List ℕ × V)) (table more : List ℕ) (bucket : ℕ) → AreMarkedSoFar ((w, v) ∷ left) table → bucket < 8
      → ((y i : ℕ) → y < 8192 → i < 64 → is_clear_at more y i ≡ (is_clear_at table y i || opens (spell w) bucket 8 y i)) → AreMarkedSoFar left more
  marked_more w v left table more bucket so_far below adds = record {
    keys = λ k some. so_far.keys k (some_more (same_text w k) v (values_of left k) some);
    marked = λ k is_key. elim (so_far.marked k is_key) [
      | inl some ↦ elim (one_of (same_text w k) v (values_of left k) some) [
        | inl same ↦ inr (let P : List ℕ → Type 0 = λ x. IsMarked more (spell x) in subst P ((bytes_eq-Decides w k).0 same) newly)
        | inr later ↦ inl later
      ]
      | inr is ↦ inr (record { bucket = is.bucket; below = is.below; clear = λ y i h within of. adds y i h within ∙ or_left _ _ (is.clear y i h within of) })
    ];
    no_others = λ y i h within is. elim (either (is_clear_at table y i) (opens (spell w) bucket 8 y i) (sym (adds y i h within) ∙ is)) [
      | inl was ↦ so_far.no_others y i h within was
      | inr of ↦ record { key = w; is_key = so_far.keys w (first_some (same_text w w) v (values_of left w) ((bytes_eq-Decides w w).1 refl)); bucket = bucket; below = below; opened = of }
    ];
  }
    where
      newly : IsMarked more (spell w)
      newly = record { bucket = bucket; below = below; clear = λ y i h within of. adds y i h within ∙ or_right (is_clear_at table y i) _ of }
