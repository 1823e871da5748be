-- No occurrence ends before the first match begins.
use Rattle.std.proofs.Common.{◌≡◌, ◌≢◌, ℕ, zero, false, ◌+◌, ◌≤◌, List, [], ◌∷◌, ◌++◌, length, Option, Some, None, option_map, slice_get, refl, sym, ap, subst, append-nil, append_assoc, arith}
use Rattle.std.specs.Prelude.{⊤, All, Contains}
use Rattle.std.proofs.lemmas.List.Elements.{All-append, All-contains, All-head, All-map, All-weaker}
use Rattle.daachorse_model.specs.declared.Match.{Match}
use Rattle.daachorse_model.specs.declared.MatchKind.{MatchKind}
use Rattle.daachorse_model.specs.declared.MatchKind.TheVariants.{Standard, LeftmostLongest, LeftmostFirst}
use Rattle.daachorse_model.specs.Dictionary.{Dictionary}
use Rattle.daachorse_model.specs.Laws.{IsOccurrence}
use Rattle.daachorse_model.specs.Leftmost.{is_after, key_with_value, leftmost, leftmost_from, longest_key, match_at, units_to_skip}
use Rattle.daachorse_model.specs.Matches.{at_each_end, ending_at, matches_after, matches_of, overlapping}
use Rattle.daachorse_model.specs.Units.{byte_width, size}
use Rattle.daachorse_model.proofs.Complete.{overlapping_complete}
use Rattle.daachorse_model.proofs.Lists.{none_either}
use Rattle.daachorse_model.proofs.Occur.{overlapping_occur}
use Rattle.daachorse_model.proofs.Suffixes.{size-append}
use Rattle.daacgrep_command.specs.Sought.{matches_by}

-- there is a first match, and it begins at n or before
abbrev pub BeginsBy : {V : Type 0} → ℕ → List (Match V) → Type 0
BeginsBy n [] = ⊥
BeginsBy n (m ∷ ms) = m.start ≤ n

-- ---- leftmost

module _ {V : Type 0} (K : Dictionary V) where
  value_missing : (w : List ℕ) (v : V) → key_with_value K w ≡ None → Contains (K w) v → ⊥
  value_missing w v none has = by (K w) refl none has
    where
      by : (vs : List V) → K w ≡ vs → option_map {U = List ℕ × V} (λ v. (w, v)) (slice_get vs 0) ≡ None → Contains vs v → ⊥
      by [] is none has = omega (arith, has.1)
      by (x ∷ xs) is none has = cc

  -- where a key begins, a longest one does
  key_begins : (t key after : List ℕ) (v : V) → Contains (K (t ++ key)) v → longest_key K t (key ++ after) ≢ None
  key_begins t [] [] v has none = value_missing t v none (subst (λ w. Contains (K w) v) (append-nil t) has)
  key_begins t [] (u ∷ after) v has none = value_missing t v (none_either (longest_key K (t ++ u ∷ []) after) (key_with_value K t) none).1 (subst (λ w. Contains (K w) v) (append-nil t) has)
  key_begins t (u ∷ key) after v has none =
      key_begins (t ++ u ∷ []) key after v (subst (λ w. Contains (K w) v) (sym (append_assoc t (u ∷ []) key)) has)
      (none_either (longest_key K (t ++ u ∷ []) (key ++ after)) (key_with_value K t) none).0

module _ {V : Type 0} (width : ℕ → ℕ) (K : Dictionary V) where
  found_by : (s n : ℕ) (best : Option (List ℕ × V)) (ms : List (Match V)) → s ≤ n → best ≢ None → BeginsBy n (match_at width s false best ++ ms)
  found_by s n None ms le some = absurd (some refl)
  found_by s n (Some ([], v)) ms le some = le
  found_by s n (Some (c ∷ p, v)) ms le some = le

  next_by : (s n next : ℕ) (w : List ℕ) (best : Option (List ℕ × V)) → s ≤ n → BeginsBy n (leftmost_from width K next zero false w)
      → BeginsBy n (match_at width s false best ++ leftmost_from width K next (units_to_skip best) (is_after false best) w)
  next_by s n next w None le by = by
  next_by s n next w (Some best) le by = found_by s n (Some best) _ le (λ none. cc)

  leftmost_by : (s : ℕ) (before key after : List ℕ) (v : V) → Contains (K key) v → BeginsBy (s + size width before) (leftmost_from width K s zero false (before ++ (key ++ after)))
  leftmost_by s [] [] [] v has =
      subst (BeginsBy (s + 0)) (append-nil (match_at width s false (longest_key K [] []))) (found_by s (s + 0) (longest_key K [] []) [] (omega arith) (key_begins K [] [] [] v has))
  leftmost_by s [] [] (u ∷ after) v has = found_by s (s + 0) (longest_key K [] (u ∷ after)) _ (omega arith) (key_begins K [] [] (u ∷ after) v has)
  leftmost_by s [] (c ∷ key) after v has = found_by s (s + 0) (longest_key K [] (c ∷ (key ++ after))) _ (omega arith) (key_begins K [] (c ∷ key) after v has)
  leftmost_by s (u ∷ before) key after v has =
      let w = before ++ (key ++ after) in
      next_by s (s + size width (u ∷ before)) (s + width u) w (longest_key K [] (u ∷ w)) (omega arith)
      (subst (λ n. BeginsBy n (leftmost_from width K (s + width u) zero false w)) (omega arith) (leftmost_by (s + width u) before key after v has))

  -- ---- overlapping

  ends_here : (s e : ℕ) (w : List ℕ) → All (λ m. m.end ≡ e) (matches_of K s e w)
  ends_here s e w = All-map (λ m. m.end ≡ e) (λ v. record { start = s; end = e; value = v }) (K w) (λ k d lt. refl)

  ends_at : (s e : ℕ) (w : List ℕ) → All (λ m. m.end ≡ e) (ending_at width K s e w)
  ends_at s e [] = ends_here s e []
  ends_at s e (u ∷ w) = All-append (λ m. m.end ≡ e) (matches_of K s e (u ∷ w)) (ending_at width K (s + width u) e w) (ends_here s e (u ∷ w)) (ends_at (s + width u) e w)

  ends_after : (t : List ℕ) → All (λ m. size width t ≤ m.end) (matches_after width K t)
  ends_after t = All-weaker (λ m. m.end ≡ size width t) (λ m. size width t ≤ m.end) (λ m e. omega arith) (matches_after width K t) (ends_at 0 (size width t) t)

  ends_from : (t w : List ℕ) → All (λ m. size width t ≤ m.end) (at_each_end (matches_after width K) t w)
  ends_from t [] = ends_after t
  ends_from t (u ∷ w) =
      All-append (λ m. size width t ≤ m.end) (matches_after width K t) (at_each_end (matches_after width K) (t ++ u ∷ []) w) (ends_after t)
      (All-weaker (λ m. size width (t ++ u ∷ []) ≤ m.end) (λ m. size width t ≤ m.end) (λ m le. omega (arith, le, size-append width t (u ∷ []))) _ (ends_from (t ++ u ∷ []) w))

  -- the first of some matches ends at n or before, unless there is none
  abbrev EndsBy : ℕ → List (Match V) → Type 0
  EndsBy n [] = ⊤
  EndsBy n (m ∷ ms) = m.end ≤ n

  first_ends : (t w : List ℕ) (ms more : List (Match V)) (o : Match V) → All (λ m. m.end ≡ size width t) ms → All (λ m. size width t ≤ m.end) (ms ++ more) → (ms ≡ [] → Contains more o → EndsBy o.end more) → Contains (ms ++ more) o → EndsBy o.end (ms ++ more)
  first_ends t w [] more o here all later has = later refl has
  first_ends t w (m ∷ ms) more o here all later has =
      omega (arith, All-head (λ m. m.end ≡ size width t) m ms here, All-contains (λ m. size width t ≤ m.end) (m ∷ (ms ++ more)) o all has)

  overlapping_ends : (t w : List ℕ) (o : Match V) → Contains (at_each_end (matches_after width K) t w) o → EndsBy o.end (at_each_end (matches_after width K) t w)
  overlapping_ends t [] o has =
      let is = append-nil (matches_after width K t) in
      subst (EndsBy o.end) is (first_ends t [] (matches_after width K t) [] o (ends_at 0 (size width t) t) (rw is (ends_after t)) (λ none has. tt) (rw is has))
  overlapping_ends t (u ∷ w) o has =
      first_ends t w (matches_after width K t) (at_each_end (matches_after width K) (t ++ u ∷ []) w) o (ends_at 0 (size width t) t) (ends_from t (u ∷ w)) (λ none has. overlapping_ends (t ++ u ∷ []) w o has) has

  -- a match begins before it ends
  begins_so : (h : List ℕ) (n : ℕ) (ms : List (Match V)) → All (IsOccurrence width K h) ms → ms ≢ [] → EndsBy n ms → BeginsBy n ms
  begins_so h n [] all some le = absurd (some refl)
  begins_so h n (m ∷ ms) all some le = let o = All-head (IsOccurrence width K h) m ms all in omega (arith, o.starts, o.ends, le)

  -- ---- by kind

  overlapping_by : (h : List ℕ) (o : Match V) → IsOccurrence width K h o → BeginsBy o.end (overlapping width K h)
  overlapping_by h o is =
      let has = overlapping_complete width K h o is in
      begins_so h o.end (overlapping width K h) (overlapping_occur width K h) (λ none. let lt = has.1 in omega (arith, lt, ap length none)) (overlapping_ends [] h o has)

  begins_before : (n m : ℕ) (ms : List (Match V)) → n ≤ m → BeginsBy n ms → BeginsBy m ms
  begins_before n m [] le by = by
  begins_before n m (x ∷ ms) le by = omega (arith, le, by)

  leftmost_begins : (h : List ℕ) (o : Match V) → IsOccurrence width K h o → BeginsBy o.end (leftmost width K h)
  leftmost_begins h o is =
      rw is.splits (begins_before (0 + size width is.before) o.end _ (omega (arith, is.ends)) (leftmost_by 0 is.before is.key is.after o.value is.has))

pub first_begins : (kind : MatchKind) (K : Dictionary ℕ) (h : List ℕ) (o : Match ℕ) → IsOccurrence byte_width K h o → BeginsBy o.end (matches_by kind K h)
first_begins Standard K h o is = overlapping_by byte_width K h o is
first_begins LeftmostLongest K h o is = leftmost_begins byte_width K h o is
first_begins LeftmostFirst K h o is = leftmost_begins byte_width K h o is
