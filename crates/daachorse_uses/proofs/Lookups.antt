-- A text is a key exactly where the first leftmost match of it is the whole of it, and where the longest match that ends with it begins it.
use Rattle.std.proofs.Common.{◌≡◌, ◌≢◌, ℕ, ◌+◌, ◌≤◌, List, [], ◌∷◌, ◌++◌, length, map, slice_get, Some, None, refl, sym, ap, ◌∙◌, subst, append-nil, append_assoc, length-append, arith}
use Rattle.std.specs.Option.{option_or, option_map}
use Rattle.std.specs.Prelude.{All}
use Rattle.std.proofs.lemmas.List.Elements.{All-append, All-head, All-map, All-weaker}
use Rattle.std.proofs.lemmas.Option.{same_Some}
use Rattle.daachorse_model.specs.declared.Match.{Match}
use Rattle.daachorse_model.specs.declared.MatchKind.{MatchKind}
use Rattle.daachorse_model.specs.declared.MatchKind.TheVariants.{Standard, LeftmostLongest, LeftmostFirst}
use Rattle.daachorse_model.specs.Dictionary.{Dictionary}
use Rattle.daachorse_model.specs.Laws.{IsLongestAtStart}
use Rattle.daachorse_model.specs.Leftmost.{key_with_value, leftmost, longest_key}
use Rattle.daachorse_model.specs.Matches.{ending_at, matches_after, matches_of}
use Rattle.daachorse_model.specs.Units.{size, byte_width}
use Rattle.daachorse_model.proofs.Longest.{leftmost_longest}
use Rattle.daachorse_model.proofs.Suffixes.{size-bytes}
use Rattle.daachorse.specs.ByKind.{non_overlapping}

none_long : {A : Type 0} (xs : List A) → length xs ≡ 0 → xs ≡ []
none_long [] e = refl
none_long (x ∷ xs) e = absurd (omega (arith, e))

module _ {V : Type 0} (K : Dictionary V) where
  -- ---- leftmost

  -- a key is the longest of the keys that begin it
  longest_whole : (t w : List ℕ) (v : V) (vs : List V) → K (t ++ w) ≡ v ∷ vs → longest_key K t w ≡ Some (t ++ w, v)
  longest_whole t [] v vs has =
      let here : K t ≡ v ∷ vs = ap K (sym (append-nil t)) ∙ has in
      ap (λ l. option_map {U = List ℕ × V} (λ x. (t, x)) (slice_get l 0)) here ∙ ap (λ x. Some (x, v)) (sym (append-nil t))
  longest_whole t (u ∷ w) v vs has =
      let e : (t ++ u ∷ []) ++ w ≡ t ++ u ∷ w = append_assoc t (u ∷ []) w in
      ap (λ o. option_or o (key_with_value K t)) (longest_whole (t ++ u ∷ []) w v vs (ap K e ∙ has)) ∙ ap (λ x. Some (x, v)) e

  first_whole : (h : List ℕ) (v : V) (vs : List V) → K h ≡ v ∷ vs → slice_get (leftmost byte_width K h) 0 ≡ Some (record { start = 0; end = 0 + size byte_width h; value = v })
  first_whole [] v vs has = rw (longest_whole [] [] v vs has)
  first_whole (u ∷ w) v vs has = rw (longest_whole [] (u ∷ w) v vs has)

  pub by_leftmost : (kind : MatchKind) (h : List ℕ) → kind ≢ Standard → non_overlapping kind byte_width K h ≡ leftmost byte_width K h
  by_leftmost Standard h other = absurd (other refl)
  by_leftmost LeftmostLongest h other = refl
  by_leftmost LeftmostFirst h other = refl

  pub first_is_whole : (h : List ℕ) (m : Match V) → Some m ≡ slice_get (leftmost byte_width K h) 0 → m.start ≡ 0 → m.end ≡ length h → Some m.value ≡ slice_get (K h) 0
  first_is_whole h m is starts ends = from (leftmost byte_width K h) refl is
    where
      from : (ms : List (Match V)) → leftmost byte_width K h ≡ ms → Some m ≡ slice_get ms 0 → Some m.value ≡ slice_get (K h) 0
      from [] at e = cc
      from (x ∷ ms) at e =
          let l = All-head (IsLongestAtStart byte_width K h) x ms (subst (All (IsLongestAtStart byte_width K h)) at (leftmost_longest byte_width K h)) in
          let same : m ≡ x = same_Some m x e in
          let whole : length h ≡ length l.before + (length l.key + length l.after) = ap length l.splits ∙ length-append l.before (l.key ++ l.after) ∙ ap (λ n. length l.before + n) (length-append l.key l.after) in
          let front : l.before ≡ [] = none_long l.before (omega (arith, l.starts, size-bytes l.before, ap (λ (y : Match V). y.start) same, starts)) in
          let back : l.after ≡ [] = none_long l.after (omega (arith, l.ends, l.starts, size-bytes l.before, size-bytes l.key, whole, ap (λ (y : Match V). y.end) same, ends)) in
          let key : l.key ≡ h = sym (append-nil l.key) ∙ ap (λ y. l.key ++ y) (sym back) ∙ ap (λ y. y ++ (l.key ++ l.after)) (sym front) ∙ sym l.splits in
          ap (λ (y : Match V). Some y.value) same ∙ sym l.value ∙ ap (λ y. slice_get (K y) 0) key

  pub first_is_other : (h : List ℕ) → ((m : Match V) → Some m ≡ slice_get (leftmost byte_width K h) 0 → m.start ≡ 0 → m.end ≡ length h → ⊥) → None ≡ slice_get (K h) 0
  first_is_other h other = from (K h) refl
    where
      from : (vs : List V) → K h ≡ vs → None ≡ slice_get vs 0
      from [] is = refl
      from (v ∷ vs) is = absurd (other _ (sym (first_whole h v vs is)) refl (omega (arith, size-bytes h)))

  -- ---- standard

  -- a match that ends with a text and starts in it does not start before it
  later : (s e : ℕ) (w : List ℕ) → All (λ (m : Match V). s ≤ m.start) (ending_at byte_width K s e w)
  later s e [] = All-map (λ (m : Match V). s ≤ m.start) (λ v. record { start = s; end = e; value = v }) (K []) (λ k d lt. omega arith)
  later s e (u ∷ w) =
      All-append (λ m. s ≤ m.start) (matches_of K s e (u ∷ w)) (ending_at byte_width K (s + 1) e w)
      (All-map (λ (m : Match V). s ≤ m.start) (λ v. record { start = s; end = e; value = v }) (K (u ∷ w)) (λ k d lt. omega arith))
      (All-weaker (λ m. s + 1 ≤ m.start) (λ m. s ≤ m.start) (λ m le. omega (arith, le)) (ending_at byte_width K (s + 1) e w) (later (s + 1) e w))

  -- those that are the whole of the text come before all others
  wholes_first : (h : List ℕ) → (more : List (Match V)) × (matches_after byte_width K h ≡ matches_of K 0 (size byte_width h) h ++ more) × All (λ m. 1 ≤ m.start) more
  wholes_first [] = ([], sym (append-nil (matches_of K 0 0 [])), λ k d lt. absurd (omega (arith, lt)))
  wholes_first (u ∷ w) = (ending_at byte_width K (0 + 1) (size byte_width (u ∷ w)) w, refl, later 1 (size byte_width (u ∷ w)) w)

  -- the longest match that ends with a text
  pub longest_is_whole : (h : List ℕ) (m : Match V) → Some m ≡ slice_get (matches_after byte_width K h) 0 → m.start ≡ 0 → Some m.value ≡ slice_get (K h) 0
  longest_is_whole h m is starts = from (K h) refl (wholes_first h)
    where
      none_starts : (more : List (Match V)) → All (λ m. 1 ≤ m.start) more → Some m ≡ slice_get more 0 → ⊥
      none_starts [] after e = cc
      none_starts (x ∷ ms) after e =
          let past : 1 ≤ x.start = All-head (λ m. 1 ≤ m.start) x ms after in
          omega (arith, past, starts, ap (λ (y : Match V). y.start) (same_Some m x e))

      from : (vs : List V) → K h ≡ vs → (more : List (Match V)) × (matches_after byte_width K h ≡ matches_of K 0 (size byte_width h) h ++ more) × All (λ m. 1 ≤ m.start) more → Some m.value ≡ slice_get vs 0
      from [] none (more, split, after) = absurd (none_starts more after (is ∙ ap (λ l. slice_get l 0) (split ∙ ap (λ l. map (λ x. record { start = 0; end = size byte_width h; value = x }) l ++ more) none)))
      from (v ∷ vs) has (more, split, after) = ap (λ (x : Match V). Some x.value) (same_Some m _ (is ∙ ap (λ l. slice_get l 0) (split ∙ ap (λ l. map (λ x. record { start = 0; end = size byte_width h; value = x }) l ++ more) has)))

  pub longest_is_other : (h : List ℕ) → ((m : Match V) → Some m ≡ slice_get (matches_after byte_width K h) 0 → m.start ≡ 0 → ⊥) → None ≡ slice_get (K h) 0
  longest_is_other h other = from (K h) refl (wholes_first h)
    where
      from : (vs : List V) → K h ≡ vs → (more : List (Match V)) × (matches_after byte_width K h ≡ matches_of K 0 (size byte_width h) h ++ more) × All (λ m. 1 ≤ m.start) more → None ≡ slice_get vs 0
      from [] none (more, split, after) = refl
      from (v ∷ vs) has (more, split, after) = absurd (other (record { start = 0; end = size byte_width h; value = v }) (sym (ap (λ l. slice_get l 0) (split ∙ ap (λ l. map (λ x. record { start = 0; end = size byte_width h; value = x }) l ++ more) has))) refl)
