-- Leftmost matches are parts of the text, one after another, also where it is read folded: so the tokens are the text, cut where a match starts or ends.
use Rattle.std.proofs.Common.{◌≡◌, ℕ, Bool, zero, suc, ◌+◌, ◌-◌, ◌<◌, ◌≤◌, ◌≢◌, inl, inr, true, false, IsSome, Option, Some, None, List, [], ◌∷◌, ◌++◌, length, drop, refl, sym, ap, ◌∙◌, subst, append_assoc, append-nil, length-append, take-append-drop, arith}
use Rattle.std.proofs.lemmas.Bool.{cond_above, cond_below}
use Rattle.std.proofs.lemmas.List.{drop-drop, length-take-le, length-drop}
use Rattle.std.proofs.lemmas.List.Elements.{All-cons}
use Rattle.std.proofs.lemmas.Str.{len_utf8_bounds, IsCharBoundary-start}
use Rattle.std.specs.List.{All, AllAdjacentBelow, Contains, flat_map, slice_index_or}
use Rattle.std.specs.Prelude.{slice_range}
use Rattle.std.specs.Str.{chars, IsUtf8, IsCharBoundary}
use Rattle.daachorse_model.specs.declared.Match.{Match}
use Rattle.daachorse_model.specs.Dictionary.{Dictionary}
use Rattle.daachorse_model.specs.Folding.{as_read, folded}
use Rattle.daachorse_model.specs.Laws.{Follows, IsOccurrence}
use Rattle.daachorse_model.specs.Leftmost.{leftmost}
use Rattle.daachorse_model.specs.Units.{size, char_width}
use Rattle.daachorse_model.proofs.Find.{leftmost_occur}
use Rattle.daachorse_model.proofs.FoldLaws.{chars-folded, IsCharBoundary-folded, IsUtf8-folded}
use Rattle.daachorse_model.proofs.Overlap.{leftmost_apart}
use Rattle.daachorse_model.proofs.SlowLaws.{drop-all}
use Rattle.daachorse_model.proofs.SameOnText.{cut_at}
use Rattle.daachorse_model.proofs.Suffixes.{le_or_lt, size-append}
use Rattle.daactok.specs.Tokens.{FollowOneAnother, IsKnownOne, IsPart, Piece, piece, stretch, tokens_from}

module _ {V : Type 0} (text : List ℕ) where
  parts_from : (s : ℕ) (ms : List (Match V)) → IsCharBoundary text s → All (IsPart text) ms → Follows s ms → FollowOneAnother text s ms
  parts_from s [] here all follow = here
  parts_from s (m ∷ ms) here all follow = let part = all 0 m (omega arith) in (here, follow.0, part, parts_from m.end ms part.ends (λ k d lt. all (suc k) d (omega arith)) follow.2)

  -- the matches of a search, where the empty text is no key
  module _ (K : Dictionary V) (none : K [] ≡ []) (utf8 : IsUtf8 text) where
    not_empty : (key : List ℕ) (v : V) → Contains (K key) v → 0 < size char_width key
    not_empty [] v has = absurd (omega (arith, has.1, ap length none))
    not_empty (c ∷ key) v has = omega (arith, len_utf8_bounds c)

    is_part : (m : Match V) → IsOccurrence char_width K (chars text) m → IsPart text m
    is_part m o =
        let sized = size-append char_width o.before o.key in
        record {
          starts = subst (IsCharBoundary text) (sym o.starts) (cut_at text o.before (o.key ++ o.after) utf8 o.splits);
          ends = subst (IsCharBoundary text) (sized ∙ sym o.ends) (cut_at text (o.before ++ o.key) o.after utf8 (o.splits ∙ sym (append_assoc o.before o.key o.after)));
          some = omega (arith, o.starts, o.ends, not_empty o.key m.value o.has);
        }

    leftmost_parts : FollowOneAnother text 0 (leftmost char_width K (chars text))
    leftmost_parts = parts_from 0 (leftmost char_width K (chars text)) (IsCharBoundary-start text utf8) (λ k d lt. is_part _ (leftmost_occur char_width K (chars text) k d lt)) (leftmost_apart char_width K (chars text))

-- where a folded text may be cut, so may the text
cut_back : (text : List ℕ) (i : ℕ) → IsCharBoundary (folded text) i → IsCharBoundary text i
cut_back text i cut = (IsCharBoundary-folded text i).0 cut

module _ {V : Type 0} (text : List ℕ) where
  parts_back : (s : ℕ) (ms : List (Match V)) → FollowOneAnother (folded text) s ms → FollowOneAnother text s ms
  parts_back s [] here = cut_back text s here
  parts_back s (m ∷ ms) h = (
    cut_back text s h.0,
    h.1,
    record { starts = cut_back text m.start h.2.starts; ends = cut_back text m.end h.2.ends; some = h.2.some },
    parts_back m.end ms h.3,
  )

  -- the matches of a search in the text as it is read
  read_parts : (folds : Bool) (K : Dictionary V) → K [] ≡ [] → IsUtf8 text → FollowOneAnother text 0 (leftmost char_width K (as_read folds (chars text)))
  read_parts true K none utf8 =
      let back = parts_back 0 (leftmost char_width K (chars (folded text))) (leftmost_parts (folded text) K none (IsUtf8-folded text utf8)) in
      subst (λ units. FollowOneAnother text 0 (leftmost char_width K units)) (chars-folded text utf8) back
  read_parts false K none utf8 = leftmost_parts text K none utf8

-- a part of a text, and what comes behind it
range-drop : (text : List ℕ) (s e : ℕ) → s ≤ e → slice_range text s e ++ drop e text ≡ drop s text
range-drop text s e h = ap (λ n. slice_range text s e ++ drop n text) (omega arith) ∙ (ap (λ l. slice_range text s e ++ l) (sym (drop-drop (e - s) s text)) ∙ take-append-drop (e - s) (drop s text))

length-range : (text : List ℕ) (s e : ℕ) → e ≤ length text → length (slice_range text s e) ≡ e - s
length-range text s e h = length-take-le (e - s) (drop s text) (omega (arith, length-drop s text))

not_nil : (l : List ℕ) → 0 < length l → l ≢ []
not_nil [] h = absurd (omega arith)
not_nil (x ∷ l) h = λ e. cc

module _ {V : Type 0} where
  -- of any two neighbours one is a word
  abbrev AreApart : List (Piece V) → Type 0
  AreApart [] = Unit {0}
  AreApart (a ∷ []) = Unit {0}
  AreApart (a ∷ b ∷ ts) = IsKnownOne a b × AreApart (b ∷ ts)

  each_apart : (ts : List (Piece V)) → AreApart ts → AllAdjacentBelow IsKnownOne ts (length ts)
  each_apart [] h k d lt = absurd (omega arith)
  each_apart (a ∷ []) h k d lt = absurd (omega arith)
  each_apart (a ∷ b ∷ ts) h zero d lt = h.0
  each_apart (a ∷ b ∷ ts) h (suc k) d lt =
      let P : ℕ → Type 0 = λ n. IsKnownOne (slice_index_or (a ∷ b ∷ ts) (suc k) d) (slice_index_or (a ∷ b ∷ ts) n d) in
      let next : suc (k + 1) ≡ suc k + 1 = omega arith in
      subst P next (each_apart (b ∷ ts) h.1 k d (omega arith))

  apart-known : (a : Piece V) (ts : List (Piece V)) → IsSome a.value → AreApart ts → AreApart (a ∷ ts)
  apart-known a [] known h = tt
  apart-known a (b ∷ ts) known h = (inl known, h)

module _ {V : Type 0} (text : List ℕ) where
  pub stretch-none : (s e : ℕ) → e ≤ s → stretch {V = V} text s e ≡ []
  stretch-none s e h = sym (cond_above s e _ [] [] h refl)

  pub stretch-some : (s e : ℕ) → s < e → stretch {V = V} text s e ≡ piece text s e None ∷ []
  stretch-some s e h = sym (cond_below s e _ [] h)

  -- the tokens' texts, joined
  stretch-joined : (s e : ℕ) (ts : List (Piece V)) → s ≤ e → flat_map (λ t. t.text) (stretch text s e ++ ts) ≡ slice_range text s e ++ flat_map (λ t. t.text) ts
  stretch-joined s e ts h = elim (le_or_lt e s) [
    | inl none ↦ let nothing : e - s ≡ 0 = omega arith in rw (stretch-none s e none, nothing) refl
    | inr some ↦ rw (stretch-some s e some) refl
  ]

  joined_from : (s : ℕ) (ms : List (Match V)) → FollowOneAnother text s ms → flat_map (λ t. t.text) (tokens_from text s ms) ≡ drop s text
  joined_from s [] h =
      let n = length text in
      ap (flat_map (λ t. t.text)) (sym (append-nil (stretch text s n)))
      ∙ (stretch-joined s n [] h.0 ∙ (ap (λ l. slice_range text s n ++ l) (sym (drop-all text n (omega arith))) ∙ range-drop text s n h.0))
  joined_from s (m ∷ ms) h =
      let later = joined_from m.end ms h.3 in
      stretch-joined s m.start (piece text m.start m.end (Some m.value) ∷ tokens_from text m.end ms) h.1
      ∙ (ap (λ l. slice_range text s m.start ++ (slice_range text m.start m.end ++ l)) later
      ∙ (ap (λ l. slice_range text s m.start ++ l) (range-drop text m.start m.end (omega (arith, h.2.some))) ∙ range-drop text s m.start h.1))

  -- no token is empty
  piece-some : (s e : ℕ) (value : Option V) → s < e → e ≤ length text → (piece text s e value).text ≢ []
  piece-some s e value some within = not_nil (slice_range text s e) (omega (arith, length-range text s e within))

  stretch-all : (s e : ℕ) (ts : List (Piece V)) → e ≤ length text → All (λ t. t.text ≢ []) ts → All (λ t. t.text ≢ []) (stretch text s e ++ ts)
  stretch-all s e ts within all = elim (le_or_lt e s) [
    | inl none ↦ rw (stretch-none s e none) all
    | inr some ↦ rw (stretch-some s e some) (All-cons (λ t. t.text ≢ []) (piece text s e None) ts (piece-some s e None some within) all)
  ]

  nonempty_from : (s : ℕ) (ms : List (Match V)) → FollowOneAnother text s ms → All (λ t. t.text ≢ []) (tokens_from text s ms)
  nonempty_from s [] h = rw (← append-nil (stretch {V = V} text s (length text))) (stretch-all s (length text) [] (omega arith) (λ k d lt. absurd (omega arith)))
  nonempty_from s (m ∷ ms) h =
      let known = piece text m.start m.end (Some m.value) in
      stretch-all s m.start (known ∷ tokens_from text m.end ms) h.2.starts.0
      (All-cons (λ t. t.text ≢ []) known (tokens_from text m.end ms) (piece-some m.start m.end (Some m.value) h.2.some h.2.ends.0) (nonempty_from m.end ms h.3))

  -- no two unknown tokens are neighbours
  apart_from : (s : ℕ) (ms : List (Match V)) → AreApart (tokens_from text s ms)
  apart_from s [] = elim (le_or_lt (length text) s) [
    | inl none ↦ rw (stretch-none s (length text) none) tt
    | inr some ↦ rw (stretch-some s (length text) some) tt
  ]
  apart_from s (m ∷ ms) =
      let known = piece text m.start m.end (Some m.value) in
      let later : AreApart (known ∷ tokens_from text m.end ms) = apart-known known (tokens_from text m.end ms) refl (apart_from m.end ms) in
      elim (le_or_lt m.start s) [
        | inl none ↦ rw (stretch-none s m.start none) later
        | inr some ↦ rw (stretch-some s m.start some) (inr refl, later)
      ]

  length-texts : (ts : List (Piece V)) → All (λ t. t.text ≢ []) ts → length ts ≤ length (flat_map (λ t. t.text) ts)
  length-texts [] all = omega arith
  length-texts (t ∷ ts) all = omega (arith, length-append t.text (flat_map (λ x. x.text) ts), some t.text (all 0 t (omega arith)), length-texts ts (λ k d lt. all (suc k) d (omega arith)))
    where
      some : (l : List ℕ) → l ≢ [] → 0 < length l
      some [] h = absurd (h refl)
      some (x ∷ l) h = omega arith

  -- what the tokens of a text are
  pub record AreTokens (ts : List (Piece V)) : Type 0 where
    pub joined : flat_map (λ t. t.text) ts ≡ text
    pub few : length ts ≤ length text
    pub nonempty : All (λ t. t.text ≢ []) ts
    pub apart : AllAdjacentBelow IsKnownOne ts (length ts)

  pub parts_of_search : (folds : Bool) (K : Dictionary V) (ms : List (Match V)) → ms ≡ leftmost char_width K (as_read folds (chars text)) → K [] ≡ [] → IsUtf8 text → FollowOneAnother text 0 ms
  parts_of_search folds K ms is none utf8 = subst (FollowOneAnother text 0) (sym is) (read_parts text folds K none utf8)

  pub tokens_of_search : (folds : Bool) (K : Dictionary V) (ms : List (Match V)) → ms ≡ leftmost char_width K (as_read folds (chars text)) → K [] ≡ [] → IsUtf8 text → AreTokens (tokens_from text 0 ms)
  tokens_of_search folds K ms is none utf8 =
      let parts = parts_of_search folds K ms is none utf8 in
      let ts = tokens_from text 0 ms in
      let whole = joined_from 0 ms parts in
      let all = nonempty_from 0 ms parts in
      record { joined = whole; few = omega (arith, length-texts ts all, ap length whole); nonempty = all; apart = each_apart ts (apart_from 0 ms) }
