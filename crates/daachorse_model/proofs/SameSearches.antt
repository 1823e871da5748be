-- On text, with text patterns none of which is empty, bytes and characters give the same standard and leftmost matches.
use Rattle.std.proofs.Common.{◌≡◌, ◌≢◌, ℕ, zero, suc, ◌+◌, Bool, true, false, List, [], ◌∷◌, ◌++◌, length, take, refl, ap, sym, ◌∙◌, subst, arith, add-zero, one-add, length-append, Option, Some, None}
use Rattle.std.specs.Prelude.{option_map, slice_get}
use Rattle.std.specs.Option.{option_or}
use Rattle.std.proofs.Math.Utf8.{encode, encodes}
use Rattle.std.specs.Char.{len_utf8}
use Rattle.std.proofs.lemmas.Str.{encodes-append, length-encode}
use Rattle.std.proofs.lemmas.List.{append_assoc, append-nil}
use Rattle.daachorse_model.specs.declared.Match.{Match}
use Rattle.daachorse_model.specs.declared.MatchKind.{MatchKind}
use Rattle.daachorse_model.specs.Units.{size, byte_width, char_width}
use Rattle.daachorse_model.specs.Dictionary.{Dictionary, values_of, in_bytes, kept_registrations, dictionary}
use Rattle.daachorse_model.specs.Matches.{ending_at, standard_from, standard, empty_matches}
use Rattle.daachorse_model.specs.Leftmost.{key_with_value, longest_key, match_at, units_to_skip, is_after, leftmost_from, leftmost}
use Rattle.daachorse_model.proofs.Earliest.{longest_key-none}
use Rattle.daachorse_model.proofs.Overlap.{longest_key-begins, Begins, take-append}
use Rattle.daachorse_model.proofs.SameOnText.{spelled, AllInner, IsInner, starts_inner, ends_inner, values_of-in_bytes, values_of-no_text, ending_at-inner, ending_at-encodes, size-encodes, kept_registrations-in_bytes}
use Rattle.daachorse_model.proofs.Suffixes.{size-bytes}
use Rattle.daachorse_model.proofs.Searches.{first_or, key_with_value-none, leftmost_from-skip}
use Rattle.daachorse_model.proofs.Lists.{no_back}

-- ---- standard searches

-- a standard search that looks at the end of t, which it read since r, and then goes on in w
abbrev looks_at : {V : Type 0} → (ℕ → ℕ) → Dictionary V → ℕ → List ℕ → List ℕ → List (Match V)
looks_at width K r t w = first_or (ending_at width K r (r + size width t) t) (standard_from width K r t w) (standard_from width K (r + size width t) [] w)

pub standard-is : {V : Type 0} (width : ℕ → ℕ) (K : Dictionary V) (h : List ℕ) → K [] ≡ [] → standard width K h ≡ standard_from width K 0 [] h
standard-is width K h e = ap {B = List (Match _)} (λ vs. elim vs [ [] ↦ standard_from width K 0 [] h | _ ∷ _ ↦ empty_matches width K h ]) e

module _ {V : Type 0} (rs : List (List ℕ × V)) (no_empty : values_of rs [] ≡ []) where
  abbrev by_bytes : Dictionary V
  by_bytes = values_of (in_bytes rs)

  looks_inner : (r : ℕ) (t w front back : List ℕ) (c : ℕ) → encode c ≡ front ++ back → front ≢ []
      → looks_at byte_width by_bytes r (encodes t ++ front) (back ++ w) ≡ looks_at byte_width by_bytes r (encodes t ++ encode c) w
  looks_inner r t w front [] c cut some = ap (λ x. looks_at byte_width by_bytes r (encodes t ++ x) w) (sym (append-nil front) ∙ sym cut)
  looks_inner r t w front (b ∷ back) c cut some =
      rw (ending_at-inner rs no_empty t front (b ∷ back) c r (r + size byte_width (encodes t ++ front)) cut some (λ e. cc))
      (ap (λ x. looks_at byte_width by_bytes r x (back ++ w)) (append_assoc (encodes t) front (b ∷ []))
      ∙ looks_inner r t w (front ++ b ∷ []) back c (cut ∙ sym (append_assoc front (b ∷ []) back)) (λ e. let none = no_back front (b ∷ []) e in cc))

  standard_char : (r : ℕ) (t w : List ℕ) (c : ℕ) → standard_from byte_width by_bytes r (encodes t) (encode c ++ w) ≡ looks_at byte_width by_bytes r (encodes t ++ encode c) w
  standard_char r t w c =
      let k = spelled c in
      ap (λ x. standard_from byte_width by_bytes r (encodes t) (x ++ w)) k.is ∙ looks_inner r t w (k.first ∷ []) k.inner c k.is (λ e. cc)

  standard_from-encodes : (r : ℕ) (t w : List ℕ) → standard_from byte_width by_bytes r (encodes t) (encodes w) ≡ standard_from char_width (values_of rs) r t w
  standard_from-encodes r t [] = refl
  standard_from-encodes r t (c ∷ w) =
      let one : encodes t ++ encode c ≡ encodes (t ++ c ∷ []) = ap (λ x. encodes t ++ x) (sym (append-nil (encode c))) ∙ sym (encodes-append t (c ∷ [])) in
      let e = r + size char_width (t ++ c ∷ []) in
      standard_char r t (encodes w) c
      ∙ ap (λ x. looks_at byte_width by_bytes r x (encodes w)) one
      ∙ ap (λ n. first_or (ending_at byte_width by_bytes r (r + n) (encodes (t ++ c ∷ []))) (standard_from byte_width by_bytes r (encodes (t ++ c ∷ [])) (encodes w)) (standard_from byte_width by_bytes (r + n) [] (encodes w)))
      (size-encodes (t ++ c ∷ []))
      ∙ ap (λ here. first_or here (standard_from byte_width by_bytes r (encodes (t ++ c ∷ [])) (encodes w)) (standard_from byte_width by_bytes e [] (encodes w)))
      (ending_at-encodes rs no_empty (t ++ c ∷ []) r e)
      ∙ ap (λ none. first_or (ending_at char_width (values_of rs) r e (t ++ c ∷ [])) none (standard_from byte_width by_bytes e [] (encodes w)))
      (standard_from-encodes r (t ++ c ∷ []) w)
      ∙ ap (λ found. first_or (ending_at char_width (values_of rs) r e (t ++ c ∷ [])) (standard_from char_width (values_of rs) r (t ++ c ∷ []) w) found)
      (standard_from-encodes e [] w)

  no_empty_bytes : by_bytes [] ≡ []
  no_empty_bytes = values_of-in_bytes rs [] ∙ no_empty

  pub standard_same : (h : List ℕ) → standard byte_width by_bytes (encodes h) ≡ standard char_width (values_of rs) h
  standard_same h = standard-is byte_width by_bytes (encodes h) no_empty_bytes ∙ standard_from-encodes 0 [] h ∙ sym (standard-is char_width (values_of rs) h no_empty)

-- ---- leftmost searches

option_or-none : {A : Type 0} (o : Option A) → option_or o None ≡ o
option_or-none None = refl
option_or-none (Some x) = refl

option_or-map : {A B : Type 0} (f : A → B) (a b : Option A) → option_or (option_map f a) (option_map f b) ≡ option_map f (option_or a b)
option_or-map f None b = refl
option_or-map f (Some x) b = refl

-- a key as its bytes
abbrev spelled_out : {V : Type 0} → List ℕ × V → List ℕ × V
spelled_out k = (encodes k.0, k.1)

module _ {V : Type 0} (rs : List (List ℕ × V)) (no_empty : values_of rs [] ≡ []) where
  abbrev bytes_of : Dictionary V
  bytes_of = values_of (in_bytes rs)

  key_with_value-encodes : (t : List ℕ) (vs : List V) → option_map (λ v. (encodes t, v)) (slice_get vs 0) ≡ option_map spelled_out (option_map (λ v. (t, v)) (slice_get vs 0))
  key_with_value-encodes t [] = refl
  key_with_value-encodes t (v ∷ vs) = refl

  key_with_value-bytes : (t : List ℕ) → key_with_value bytes_of (encodes t) ≡ option_map spelled_out (key_with_value (values_of rs) t)
  key_with_value-bytes t = ap (λ vs. option_map (λ v. (encodes t, v)) (slice_get vs 0)) (values_of-in_bytes rs t) ∙ key_with_value-encodes t (values_of rs t)

  longest_inner : (t w front back : List ℕ) (c : ℕ) → encode c ≡ front ++ back → front ≢ []
      → longest_key bytes_of (encodes t ++ front) (back ++ w) ≡ longest_key bytes_of (encodes t ++ encode c) w
  longest_inner t w front [] c cut some = ap (λ x. longest_key bytes_of (encodes t ++ x) w) (sym (append-nil front) ∙ sym cut)
  longest_inner t w front (b ∷ back) c cut some =
      let none = key_with_value-none bytes_of (encodes t ++ front) (values_of-no_text rs (encodes t ++ front) (λ p. ends_inner t p front (b ∷ back) c cut some (λ e. cc))) in
      ap (λ o. option_or (longest_key bytes_of ((encodes t ++ front) ++ b ∷ []) (back ++ w)) o) none
      ∙ option_or-none (longest_key bytes_of ((encodes t ++ front) ++ b ∷ []) (back ++ w))
      ∙ ap (λ x. longest_key bytes_of x (back ++ w)) (append_assoc (encodes t) front (b ∷ []))
      ∙ longest_inner t w (front ++ b ∷ []) back c (cut ∙ sym (append_assoc front (b ∷ []) back)) (λ e. let none = no_back front (b ∷ []) e in cc)

  longest_char : (t w : List ℕ) (c : ℕ) → longest_key bytes_of (encodes t) (encode c ++ w) ≡ option_or (longest_key bytes_of (encodes t ++ encode c) w) (key_with_value bytes_of (encodes t))
  longest_char t w c =
      let k = spelled c in
      ap (λ x. longest_key bytes_of (encodes t) (x ++ w)) k.is
      ∙ ap (λ o. option_or o (key_with_value bytes_of (encodes t))) (longest_inner t w (k.first ∷ []) k.inner c k.is (λ e. cc))

  longest-encodes : (t w : List ℕ) → longest_key bytes_of (encodes t) (encodes w) ≡ option_map spelled_out (longest_key (values_of rs) t w)
  longest-encodes t [] = key_with_value-bytes t
  longest-encodes t (c ∷ w) =
      let one : encodes t ++ encode c ≡ encodes (t ++ c ∷ []) = ap (λ x. encodes t ++ x) (sym (append-nil (encode c))) ∙ sym (encodes-append t (c ∷ [])) in
      longest_char t (encodes w) c
      ∙ ap (λ x. option_or (longest_key bytes_of x (encodes w)) (key_with_value bytes_of (encodes t))) one
      ∙ ap (λ o. option_or o (key_with_value bytes_of (encodes t))) (longest-encodes (t ++ c ∷ []) w)
      ∙ ap (λ o. option_or (option_map spelled_out (longest_key (values_of rs) (t ++ c ∷ []) w)) o) (key_with_value-bytes t)
      ∙ option_or-map spelled_out (longest_key (values_of rs) (t ++ c ∷ []) w) (key_with_value (values_of rs) t)

  -- nothing begins inside a character
  nothing_inner : (b : ℕ) (w : List ℕ) → IsInner b → longest_key bytes_of [] (b ∷ w) ≡ None
  nothing_inner b w in' = longest_key-none bytes_of [] (b ∷ w) by_cut
    where
      by_cut : (z y : List ℕ) → b ∷ w ≡ z ++ y → bytes_of z ≡ []
      by_cut [] y e = values_of-in_bytes rs [] ∙ no_empty
      by_cut (a ∷ z) y e =
          let same : b ≡ a = cc in
          values_of-no_text rs (a ∷ z) (λ p. starts_inner p a z (subst IsInner same in'))

  leftmost_inner : (s : ℕ) (after : Bool) (inner w : List ℕ) → AllInner inner
      → leftmost_from byte_width bytes_of s zero after (inner ++ w) ≡ leftmost_from byte_width bytes_of (s + length inner) zero after w
  leftmost_inner s after [] w all = ap (λ n. leftmost_from byte_width bytes_of n zero after w) (sym (add-zero s))
  leftmost_inner s after (b ∷ inner) w all =
      ap (λ best. match_at byte_width s after best ++ leftmost_from byte_width bytes_of (s + 1) (units_to_skip best) (is_after after best) (inner ++ w)) (nothing_inner b (inner ++ w) all.0)
      ∙ leftmost_inner (s + 1) after inner w all.1
      ∙ ap (λ n. leftmost_from byte_width bytes_of n zero after w) (omega arith)

  -- what a search gives at a character and after it
  abbrev goes_on : (ℕ → ℕ) → Dictionary V → ℕ → ℕ → Bool → List ℕ → Option (List ℕ × V) → List (Match V)
  goes_on width K s next after w best = match_at width s after best ++ leftmost_from width K next (units_to_skip best) (is_after after best) w

  goes_on-same : (s c : ℕ) (after : Bool) (w : List ℕ) (best : Option (List ℕ × V)) → ((k : List ℕ × V) → best ≡ Some k → Begins (values_of rs) [] (c ∷ w) k)
      → ((next n : ℕ) (a : Bool) → leftmost_from byte_width bytes_of next (length (encodes (take n w))) a (encodes w) ≡ leftmost_from char_width (values_of rs) next n a w)
      → goes_on byte_width bytes_of s (s + 1) after ((spelled c).inner ++ encodes w) (option_map spelled_out best) ≡ goes_on char_width (values_of rs) s (s + char_width c) after w best
  goes_on-same s c after w None begins rest =
      let k = spelled c in
      let len : len_utf8 c ≡ 1 + length k.inner = sym (length-encode c) ∙ ap length k.is ∙ sym (one-add (length k.inner)) in
      leftmost_inner (s + 1) after k.inner (encodes w) k.follow
      ∙ ap (λ n. leftmost_from byte_width bytes_of n zero after (encodes w)) (omega (arith, len))
      ∙ rest (s + char_width c) zero after
  goes_on-same s c after w (Some ([], v)) begins rest =
      let b = begins ([], v) refl in
      absurd (let bad : [] ≡ v ∷ b.others = sym no_empty ∙ b.first in cc)
  goes_on-same s c after w (Some (d ∷ p, v)) begins rest =
      let k = spelled c in
      let kd = spelled d in
      let b = begins (d ∷ p, v) refl in
      let whole : c ∷ w ≡ d ∷ (p ++ b.rest) = b.splits ∙ ap (λ x. x ++ b.rest) (sym b.key) in
      let same : d ≡ c = cc in
      let others : w ≡ p ++ b.rest = cc in
      let len : len_utf8 c ≡ 1 + length k.inner = sym (length-encode c) ∙ ap length k.is ∙ sym (one-add (length k.inner)) in
      let text : encodes (d ∷ p) ≡ kd.first ∷ (kd.inner ++ encodes p) = ap (λ x. x ++ encodes p) kd.is in
      let skip : length (kd.inner ++ encodes p) ≡ length k.inner + length (encodes p) =
      length-append kd.inner (encodes p) ∙ ap (λ q. length (spelled q).inner + length (encodes p)) same in
      let end : size byte_width (kd.first ∷ (kd.inner ++ encodes p)) ≡ size char_width (d ∷ p) = ap (size byte_width) (sym text) ∙ size-encodes (d ∷ p) in
      let skipped : p ≡ take (length p) w = sym (ap (take (length p)) others ∙ take-append p b.rest) in
      ap (λ x. goes_on byte_width bytes_of s (s + 1) after (k.inner ++ encodes w) (Some (x, v))) text
      ∙ ap (λ n. record { start = s; end = s + n; value = v } ∷ leftmost_from byte_width bytes_of (s + 1) (length (kd.inner ++ encodes p)) true (k.inner ++ encodes w)) end
      ∙ ap (λ ms. record { start = s; end = s + size char_width (d ∷ p); value = v } ∷ ms)
      (leftmost_from-skip byte_width bytes_of (s + 1) (length (kd.inner ++ encodes p)) (length (encodes p)) true k.inner (encodes w) skip
      ∙ ap (λ n. leftmost_from byte_width bytes_of n (length (encodes p)) true (encodes w)) (omega (arith, len, size-bytes k.inner))
      ∙ ap (λ q. leftmost_from byte_width bytes_of (s + char_width c) (length (encodes q)) true (encodes w)) skipped
      ∙ rest (s + char_width c) (length p) true)

  leftmost_from-encodes : (s n : ℕ) (after : Bool) (w : List ℕ)
      → leftmost_from byte_width bytes_of s (length (encodes (take n w))) after (encodes w) ≡ leftmost_from char_width (values_of rs) s n after w
  leftmost_from-encodes s zero after [] =
      ap (match_at byte_width s after) (key_with_value-none bytes_of [] (values_of-in_bytes rs [] ∙ no_empty))
      ∙ sym (ap (λ vs. match_at char_width s after (option_map (λ v. ([], v)) (slice_get vs 0))) no_empty)
  leftmost_from-encodes s (suc n) after [] = ap (match_at byte_width s after) (key_with_value-none bytes_of [] (values_of-in_bytes rs [] ∙ no_empty))
  leftmost_from-encodes s (suc n) after (c ∷ w) =
      leftmost_from-skip byte_width bytes_of s (length (encode c ++ encodes (take n w))) (length (encodes (take n w))) after (encode c) (encodes w) (length-append (encode c) (encodes (take n w)))
      ∙ ap (λ m. leftmost_from byte_width bytes_of (s + m) (length (encodes (take n w))) after (encodes w)) (size-bytes (encode c) ∙ length-encode c)
      ∙ leftmost_from-encodes (s + char_width c) n after w
  leftmost_from-encodes s zero after (c ∷ w) =
      let k = spelled c in
      let best = longest_key (values_of rs) [] (c ∷ w) in
      ap (λ x. leftmost_from byte_width bytes_of s zero after (x ++ encodes w)) k.is
      ∙ ap (goes_on byte_width bytes_of s (s + 1) after (k.inner ++ encodes w))
      (ap (λ x. longest_key bytes_of [] (x ++ encodes w)) (sym k.is) ∙ longest-encodes [] (c ∷ w))
      ∙ goes_on-same s c after w best (λ q e. longest_key-begins (values_of rs) [] (c ∷ w) q e) (λ next n a. leftmost_from-encodes next n a w)

  pub leftmost_same : (h : List ℕ) → leftmost byte_width bytes_of (encodes h) ≡ leftmost char_width (values_of rs) h
  leftmost_same h = leftmost_from-encodes 0 0 false h

pub standard_texts : {V : Type 0} (kind : MatchKind) (rs : List (List ℕ × V)) (h : List ℕ) → dictionary kind rs [] ≡ []
    → standard byte_width (dictionary kind (in_bytes rs)) (encodes h) ≡ standard char_width (dictionary kind rs) h
standard_texts kind rs h no_empty =
    ap (λ r. standard byte_width (values_of r) (encodes h)) (kept_registrations-in_bytes kind rs) ∙ standard_same (kept_registrations kind rs) no_empty h

pub leftmost_texts : {V : Type 0} (kind : MatchKind) (rs : List (List ℕ × V)) (h : List ℕ) → dictionary kind rs [] ≡ []
    → leftmost byte_width (dictionary kind (in_bytes rs)) (encodes h) ≡ leftmost char_width (dictionary kind rs) h
leftmost_texts kind rs h no_empty =
    ap (λ r. leftmost byte_width (values_of r) (encodes h)) (kept_registrations-in_bytes kind rs) ∙ leftmost_same (kept_registrations kind rs) no_empty h
