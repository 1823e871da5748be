-- A text's bytes are those of its characters in a row, so the first characters and the others stand apart in it.
use Rattle.std.proofs.Common.{Bool, false, ◌≡◌, ◌+◌, ◌-◌, ◌<◌, ◌≤◌, ◌⊎◌, inl, inr, ℕ, Option, Some, None, List, [], ◌∷◌, ◌++◌, length, length-append, drop, true, refl, sym, ap, ◌∙◌, subst, arith}
use Rattle.std.proofs.lemmas.Bool.{cases_lt, false≢true}
use Rattle.std.proofs.lemmas.List.{drop_at, drop-drop, length-drop, nil_from_length}
use Rattle.std.proofs.lemmas.Str.{chars-nil, chars-encodes, encode_ascii, encodes-append, encodes-chars, length-encode, scalars-chars, chars_past_char, drop_past_char, IsUtf8-drop, IsUtf8-past_char, IsCharBoundary-at_seam}
use Rattle.std.proofs.Math.ListN.{get_or}
use Rattle.std.proofs.Math.Utf8.{scalars, encode, encodes}
use Rattle.std.specs.Char.{len_utf8}
use Rattle.daachorse_model.proofs.SlowLaws.{drop-next}
use Rattle.std.specs.Iterator.{YieldsFirst}
use Rattle.std.specs.Str.{chars, IsUtf8, IsCharBoundary}
use Rattle.std.specs.Str.Iter.{chars_rest, chars_steps}
use Rattle.std.specs.declared.str.Chars.{Chars}
use Rattle.daachorse_model.specs.Folding.{as_read, folded, folded_unit}
use Rattle.daachorse_model.specs.Units.{size, char_width}
use Rattle.daachorse_model.proofs.FoldLaws.{folded_unit-ascii, folded_unit-past_ascii}
use Rattle.daachorse_model.proofs.SameOnText.{scalars-back}
use Rattle.daachorse_haystack.specs.DecodedSources.{size-encodes}

pub size-chars : (bs : List ℕ) → IsUtf8 bs → size char_width (chars bs) ≡ length bs
size-chars bs u = size-encodes (chars bs) ∙ ap length (encodes-chars bs u)

-- what a text is behind its first characters
pub record IsSeam (bs : List ℕ) (at : ℕ) (back : List ℕ) : Type 0 where
  pub boundary : IsCharBoundary bs at
  pub rest : chars (drop at bs) ≡ back

pub seam : (bs front back : List ℕ) (n : ℕ) → IsUtf8 bs → chars bs ≡ front ++ back → n ≡ size char_width front → IsSeam bs n back
seam bs front back n u parts sized =
    let at : n ≡ length (encodes front) = sized ∙ size-encodes front in
    let whole : bs ≡ encodes front ++ encodes back = sym (encodes-chars bs u) ∙ ap encodes parts ∙ encodes-append front back in
    let scalar : scalars back ≡ true = scalars-back front back (ap scalars (sym parts) ∙ scalars-chars bs u) in
    let text : IsUtf8 (encodes back) = (back, (scalar, refl)) in
    let rest : drop n bs ≡ encodes back = ap (drop n) whole ∙ drop_at (encodes front) (encodes back) n (sym at) in
    record {
      boundary = subst (IsCharBoundary bs) (sym at) (IsCharBoundary-at_seam bs (encodes front) (encodes back) whole text);
      rest = ap chars rest ∙ chars-encodes back scalar;
    }

-- a text from a place on, and behind so many bytes more
pub record IsFrom (bs : List ℕ) (later : ℕ) (back : List ℕ) : Type 0 where
  pub inside : later ≤ length bs
  pub utf8 : IsUtf8 (drop later bs)
  pub rest : chars (drop later bs) ≡ back

pub past_front : (bs front back : List ℕ) (given n : ℕ) → given ≤ length bs → IsUtf8 (drop given bs) → chars (drop given bs) ≡ front ++ back → n ≡ size char_width front → IsFrom bs (given + n) back
past_front bs front back given n h u parts sized =
    let cut = seam (drop given bs) front back n u parts sized in
    record {
      inside = omega (arith, h, cut.boundary.0, length-drop given bs);
      utf8 = subst IsUtf8 (drop-drop n given bs) (IsUtf8-drop (drop given bs) n u cut.boundary);
      rest = ap chars (sym (drop-drop n given bs)) ∙ cut.rest;
    }

-- a text from a place on, and behind its first character
pub record IsPast (bs : List ℕ) (given c later : ℕ) : Type 0 where
  pub inside : later ≤ length bs
  pub utf8 : IsUtf8 (drop later bs)
  pub first : chars (drop given bs) ≡ c ∷ chars (drop later bs)

pub past_char : (bs rest : List ℕ) (given c later : ℕ) → given ≤ length bs → IsUtf8 (drop given bs) → drop given bs ≡ encode c ++ rest → later + length rest ≡ length bs → IsPast bs given c later
past_char bs rest given c later h u parts sized =
    let at : later ≡ given + len_utf8 c = omega (arith, h, sized, length-drop given bs, ap length parts, length-append (encode c) rest, length-encode c) in
    let same : drop later bs ≡ rest = ap (λ n. drop n bs) at ∙ drop_past_char bs rest given c parts in
    record {
      inside = omega (arith, sized);
      utf8 = subst IsUtf8 (sym same) (IsUtf8-past_char (drop given bs) rest c u parts);
      first = chars_past_char (drop given bs) rest c u parts ∙ ap (λ w. c ∷ chars w) (sym same);
    }

-- an ASCII character is its byte
pub past_ascii : (bs : List ℕ) (given first : ℕ) → given < length bs → IsUtf8 (drop given bs) → first ≡ get_or bs given 0 → first < 128 → IsPast bs given first (given + 1)
past_ascii bs given first h u is low =
    past_char bs (drop (given + 1) bs) given first (given + 1) (omega (arith, h)) u
    (drop-next bs given h ∙ ap (λ b. b ∷ drop (given + 1) bs) (sym is) ∙ ap (λ w. w ++ drop (given + 1) bs) (sym (encode_ascii first low)))
    (omega (arith, h, length-drop (given + 1) bs))

-- a text's first character, if it has one, is not ASCII
abbrev pub BeginsPastAscii : List ℕ → Type 0
BeginsPastAscii [] = Unit {0}
BeginsPastAscii (c ∷ w) = 128 ≤ c

-- where a text begins with a byte past ASCII, so does it with a character past ASCII
first_past : (bs cs : List ℕ) (b : ℕ) (rest : List ℕ) → encodes cs ≡ bs → bs ≡ b ∷ rest → 128 ≤ b → BeginsPastAscii cs
first_past bs [] b rest are is high = tt
first_past bs (c ∷ cs) b rest are is high = by (cases_lt c 128)
  where
    by : (c < 128) ⊎ (128 ≤ c) → 128 ≤ c
    by (inl low) =
        (let same : c ∷ encodes cs ≡ b ∷ rest = sym (ap (λ w. w ++ encodes cs) (encode_ascii c low)) ∙ are ∙ is in
        omega (arith, high, ap (λ w. get_or w 0 0) same))
    by (inr past) = past

pub begins_past : (bs : List ℕ) (given first : ℕ) → given < length bs → IsUtf8 (drop given bs) → first ≡ get_or bs given 0 → 128 ≤ first → BeginsPastAscii (chars (drop given bs))
begins_past bs given first h u is high = first_past (drop given bs) (chars (drop given bs)) first (drop (given + 1) bs) (encodes-chars (drop given bs) u) (drop-next bs given h ∙ ap (λ b. b ∷ drop (given + 1) bs) (sym is)) high

-- a character past ASCII is read as it is
pub past_as_read : (folds : Bool) (w : List ℕ) (r : Option ℕ) (t : List ℕ) → BeginsPastAscii w → YieldsFirst (λ (x : List ℕ). x) w r t → YieldsFirst (λ (x : List ℕ). x) (as_read folds w) r (as_read folds t)
past_as_read false w r t past first = first
past_as_read true w None t past first = (ap folded first.0, ap folded first.1)
past_as_read true w (Some c) t past first =
    let high : 128 ≤ c = subst BeginsPastAscii first past in
    ap folded first ∙ ap (λ u. u ∷ folded t) (folded_unit-past_ascii c high)

-- `first` is what the byte is read as, folded or not
abbrev pub IsByteAsRead : Bool → ℕ → ℕ → Type 0
IsByteAsRead folds byte first = ((folds ≡ true) × (first ≡ folded_unit byte)) ⊎ ((folds ≡ false) × (first ≡ byte))

-- it is ASCII where the byte is
pub ascii-byte : (folds : Bool) (byte first : ℕ) → IsByteAsRead folds byte first → first < 128 → byte < 128
ascii-byte folds byte first (inl is) low = by (cases_lt byte 128)
  where
    by : (byte < 128) ⊎ (128 ≤ byte) → byte < 128
    by (inl h) = h
    by (inr high) = omega (arith, low, is.1, folded_unit-past_ascii byte high)
ascii-byte folds byte first (inr is) low = omega (arith, low, is.1)

pub past_ascii-byte : (folds : Bool) (byte first : ℕ) → IsByteAsRead folds byte first → 128 ≤ first → 128 ≤ byte
past_ascii-byte folds byte first (inl is) high = by (cases_lt byte 128)
  where
    by : (byte < 128) ⊎ (128 ≤ byte) → 128 ≤ byte
    by (inl low) = omega (arith, high, is.1, folded_unit-ascii byte low)
    by (inr h) = h
past_ascii-byte folds byte first (inr is) high = omega (arith, high, is.1)

-- a text that begins with the byte begins, as it is read, with what the byte is read as
pub first_as_read : (folds : Bool) (byte first : ℕ) (w : List ℕ) → IsByteAsRead folds byte first → as_read folds (byte ∷ w) ≡ first ∷ as_read folds w
first_as_read true byte first w (inl is) = ap (λ b. b ∷ folded w) (sym is.1)
first_as_read true byte first w (inr is) = absurd (false≢true (sym is.0))
first_as_read false byte first w (inl is) = absurd (false≢true is.0)
first_as_read false byte first w (inr is) = ap (λ b. b ∷ w) (sym is.1)

-- a call of the string's characters takes the first one off, and what they leave is behind it
pub past_steps : (bs seen : List ℕ) (given : ℕ) (s t : Chars) (r : Option ℕ) (left : List ℕ) → given ≤ length bs → IsUtf8 (drop given bs) → chars (drop given bs) ≡ seen → chars_rest s ≡ drop given bs → chars_steps s r t → left ≡ chars_rest t
    → let later = length bs - length left in (later ≤ length bs) × IsUtf8 (drop later bs) × YieldsFirst (λ (w : List ℕ). w) seen r (chars (drop later bs))
past_steps bs seen given s t None left h u shown is steps rests =
    let none : drop given bs ≡ [] = nil_from_length (drop given bs) (omega (arith, steps.0.0, ap length is)) in
    let same : given ≡ length bs - length left = omega (arith, h, length-drop given bs, ap length is, ap length rests, ap (λ (x : Chars). length (chars_rest x)) steps.0.1) in
    let P : ℕ → Type 0 = λ n. (n ≤ length bs) × IsUtf8 (drop n bs) × YieldsFirst (λ (w : List ℕ). w) seen None (chars (drop n bs)) in
    let empty : chars (drop given bs) ≡ [] = ap chars none ∙ chars-nil in
    subst P same (h, u, (sym shown ∙ empty, empty))
past_steps bs seen given s t (Some c) left h u shown is steps rests =
    let parts : drop given bs ≡ encode c ++ left = sym is ∙ steps.0 ∙ ap (λ w. encode c ++ w) (sym rests) in
    let sized : length bs - length left + length left ≡ length bs = omega (arith, h, length-drop given bs, ap length parts, length-append (encode c) left) in
    let past = past_char bs left given c (length bs - length left) h u parts sized in
    (past.inside, past.utf8, sym shown ∙ past.first)
