-- Folding goes unit by unit and changes ASCII letters alone: so it keeps lengths, widths, boundaries and cuts.
use Rattle.std.proofs.Common.{◌≡◌, ℕ, Bool, ◌+◌, ◌<◌, ◌≤◌, ◌⊎◌, true, false, List, [], ◌∷◌, ◌++◌, length, take, drop, get_or, nat_lt, refl, sym, ap, ◌∙◌, inl, inr, arith}
use Rattle.std.specs.Prelude.{◌↔◌}
use Rattle.std.specs.Int.{IsInRange}
use Rattle.std.specs.Str.{IsUtf8, IsCharBoundary, chars}
use Rattle.std.proofs.Math.Utf8.{encode, encodes, scalar, scalars, low_scalar}
use Rattle.std.proofs.Math.ListN.{get_or-map}
use Rattle.std.proofs.lemmas.Bool.{cases_lt, lt-ltb, le-ltb}
use Rattle.std.proofs.lemmas.List.{map-append, length-map, take-map, drop-map, take_at, drop_at}
use Rattle.std.proofs.lemmas.Str.{chars-encodes}
use Rattle.std.proofs.lemmas.Str.Ascii.{lowercase_is, lowercase_ascii, lowercase-lowercase, encode_ascii}
use Rattle.daachorse_model.specs.Units.{size, char_width}
use Rattle.daachorse_model.specs.Folding.{folded_unit, folded, as_read}
use Rattle.daachorse_model.proofs.Booleans.{both-true, either}

pub folded_unit-is : (u : ℕ) → (IsInRange 65 90 u → folded_unit u ≡ u + 32) × (u < 65 → folded_unit u ≡ u) × (90 < u → folded_unit u ≡ u)
unfolding folded_unit
folded_unit-is u = lowercase_is u

pub folded_unit-ascii : (u : ℕ) → u < 128 → folded_unit u < 128
unfolding folded_unit
folded_unit-ascii u low = lowercase_ascii u low

pub folded_unit-past_ascii : (u : ℕ) → 128 ≤ u → folded_unit u ≡ u
folded_unit-past_ascii u high = (folded_unit-is u).2 (omega arith)

pub folded_unit-again : (u : ℕ) → folded_unit (folded_unit u) ≡ folded_unit u
unfolding folded_unit
folded_unit-again u = lowercase-lowercase u

pub folded-again : (w : List ℕ) → folded (folded w) ≡ folded w
folded-again [] = refl
folded-again (u ∷ w) = rw (folded_unit-again u, folded-again w) refl

-- a folded unit takes as many bytes
pub char_width-folded : (u : ℕ) → char_width (folded_unit u) ≡ char_width u
char_width-folded u = by (cases_lt u 128)
  where
    by : (u < 128) ⊎ (128 ≤ u) → char_width (folded_unit u) ≡ char_width u
    by (inl low) = rw (lt-ltb u 128 low, lt-ltb (folded_unit u) 128 (folded_unit-ascii u low)) refl
    by (inr high) = ap char_width (folded_unit-past_ascii u high)

pub size-folded : (width : ℕ → ℕ) → ((u : ℕ) → width (folded_unit u) ≡ width u) → (w : List ℕ) → size width (folded w) ≡ size width w
size-folded width same [] = refl
size-folded width same (u ∷ w) = omega (arith, same u, size-folded width same w)

-- where a folded text is cut, so is the text
pub folded-cut : (w front back : List ℕ) → folded w ≡ front ++ back → (folded (take (length front) w) ≡ front) × (folded (drop (length front) w) ≡ back)
folded-cut w front back parts = (
  sym (take-map folded_unit (length front) w) ∙ ap (take (length front)) parts ∙ take_at front back (length front) refl,
  sym (drop-map folded_unit (length front) w) ∙ ap (drop (length front)) parts ∙ drop_at front back (length front) refl,
)

-- the bytes of a character past ASCII are past ASCII
abbrev ArePastAscii : List ℕ → Type 0
ArePastAscii [] = Unit {0}
ArePastAscii (b ∷ bs) = (128 ≤ b) × ArePastAscii bs

folded-high : (bs : List ℕ) → ArePastAscii bs → folded bs ≡ bs
folded-high [] all = refl
folded-high (b ∷ bs) all = rw (folded_unit-past_ascii b all.0, folded-high bs all.1) refl

high_bytes : (c : ℕ) → 128 ≤ c → ArePastAscii (encode c)
unfolding encode
high_bytes c high =
    let more : nat_lt c 128 ≡ false = le-ltb c 128 high in
    elim (either (nat_lt c 2048)) [
      | inl two ↦ rw (more, two) (omega arith, (omega arith, tt))
      | inr more2 ↦ elim (either (nat_lt c 65536)) [
        | inl three ↦ rw (more, more2, three) (omega arith, (omega arith, (omega arith, tt)))
        | inr four ↦ rw (more, more2, four) (omega arith, (omega arith, (omega arith, (omega arith, tt))))
      ]
    ]

-- the UTF-8 of a folded character is that of the character, folded byte by byte
pub encode-folded : (c : ℕ) → encode (folded_unit c) ≡ folded (encode c)
encode-folded c = by (cases_lt c 128)
  where
    by : (c < 128) ⊎ (128 ≤ c) → encode (folded_unit c) ≡ folded (encode c)
    by (inl low) = encode_ascii (folded_unit c) (folded_unit-ascii c low) ∙ sym (ap folded (encode_ascii c low))
    by (inr high) = ap encode (folded_unit-past_ascii c high) ∙ sym (folded-high (encode c) (high_bytes c high))

pub encodes-folded : (w : List ℕ) → encodes (folded w) ≡ folded (encodes w)
encodes-folded [] = refl
encodes-folded (c ∷ w) =
    ap (λ x. x ++ encodes (folded w)) (encode-folded c)
    ∙ ap (λ x. folded (encode c) ++ x) (encodes-folded w)
    ∙ sym (map-append folded_unit (encode c) (encodes w))

scalar-folded : (c : ℕ) → scalar c ≡ true → scalar (folded_unit c) ≡ true
scalar-folded c is = elim (cases_lt c 128) [
  | inl low ↦ low_scalar (folded_unit c) (omega (arith, folded_unit-ascii c low))
  | inr high ↦ ap scalar (folded_unit-past_ascii c high) ∙ is
]

pub scalars-folded : (w : List ℕ) → scalars w ≡ true → scalars (folded w) ≡ true
scalars-folded [] are = refl
scalars-folded (c ∷ w) are =
    let parts = both-true (scalar c) (scalars w) are in
    rw (scalar-folded c parts.0) (scalars-folded w parts.1)

pub IsUtf8-folded : (bs : List ℕ) → IsUtf8 bs → IsUtf8 (folded bs)
IsUtf8-folded bs u = (folded u.0, (scalars-folded u.0 u.1.0, encodes-folded u.0 ∙ ap folded u.1.1))

-- the characters of a folded text are those of the text, each folded
pub chars-folded : (bs : List ℕ) → IsUtf8 bs → chars (folded bs) ≡ folded (chars bs)
chars-folded bs u =
    ap chars (sym (encodes-folded u.0 ∙ ap folded u.1.1))
    ∙ chars-encodes (folded u.0) (scalars-folded u.0 u.1.0)
    ∙ ap folded (sym (chars-encodes u.0 u.1.0) ∙ ap chars u.1.1)

-- past the end both have a 0
pub get_or-folded : (w : List ℕ) (i : ℕ) → get_or (folded w) i 0 ≡ folded_unit (get_or w i 0)
unfolding folded_unit
get_or-folded w i = get_or-map folded_unit w i 0

-- a folded byte is inside a character exactly where the byte is
same_class : (b c : ℕ) → c ≡ folded_unit b → (128 ≤ c → 192 ≤ c) ↔ (128 ≤ b → 192 ≤ b)
same_class b c is = elim (cases_lt b 128) [
  | inl low ↦ ((λ h high. absurd (omega arith)), (λ h high. absurd (omega (arith, is, folded_unit-ascii b low))))
  | inr high ↦ ((λ h _. omega (arith, is, folded_unit-past_ascii b high, h)), (λ h _. omega (arith, is, folded_unit-past_ascii b high, h)))
]

-- a place is a boundary of the folded text exactly where it is one of the text
pub IsCharBoundary-folded : (bs : List ℕ) (i : ℕ) → IsCharBoundary (folded bs) i ↔ IsCharBoundary bs i
IsCharBoundary-folded bs i =
    let size : length (folded bs) ≡ length bs = length-map bs folded_unit in
    let same = same_class (get_or bs i 0) (get_or (folded bs) i 0) (get_or-folded bs i) in
    ((λ h. (omega (arith, h.0), λ inside. same.0 (h.1 (omega arith)))), (λ h. (omega (arith, h.0), λ inside. same.1 (h.1 (omega arith)))))

-- a text as it is read has as many units as the text
pub length-as_read : (folds : Bool) (w : List ℕ) → length (as_read folds w) ≡ length w
length-as_read true w = length-map w folded_unit
length-as_read false w = refl

-- what is read of two texts is read of both
pub as_read-append : (folds : Bool) (v w : List ℕ) → as_read folds (v ++ w) ≡ as_read folds v ++ as_read folds w
as_read-append true v w = map-append folded_unit v w
as_read-append false v w = refl

-- it has as many bytes
pub size-as_read : (width : ℕ → ℕ) → ((u : ℕ) → width (folded_unit u) ≡ width u) → (folds : Bool) (w : List ℕ) → size width (as_read folds w) ≡ size width w
size-as_read width same true w = size-folded width same w
size-as_read width same false w = refl
