-- The order of texts of characters is that of their UTF-8. The form of a character is a first byte, which tells how many follow, and then
-- the last digits of the character in base 64: so forms, whatever follows them, are in the order of their first bytes, and then of the digits in turn.
use Rattle.std.specs.Prelude.{ℕ, zero, suc, ◌+◌, ◌/◌, ◌%◌, ◌<◌, ◌≤◌, ◌⊎◌, ◌≡◌, List, [], ◌∷◌, ◌++◌, length, slice_index_or, encode_utf8_all, IsSortedByKey}
use Rattle.std.specs.Char.{encode_utf8}
use Rattle.std.specs.Ordering.{is_lt, nat_cmp, ordering_then}
use Rattle.std.specs.Cmp.Lexicographic.{slice_cmp}
use Rattle.std.proofs.Common.{arith, refl, sym, ap, ◌∙◌, inl, inr, length-append}
use Rattle.std.proofs.lemmas.Bool.{cases_lt}
use Rattle.std.proofs.lemmas.Bool.Decides.{nat_tests}
use Rattle.std.proofs.lemmas.List.{append-nil}
use Rattle.std.specs.declared.cmp.Ordering.{Ordering}
use Rattle.std.specs.declared.cmp.Ordering.TheVariants.{Less, Equal, Greater}

-- the first byte, where the least is k and n more follow
abbrev lead : ℕ → ℕ → ℕ → ℕ
lead k zero c = k + c
lead k (suc n) c = lead k n (c / 64)

-- the bytes that follow: the last n digits
abbrev digits : ℕ → ℕ → List ℕ
digits zero c = []
digits (suc n) c = digits n (c / 64) ++ (128 + c % 64) ∷ []

abbrev spelled : ℕ → ℕ → ℕ → List ℕ
spelled k n c = lead k n c ∷ digits n c

-- the four forms
data Form (c : ℕ) : Type 0 where
  one : c < 128 → encode_utf8 c ≡ spelled 0 0 c → Form c
  two : 128 ≤ c → c < 2048 → encode_utf8 c ≡ spelled 192 1 c → Form c
  three : 2048 ≤ c → c < 65536 → encode_utf8 c ≡ spelled 224 2 c → Form c
  four : 65536 ≤ c → encode_utf8 c ≡ spelled 240 3 c → Form c

form_of : (c : ℕ) → Form c
unfolding encode_utf8
form_of c = by (cases_lt c 128) (cases_lt c 2048) (cases_lt c 65536)
  where
    by : (c < 128) ⊎ (128 ≤ c) → (c < 2048) ⊎ (2048 ≤ c) → (c < 65536) ⊎ (65536 ≤ c) → Form c
    by (inl h) _ _ = one h (grind (arith, nat_tests))
    by (inr l) (inl h) _ = two l h (grind (arith, nat_tests))
    by (inr _) (inr l) (inl h) = three l h (grind (arith, nat_tests))
    by (inr _) (inr _) (inr l) = four l (grind (arith, nat_tests))

then_equal : (o : Ordering) → ordering_then o Equal ≡ o
then_equal Less = refl
then_equal Equal = refl
then_equal Greater = refl

then-then : (o p q : Ordering) → ordering_then (ordering_then o p) q ≡ ordering_then o (ordering_then p q)
then-then Less p q = refl
then-then Equal p q = refl
then-then Greater p q = refl

slice_cmp-append : (xs ys us vs : List ℕ) → length xs ≡ length ys → slice_cmp nat_cmp (xs ++ us) (ys ++ vs) ≡ ordering_then (slice_cmp nat_cmp xs ys) (slice_cmp nat_cmp us vs)
slice_cmp-append [] [] us vs e = refl
slice_cmp-append [] (y ∷ ys) us vs e = absurd (omega (arith, e))
slice_cmp-append (x ∷ xs) [] us vs e = absurd (omega (arith, e))
slice_cmp-append (x ∷ xs) (y ∷ ys) us vs e =
    ap (ordering_then (nat_cmp x y)) (slice_cmp-append xs ys us vs (omega (arith, e)))
    ∙ sym (then-then (nat_cmp x y) (slice_cmp nat_cmp xs ys) (slice_cmp nat_cmp us vs))

nat_cmp-above : (k a b : ℕ) → nat_cmp (k + a) (k + b) ≡ nat_cmp a b
nat_cmp-above k a b = grind (arith, nat_tests)

-- numbers are compared by what comes before the last digit, and then by that digit
digit_cmp : (a b : ℕ) → ordering_then (nat_cmp (a / 64) (b / 64)) (nat_cmp (128 + a % 64) (128 + b % 64)) ≡ nat_cmp a b
digit_cmp a b = grind (arith, nat_tests)

length-digits : (n a b : ℕ) → length (digits n a) ≡ length (digits n b)
length-digits zero a b = refl
length-digits (suc n) a b = omega (
  arith,
  length-append (digits n (a / 64)) ((128 + a % 64) ∷ []),
  length-append (digits n (b / 64)) ((128 + b % 64) ∷ []),
  length-digits n (a / 64) (b / 64),
)

spelled_cmp : (k n a b : ℕ) → slice_cmp nat_cmp (spelled k n a) (spelled k n b) ≡ nat_cmp a b
spelled_cmp k zero a b = then_equal (nat_cmp (k + a) (k + b)) ∙ nat_cmp-above k a b
spelled_cmp k (suc n) a b =
    slice_cmp-append (spelled k n (a / 64)) (spelled k n (b / 64)) ((128 + a % 64) ∷ []) ((128 + b % 64) ∷ []) (ap suc (length-digits n (a / 64) (b / 64)))
    ∙ ap (λ (o : Ordering). ordering_then o (slice_cmp nat_cmp ((128 + a % 64) ∷ []) ((128 + b % 64) ∷ []))) (spelled_cmp k n (a / 64) (b / 64))
    ∙ ap (ordering_then (nat_cmp (a / 64) (b / 64))) (then_equal (nat_cmp (128 + a % 64) (128 + b % 64)))
    ∙ digit_cmp a b

-- two characters with what follows them
module _ (a b : ℕ) (x y : List ℕ) where
  -- their order, and then that of what follows
  abbrev order : Ordering
  order = ordering_then (nat_cmp a b) (slice_cmp nat_cmp x y)

  -- where the first bytes differ, they decide
  below : (k n l m : ℕ) → a < b → lead k n a < lead l m b → order ≡ slice_cmp nat_cmp (spelled k n a ++ x) (spelled l m b ++ y)
  below k n l m h first = grind (arith, nat_tests)

  above : (k n l m : ℕ) → b < a → lead l m b < lead k n a → order ≡ slice_cmp nat_cmp (spelled k n a ++ x) (spelled l m b ++ y)
  above k n l m h first = grind (arith, nat_tests)

  alike : (k n : ℕ) → order ≡ slice_cmp nat_cmp (spelled k n a ++ x) (spelled k n b ++ y)
  alike k n = sym (
      slice_cmp-append (spelled k n a) (spelled k n b) x y (ap suc (length-digits n a b))
      ∙ ap (λ (o : Ordering). ordering_then o (slice_cmp nat_cmp x y)) (spelled_cmp k n a b)
      )

  forms_cmp : Form a → Form b → order ≡ slice_cmp nat_cmp (encode_utf8 a ++ x) (encode_utf8 b ++ y)
  forms_cmp (one h e) (one g d) = rw (e, d) (alike 0 0)
  forms_cmp (one h e) (two g g1 d) = rw (e, d) (below 0 0 192 1 (omega arith) (omega arith))
  forms_cmp (one h e) (three g g1 d) = rw (e, d) (below 0 0 224 2 (omega arith) (omega arith))
  forms_cmp (one h e) (four g d) = rw (e, d) (below 0 0 240 3 (omega arith) (omega arith))
  forms_cmp (two h h1 e) (one g d) = rw (e, d) (above 192 1 0 0 (omega arith) (omega arith))
  forms_cmp (two h h1 e) (two g g1 d) = rw (e, d) (alike 192 1)
  forms_cmp (two h h1 e) (three g g1 d) = rw (e, d) (below 192 1 224 2 (omega arith) (omega arith))
  forms_cmp (two h h1 e) (four g d) = rw (e, d) (below 192 1 240 3 (omega arith) (omega arith))
  forms_cmp (three h h1 e) (one g d) = rw (e, d) (above 224 2 0 0 (omega arith) (omega arith))
  forms_cmp (three h h1 e) (two g g1 d) = rw (e, d) (above 224 2 192 1 (omega arith) (omega arith))
  forms_cmp (three h h1 e) (three g g1 d) = rw (e, d) (alike 224 2)
  forms_cmp (three h h1 e) (four g d) = rw (e, d) (below 224 2 240 3 (omega arith) (omega arith))
  forms_cmp (four h e) (one g d) = rw (e, d) (above 240 3 0 0 (omega arith) (omega arith))
  forms_cmp (four h e) (two g g1 d) = rw (e, d) (above 240 3 192 1 (omega arith) (omega arith))
  forms_cmp (four h e) (three g g1 d) = rw (e, d) (above 240 3 224 2 (omega arith) (omega arith))
  forms_cmp (four h e) (four g d) = rw (e, d) (alike 240 3)

-- the order of characters is that of their forms
pub chars_cmp : (a b : ℕ) → nat_cmp a b ≡ slice_cmp nat_cmp (encode_utf8 a) (encode_utf8 b)
chars_cmp a b =
    sym (then_equal (nat_cmp a b))
    ∙ (forms_cmp a b [] [] (form_of a) (form_of b) ∙ (ap (λ f. slice_cmp nat_cmp f (encode_utf8 b ++ [])) (append-nil (encode_utf8 a)) ∙ ap (slice_cmp nat_cmp (encode_utf8 a)) (append-nil (encode_utf8 b))))

-- the empty text comes before each other
none_before : (b : ℕ) (y : List ℕ) → Form b → Less ≡ slice_cmp nat_cmp [] (encode_utf8 b ++ y)
none_before b y (one h e) = rw e refl
none_before b y (two h g e) = rw e refl
none_before b y (three h g e) = rw e refl
none_before b y (four h e) = rw e refl

none_after : (a : ℕ) (x : List ℕ) → Form a → Greater ≡ slice_cmp nat_cmp (encode_utf8 a ++ x) []
none_after a x (one h e) = rw e refl
none_after a x (two h g e) = rw e refl
none_after a x (three h g e) = rw e refl
none_after a x (four h e) = rw e refl

-- the order of texts is that of their bytes
pub texts_cmp : (v w : List ℕ) → slice_cmp nat_cmp v w ≡ slice_cmp nat_cmp (encode_utf8_all v) (encode_utf8_all w)
texts_cmp [] [] = refl
texts_cmp [] (b ∷ w) = none_before b (encode_utf8_all w) (form_of b)
texts_cmp (a ∷ v) [] = none_after a (encode_utf8_all v) (form_of a)
texts_cmp (a ∷ v) (b ∷ w) = ap (ordering_then (nat_cmp a b)) (texts_cmp v w) ∙ forms_cmp a b (encode_utf8_all v) (encode_utf8_all w) (form_of a) (form_of b)

-- what is sorted by its characters is sorted by its bytes
pub sorted_bytes : {V : Type 0} (entries : List (List ℕ × V)) → IsSortedByKey (λ r. r.0) (slice_cmp nat_cmp) entries → IsSortedByKey (λ r. encode_utf8_all r.0) (slice_cmp nat_cmp) entries
sorted_bytes entries sorted k d low high = sym (ap is_lt (texts_cmp (slice_index_or entries (k + 1) d).0 (slice_index_or entries k d).0)) ∙ sorted k d low high
