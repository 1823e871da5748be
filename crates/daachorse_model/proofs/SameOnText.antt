-- On text, with text patterns none of which is empty, bytes and characters give the same overlapping matches.
use Rattle.std.proofs.Common.{◌≡◌, ◌≢◌, ℕ, ◌+◌, ◌/◌, ◌%◌, ◌<◌, ◌≤◌, Bool, true, false, cond, List, [], ◌∷◌, ◌++◌, length, map, refl, ap, sym, ◌∙◌, subst, arith, inl, inr, nat_lt, nat_eq, add-zero}
use Rattle.std.specs.Prelude.{take}
use Rattle.std.specs.Char.{len_utf8}
use Rattle.std.proofs.Math.Utf8.{encode, encodes, scalars}
use Rattle.std.proofs.lemmas.Str.{encodes-append, encodes_same, cons_from_encodes, length-encode, encodes-chars, scalars-chars, IsCharBoundary-at_seam}
use Rattle.std.proofs.lemmas.Bool.{ltb-true, eqb-true}
use Rattle.std.proofs.lemmas.Slice.Eq.{bytes_eq-Decides}
use Rattle.std.specs.Bool.{one_answer}
use Rattle.std.proofs.lemmas.List.{append_assoc, append-nil}
use Rattle.daachorse_model.specs.Units.{size, byte_width, char_width, same_text}
use Rattle.daachorse_model.specs.Dictionary.{Dictionary, values_of, in_bytes, is_proper_prefix, without_extensions, kept_registrations, dictionary}
use Rattle.std.specs.List.{list_any}
use Rattle.std.specs.Str.{IsUtf8, IsCharBoundary, chars}
use Rattle.daachorse_model.specs.declared.MatchKind.{MatchKind}
use Rattle.daachorse_model.specs.declared.MatchKind.TheVariants.{Standard, LeftmostLongest, LeftmostFirst}
use Rattle.daachorse_model.specs.Matches.{matches_of, ending_at, matches_after, at_each_end, overlapping, no_suffix}
use Rattle.daachorse_model.proofs.Suffixes.{size-append, size-bytes}
use Rattle.daachorse_model.proofs.Booleans.{either, both-true}
use Rattle.daachorse_model.proofs.Lists.{no_back}
use Rattle.daachorse_model.proofs.Earliest.{is_proper_prefix-append}

-- a byte inside a character
abbrev pub IsInner : ℕ → Type 0
IsInner b = (128 ≤ b) × (b < 192)

abbrev pub AllInner : List ℕ → Type 0
AllInner [] = Unit {0}
AllInner (b ∷ bs) = IsInner b × AllInner bs

AllInner-front : (x y : List ℕ) → AllInner (x ++ y) → AllInner x
AllInner-front [] y all = tt
AllInner-front (b ∷ x) y all = (all.0, AllInner-front x y all.1)

-- the first byte of a character, and the bytes inside it
pub record Spelled (c : ℕ) : Type 0 where
  pub first : ℕ
  pub inner : List ℕ
  pub is : encode c ≡ first ∷ inner
  pub leads : ¬ IsInner first
  pub follow : AllInner inner

inner_byte : (n : ℕ) → IsInner (128 + n % 64)
inner_byte n = (omega arith, omega arith)

pub spelled : (c : ℕ) → Spelled c
unfolding encode
spelled c = elim (either (nat_lt c 128)) [
  | inl one ↦ record { first = c; inner = []; is = rw one; leads = λ h. (let low : c < 128 = ltb-true c 128 one in omega arith); follow = tt }
  | inr more ↦ elim (either (nat_lt c 2048)) [
    | inl two ↦ record { first = 192 + c / 64; inner = (128 + c % 64) ∷ []; is = rw (more, two); leads = λ h. omega arith; follow = (inner_byte c, tt) }
    | inr more2 ↦ elim (either (nat_lt c 65536)) [
      | inl three ↦ record { first = 224 + c / 4096; inner = (128 + c / 64 % 64) ∷ (128 + c % 64) ∷ []; is = rw (more, more2, three); leads = λ h. omega arith; follow = (inner_byte (c / 64), (inner_byte c, tt)) }
      | inr four ↦ record { first = 240 + c / 262144; inner = (128 + c / 4096 % 64) ∷ (128 + c / 64 % 64) ∷ (128 + c % 64) ∷ []; is = rw (more, more2, four); leads = λ h. omega arith; follow = (inner_byte (c / 4096), (inner_byte (c / 64), (inner_byte c, tt))) }
    ]
  ]
]

-- no text begins with a byte inside a character
pub starts_inner : (p : List ℕ) (b : ℕ) (r : List ℕ) → IsInner b → encodes p ≢ b ∷ r
starts_inner [] b r in' e = cc
starts_inner (c ∷ p) b r in' e =
    let s = spelled c in
    let whole : s.first ∷ (s.inner ++ encodes p) ≡ b ∷ r = ap (λ x. x ++ encodes p) (sym s.is) ∙ e in
    let same : b ≡ s.first = cc in
    s.leads (subst IsInner same in')

-- no text ends inside a character
pub ends_inner : (t p front back : List ℕ) (c : ℕ) → encode c ≡ front ++ back → front ≢ [] → back ≢ [] → encodes p ≢ encodes t ++ front
ends_inner [] [] front back c cut some more e = some (sym e)
ends_inner [] (d ∷ p) front back c cut some more e =
    let whole : encodes (c ∷ []) ≡ encode d ++ ((encodes p ++ back) ++ []) =
    ap (λ x. x ++ []) (cut ∙ ap (λ x. x ++ back) (sym e)) ∙ ap (λ x. x ++ []) (append_assoc (encode d) (encodes p) back) ∙ append_assoc (encode d) (encodes p ++ back) [] in
    let k = cons_from_encodes (c ∷ []) ((encodes p ++ back) ++ []) d whole in
    let rest : k.0 ≡ [] = cc (k.1) in
    none_left (encodes p) back more (ap encodes (sym rest) ∙ k.2)
  where
    none_left : (x y : List ℕ) → y ≢ [] → [] ≡ (x ++ y) ++ [] → ⊥
    none_left [] [] ne h = ne refl
    none_left [] (b ∷ y) ne h = cc
    none_left (a ∷ x) y ne h = cc
ends_inner (d ∷ t) p front back c cut some more e =
    let k = cons_from_encodes p (encodes t ++ front) d (e ∙ append_assoc (encode d) (encodes t) front) in
    ends_inner t k.0 front back c cut some more k.2

same_text-encodes : (p w : List ℕ) → same_text (encodes p) (encodes w) ≡ same_text p w
same_text-encodes p w =
    one_answer (same_text (encodes p) (encodes w)) (same_text p w)
    ((λ h. encodes_same p w ((bytes_eq-Decides (encodes p) (encodes w)).0 h)), (λ e. (bytes_eq-Decides (encodes p) (encodes w)).1 (ap encodes e)))
    (bytes_eq-Decides p w)

pub values_of-in_bytes : {V : Type 0} (rs : List (List ℕ × V)) (w : List ℕ) → values_of (in_bytes rs) (encodes w) ≡ values_of rs w
values_of-in_bytes [] w = refl
values_of-in_bytes (r ∷ rs) w = rw (same_text-encodes r.0 w, values_of-in_bytes rs w)

pub values_of-no_text : {V : Type 0} (rs : List (List ℕ × V)) (x : List ℕ) → ((p : List ℕ) → encodes p ≢ x) → values_of (in_bytes rs) x ≡ []
values_of-no_text [] x none = refl
values_of-no_text (r ∷ rs) x none = elim (either (same_text (encodes r.0) x)) [
  | inl same ↦ absurd (none r.0 ((bytes_eq-Decides (encodes r.0) x).0 same))
  | inr other ↦ rw other (values_of-no_text rs x none)
]

module _ {V : Type 0} (rs : List (List ℕ × V)) (no_empty : values_of rs [] ≡ []) where
  abbrev pub by_bytes : Dictionary V
  by_bytes = values_of (in_bytes rs)

  no_matches : (s e : ℕ) (x : List ℕ) → by_bytes x ≡ [] → matches_of by_bytes s e x ≡ []
  no_matches s e x none = rw none

  -- no match starts inside a character
  skips_inner : (inner rest : List ℕ) (s e : ℕ) → AllInner inner → ending_at byte_width by_bytes s e (inner ++ rest) ≡ ending_at byte_width by_bytes (s + length inner) e rest
  skips_inner [] rest s e all = rw add-zero
  skips_inner (b ∷ inner) rest s e all =
      let none = no_matches s e (b ∷ (inner ++ rest)) (values_of-no_text rs (b ∷ (inner ++ rest)) (λ p. starts_inner p b (inner ++ rest) all.0)) in
      rw none (skips_inner inner rest (s + 1) e all.1 ∙ ap (λ n. ending_at byte_width by_bytes n e rest) (omega arith))

  one_char : (c : ℕ) (rest : List ℕ) (s e : ℕ)
      → ending_at byte_width by_bytes s e (encode c ++ rest) ≡ matches_of by_bytes s e (encode c ++ rest) ++ ending_at byte_width by_bytes (s + length (encode c)) e rest
  one_char c rest s e =
      let k = spelled c in
      rw (k.is) (ap (λ ms. matches_of by_bytes s e (k.first ∷ (k.inner ++ rest)) ++ ms)
      (skips_inner k.inner rest (s + 1) e k.follow ∙ ap (λ n. ending_at byte_width by_bytes n e rest) (omega arith)))

  -- at a character's end the matches are those of the characters
  pub ending_at-encodes : (t : List ℕ) (s e : ℕ) → ending_at byte_width by_bytes s e (encodes t) ≡ ending_at char_width (values_of rs) s e t
  ending_at-encodes [] s e = rw (values_of-in_bytes rs [])
  ending_at-encodes (c ∷ t) s e =
      one_char c (encodes t) s e
      ∙ ap (λ vs. map (λ v. record { start = s; end = e; value = v }) vs ++ ending_at byte_width by_bytes (s + length (encode c)) e (encodes t)) (values_of-in_bytes rs (c ∷ t))
      ∙ ap (λ n. matches_of (values_of rs) s e (c ∷ t) ++ ending_at byte_width by_bytes (s + n) e (encodes t)) (length-encode c)
      ∙ ap (λ ms. matches_of (values_of rs) s e (c ∷ t) ++ ms) (ending_at-encodes t (s + len_utf8 c) e)

  -- inside a character no match ends
  pub ending_at-inner : (t front back : List ℕ) (c s e : ℕ) → encode c ≡ front ++ back → front ≢ [] → back ≢ [] → ending_at byte_width by_bytes s e (encodes t ++ front) ≡ []
  ending_at-inner [] [] back c s e cut some more = absurd (some refl)
  ending_at-inner [] (f ∷ front) back c s e cut some more =
      let k = spelled c in
      let whole : k.first ∷ k.inner ≡ f ∷ (front ++ back) = sym k.is ∙ cut in
      let inner : k.inner ≡ front ++ back = cc in
      let none = no_matches s e (f ∷ front) (values_of-no_text rs (f ∷ front) (λ p. ends_inner [] p (f ∷ front) back c cut some more)) in
      let last = no_matches (s + 1 + length front) e [] (values_of-in_bytes rs [] ∙ no_empty) in
      rw none (ap (λ w. ending_at byte_width by_bytes (s + 1) e w) (sym (append-nil front))
      ∙ skips_inner front [] (s + 1) e (AllInner-front front back (subst AllInner inner k.follow)) ∙ last)
  ending_at-inner (d ∷ t) front back c s e cut some more =
      let text = encode d ++ (encodes t ++ front) in
      let none = no_matches s e text (values_of-no_text rs text (λ p h. ends_inner (d ∷ t) p front back c cut some more (h ∙ sym (append_assoc (encode d) (encodes t) front)))) in
      rw append_assoc (one_char d (encodes t ++ front) s e ∙ ap (λ ms. ms ++ ending_at byte_width by_bytes (s + length (encode d)) e (encodes t ++ front)) none
      ∙ ending_at-inner t front back c (s + length (encode d)) e cut some more)

module _ {A : Type 0} (f : List ℕ → List A) where
  -- f gives nothing inside c, where x was read before it
  abbrev IsQuiet : List ℕ → ℕ → Type 0
  IsQuiet x c = (front back : List ℕ) → encode c ≡ front ++ back → front ≢ [] → back ≢ [] → f (x ++ front) ≡ []

  inner_ends : (x y front back : List ℕ) (c : ℕ) → encode c ≡ front ++ back → front ≢ [] → IsQuiet x c
      → at_each_end f (x ++ front) (back ++ y) ≡ at_each_end f (x ++ encode c) y
  inner_ends x y front [] c cut some quiet = ap (λ r. at_each_end f (x ++ r) y) (sym (append-nil front) ∙ sym cut)
  inner_ends x y front (b ∷ back) c cut some quiet =
      rw (quiet front (b ∷ back) cut some (λ e. cc), append_assoc)
      (inner_ends x y (front ++ b ∷ []) back c (cut ∙ sym (append_assoc front (b ∷ []) back)) (λ e. let none = no_back front (b ∷ []) e in cc) quiet)

  at_each_end-char : (x y : List ℕ) (c : ℕ) → IsQuiet x c → at_each_end f x (encode c ++ y) ≡ f x ++ at_each_end f (x ++ encode c) y
  at_each_end-char x y c quiet =
      let k = spelled c in
      ap (λ w. at_each_end f x (w ++ y)) k.is ∙ ap (λ r. f x ++ r) (inner_ends x y (k.first ∷ []) k.inner c k.is (λ e. cc) quiet)

  at_each_end-encodes : (g : List ℕ → List A) → ((t : List ℕ) → f (encodes t) ≡ g t) → ((t : List ℕ) (c : ℕ) → IsQuiet (encodes t) c)
      → (t w : List ℕ) → at_each_end f (encodes t) (encodes w) ≡ at_each_end g t w
  at_each_end-encodes g same quiet t [] = same t
  at_each_end-encodes g same quiet t (c ∷ w) =
      let one : encodes t ++ encode c ≡ encodes (t ++ c ∷ []) = ap (λ r. encodes t ++ r) (sym (append-nil (encode c))) ∙ sym (encodes-append t (c ∷ [])) in
      at_each_end-char (encodes t) (encodes w) c (quiet t c)
      ∙ ap (λ x. f (encodes t) ++ at_each_end f x (encodes w)) one
      ∙ ap (λ r. f (encodes t) ++ r) (at_each_end-encodes g same quiet (t ++ c ∷ []) w)
      ∙ ap (λ r. r ++ at_each_end g (t ++ c ∷ []) w) (same t)

pub size-encodes : (t : List ℕ) → size byte_width (encodes t) ≡ size char_width t
size-encodes [] = refl
size-encodes (c ∷ t) = omega (arith, size-append byte_width (encode c) (encodes t), size-bytes (encode c), length-encode c, size-encodes t)

-- both automata give the same overlapping matches, and the same without suffixes
pub overlapping_same : {V : Type 0} (rs : List (List ℕ × V)) → values_of rs [] ≡ [] → (h : List ℕ)
    → overlapping byte_width (values_of (in_bytes rs)) (encodes h) ≡ overlapping char_width (values_of rs) h
overlapping_same rs no_empty h =
    at_each_end-encodes (matches_after byte_width (values_of (in_bytes rs))) (matches_after char_width (values_of rs))
    (λ t. ap (λ e. ending_at byte_width (values_of (in_bytes rs)) 0 e (encodes t)) (size-encodes t) ∙ ending_at-encodes rs no_empty t 0 (size char_width t))
    (λ t c front back cut some more. ending_at-inner rs no_empty t front back c 0 (size byte_width (encodes t ++ front)) cut some more)
    [] h

pub no_suffix_same : {V : Type 0} (rs : List (List ℕ × V)) → values_of rs [] ≡ [] → (h : List ℕ)
    → no_suffix byte_width (values_of (in_bytes rs)) (encodes h) ≡ no_suffix char_width (values_of rs) h
no_suffix_same rs no_empty h =
    at_each_end-encodes (λ t. take 1 (matches_after byte_width (values_of (in_bytes rs)) t)) (λ t. take 1 (matches_after char_width (values_of rs) t))
    (λ t. ap (λ e. take 1 (ending_at byte_width (values_of (in_bytes rs)) 0 e (encodes t))) (size-encodes t) ∙ ap (take 1) (ending_at-encodes rs no_empty t 0 (size char_width t)))
    (λ t c front back cut some more. ap (take 1) (ending_at-inner rs no_empty t front back c 0 (size byte_width (encodes t ++ front)) cut some more))
    [] h

-- ---- the kept registrations

proper-splits : (p q : List ℕ) → is_proper_prefix p q ≡ true → (z : List ℕ) × (q ≡ p ++ z) × (z ≢ [])
proper-splits p [] e = cc
proper-splits [] (u ∷ q) e = (u ∷ q, refl, λ h. cc)
proper-splits (a ∷ p) (u ∷ q) e =
    let parts = both-true (nat_eq a u) (is_proper_prefix p q) e in
    let rest = proper-splits p q parts.1 in
    let same : a ≡ u = eqb-true a u parts.0 in
    (rest.0, ap (λ r. r ∷ q) (sym same) ∙ ap (λ r. a ∷ r) rest.1, rest.2)

encodes-nonempty : (z : List ℕ) → z ≢ [] → encodes z ≢ []
encodes-nonempty [] ne e = ne refl
encodes-nonempty (c ∷ z) ne e = let s = spelled c in let bad : s.first ∷ (s.inner ++ encodes z) ≡ [] = ap (λ x. x ++ encodes z) (sym s.is) ∙ e in cc

-- a text that begins with a text in bytes begins with it in characters
text-splits : (p q z : List ℕ) → encodes q ≡ encodes p ++ z → (y : List ℕ) × (q ≡ p ++ y) × (encodes y ≡ z)
text-splits [] q z e = (q, refl, e)
text-splits (c ∷ p) q z e =
    let k = cons_from_encodes q (encodes p ++ z) c (e ∙ append_assoc (encode c) (encodes p) z) in
    let rest = text-splits p k.0 z k.2 in
    (rest.0, k.1 ∙ ap (λ r. c ∷ r) rest.1, rest.2)

is_proper_prefix-encodes : (p q : List ℕ) → is_proper_prefix (encodes p) (encodes q) ≡ is_proper_prefix p q
is_proper_prefix-encodes p q = elim (either (is_proper_prefix p q)) [
  | inl proper ↦
      let k = proper-splits p q proper in
      let whole : encodes q ≡ encodes p ++ encodes k.0 = ap encodes k.1 ∙ encodes-append p k.0 in
      rw whole (is_proper_prefix-append (encodes p) (encodes k.0) (encodes-nonempty k.0 k.2)) ∙ sym proper
  | inr other ↦ elim (either (is_proper_prefix (encodes p) (encodes q))) [
    | inl proper ↦
        let k = proper-splits (encodes p) (encodes q) proper in
        let y = text-splits p q k.0 k.1 in
        let some : y.0 ≢ [] = (λ e. k.2 (sym y.2 ∙ ap encodes e)) in
        absurd (let bad : true ≡ false = sym (is_proper_prefix-append p y.0 some) ∙ ap (is_proper_prefix p) (sym y.1) ∙ other in cc)
    | inr same ↦ same ∙ sym other
  ]
]

any_proper-encodes : (before : List (List ℕ)) (q : List ℕ) → list_any (λ p. is_proper_prefix p (encodes q)) (map encodes before) ≡ list_any (λ p. is_proper_prefix p q) before
any_proper-encodes [] q = refl
any_proper-encodes (p ∷ before) q = rw (is_proper_prefix-encodes p q, any_proper-encodes before q)

in_bytes-cond : {V : Type 0} (b : Bool) (r : List ℕ × V) (rs : List (List ℕ × V)) → cond b (in_bytes rs) ((encodes r.0, r.1) ∷ in_bytes rs) ≡ in_bytes (cond b rs (r ∷ rs))
in_bytes-cond true r rs = refl
in_bytes-cond false r rs = refl

without_extensions-in_bytes : {V : Type 0} (before : List (List ℕ)) (rs : List (List ℕ × V)) → without_extensions (map encodes before) (in_bytes rs) ≡ in_bytes (without_extensions before rs)
without_extensions-in_bytes before [] = refl
without_extensions-in_bytes before (r ∷ rs) =
    rw (any_proper-encodes before r.0, without_extensions-in_bytes (r.0 ∷ before) rs)
    (in_bytes-cond (list_any (λ p. is_proper_prefix p r.0) before) r (without_extensions (r.0 ∷ before) rs))

pub kept_registrations-in_bytes : {V : Type 0} (kind : MatchKind) (rs : List (List ℕ × V)) → kept_registrations kind (in_bytes rs) ≡ in_bytes (kept_registrations kind rs)
kept_registrations-in_bytes Standard rs = refl
kept_registrations-in_bytes LeftmostLongest rs = refl
kept_registrations-in_bytes LeftmostFirst rs = without_extensions-in_bytes [] rs

pub overlapping_texts : {V : Type 0} (kind : MatchKind) (rs : List (List ℕ × V)) (h : List ℕ) → dictionary kind rs [] ≡ []
    → overlapping byte_width (dictionary kind (in_bytes rs)) (encodes h) ≡ overlapping char_width (dictionary kind rs) h
overlapping_texts kind rs h no_empty =
    ap (λ r. overlapping byte_width (values_of r) (encodes h)) (kept_registrations-in_bytes kind rs) ∙ overlapping_same (kept_registrations kind rs) no_empty h

pub no_suffix_texts : {V : Type 0} (kind : MatchKind) (rs : List (List ℕ × V)) (h : List ℕ) → dictionary kind rs [] ≡ []
    → no_suffix byte_width (dictionary kind (in_bytes rs)) (encodes h) ≡ no_suffix char_width (dictionary kind rs) h
no_suffix_texts kind rs h no_empty =
    ap (λ r. no_suffix byte_width (values_of r) (encodes h)) (kept_registrations-in_bytes kind rs) ∙ no_suffix_same (kept_registrations kind rs) no_empty h

-- the last characters of some are some
pub scalars-back : (xs ys : List ℕ) → scalars (xs ++ ys) ≡ true → scalars ys ≡ true
scalars-back [] ys e = e
scalars-back (x ∷ xs) ys e = scalars-back xs ys (both-true _ (scalars (xs ++ ys)) e).1

-- a text may be cut behind any of its characters
pub cut_at : (text front back : List ℕ) → IsUtf8 text → chars text ≡ front ++ back → IsCharBoundary text (size char_width front)
cut_at text front back u parts =
    let at : length (encodes front) ≡ size char_width front = sym (size-bytes (encodes front)) ∙ size-encodes front in
    let whole : text ≡ encodes front ++ encodes back = sym (encodes-chars text u) ∙ ap encodes parts ∙ encodes-append front back in
    let later : scalars back ≡ true = scalars-back front back (ap scalars (sym parts) ∙ scalars-chars text u) in
    subst (IsCharBoundary text) at (IsCharBoundary-at_seam text (encodes front) (encodes back) whole (back, (later, refl)))
