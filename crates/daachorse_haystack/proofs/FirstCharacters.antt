-- A text that is not empty begins with a character, whose first byte tells how many follow it.
use Rattle.std.proofs.Common.{◌≡◌, ℕ, ◌<◌, ◌≤◌, ◌⊎◌, true, List, [], ◌∷◌, ◌++◌, length, take, sym, ap, ◌∙◌, subst, inl, inr, arith}
use Rattle.std.proofs.Math.Seq.{take-append_seam}
use Rattle.std.proofs.Math.Utf8.{scalars, encode, encodes}
use Rattle.std.proofs.lemmas.Bool.{cases_lt}
use Rattle.std.proofs.lemmas.Bool.Decides.{nat_tests}
use Rattle.std.specs.Str.{IsUtf8, continuation_len}
use Rattle.daachorse_model.proofs.SameOnText.{IsInner, AllInner, spelled}

-- a first byte and the bytes after it
pub record FirstCharacter (first : ℕ) (bytes : List ℕ) : Type 0 where
  pub character : ℕ
  pub inner : List ℕ
  pub others : List ℕ
  pub scalar_values : scalars (character ∷ others) ≡ true
  pub is : encode character ≡ first ∷ inner
  pub follow : AllInner inner
  pub leads : ¬ IsInner first
  pub count : continuation_len first ≡ length inner
  pub parts : inner ++ encodes others ≡ bytes

-- the first byte of a character tells how many follow it
follow_count : (c first : ℕ) (inner : List ℕ) → encode c ≡ first ∷ inner → continuation_len first ≡ length inner
unfolding encode
follow_count c first inner e = by (cases_lt c 128) (cases_lt c 2048) (cases_lt c 65536)
  where
    by : (c < 128) ⊎ (128 ≤ c) → (c < 2048) ⊎ (2048 ≤ c) → (c < 65536) ⊎ (65536 ≤ c) → continuation_len first ≡ length inner
    by (inl h) _ _ = grind (arith, nat_tests, e)
    by (inr l) (inl h) _ = grind (arith, nat_tests, e)
    by (inr _) (inr l) (inl h) = grind (arith, nat_tests, e)
    by (inr _) (inr _) (inr l) = grind (arith, nat_tests, e)

pub first_character : (first : ℕ) (bytes : List ℕ) → IsUtf8 (first ∷ bytes) → FirstCharacter first bytes
first_character first bytes ([], (values, e)) = cc
first_character first bytes (c ∷ cs, (values, e)) =
    let s = spelled c in
    let whole : s.first ∷ (s.inner ++ encodes cs) ≡ first ∷ bytes = ap (λ w. w ++ encodes cs) (sym s.is) ∙ e in
    let same : s.first ≡ first = cc in
    let is : encode c ≡ first ∷ s.inner = s.is ∙ ap (λ b. b ∷ s.inner) same in
    record {
      character = c;
      inner = s.inner;
      others = cs;
      scalar_values = values;
      is = is;
      follow = s.follow;
      leads = subst (λ (b : ℕ). ¬ IsInner b) same s.leads;
      count = follow_count c first s.inner is;
      parts = (cc);
    }

-- a byte before the last of those inside is one of them
pub inner_at : (inner rest front : List ℕ) (b : ℕ) (later : List ℕ) → AllInner inner → inner ++ rest ≡ front ++ b ∷ later → length front < length inner → IsInner b
inner_at [] rest front b later all e h = absurd (omega arith)
inner_at (i ∷ inner) rest [] b later all e h = let same : i ≡ b = cc in subst IsInner same all.0
inner_at (i ∷ inner) rest (f ∷ front) b later all e h = inner_at inner rest front b later all.1 (cc) (omega arith)

-- two fronts of one length of one list are the same
pub same_front : (x y v w : List ℕ) → x ++ v ≡ y ++ w → length x ≡ length y → x ≡ y
same_front x y v w e n = sym (take-append_seam x v) ∙ ap (take (length x)) e ∙ ap (λ k. take k (y ++ w)) n ∙ take-append_seam y w
