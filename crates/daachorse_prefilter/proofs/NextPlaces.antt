-- The next position is the one place from which no place before it passes, and which passes or is the end.
use Rattle.std.proofs.Common.{◌≡◌, ℕ, zero, suc, ◌+◌, ◌-◌, ◌*◌, ◌<◌, ◌≤◌, Bool, true, false, cond, ◌&&◌, List, [], ◌∷◌, ◌++◌, length, drop, get_or, refl, sym, ap, ◌∙◌, subst, arith}
use Rattle.std.specs.Prelude.{nat_le, min}
use Rattle.std.proofs.lemmas.Bool.{false≢true}
use Rattle.std.proofs.lemmas.Bool.Decides.{nat_tests}
use Rattle.std.proofs.lemmas.List.{drop-drop, drop_all, length-append, length-drop}
use Rattle.daachorse_model.specs.Filter.{is_clear, pairs_pass, passes, first_passing, next_position}
use Rattle.daachorse_model.proofs.Booleans.{both-true}

and_assoc : (x y z : Bool) → (x && (y && z)) ≡ ((x && y) && z)
and_assoc true y z = refl
and_assoc false y z = refl

and_last : (x : Bool) → (x && true) ≡ (true && x)
and_last true = refl
and_last false = refl

-- one pair more
pub pairs_pass_more : (t : ℕ → ℕ) (j k n : ℕ) (w : List ℕ) → suc k < length w → j + k ≡ n → pairs_pass t j (suc k) w ≡ (pairs_pass t j k w && is_clear (t (get_or w k 0 * 256 + get_or w (suc k) 0)) n)
pairs_pass_more t j k n [] h e = absurd (omega arith)
pairs_pass_more t j k n (a ∷ []) h e = absurd (omega arith)
pairs_pass_more t j zero n (a ∷ b ∷ w) h e =
    let same : j ≡ n = omega arith in
    and_last (is_clear (t (a * 256 + b)) j) ∙ ap (λ i. is_clear (t (a * 256 + b)) i) same
pairs_pass_more t j (suc k) n (a ∷ b ∷ w) h e =
    ap (λ x. is_clear (t (a * 256 + b)) j && x) (pairs_pass_more t (suc j) k n (b ∷ w) (omega arith) (omega arith))
    ∙ and_assoc (is_clear (t (a * 256 + b)) j) (pairs_pass t (suc j) k (b ∷ w)) (is_clear (t (get_or (b ∷ w) k 0 * 256 + get_or (b ∷ w) (suc k) 0)) n)

and_keeps : (x p q : Bool) → (p ≡ true → q ≡ true) → (x && p) ≡ true → (x && q) ≡ true
and_keeps true p q f e = f e
and_keeps false p q f e = e

pairs_pass-append : (t : ℕ → ℕ) (j k : ℕ) (w r : List ℕ) → pairs_pass t j k w ≡ true → pairs_pass t j k (w ++ r) ≡ true
pairs_pass-append t j zero w r e = refl
pairs_pass-append t j (suc k) [] r e = absurd (false≢true e)
pairs_pass-append t j (suc k) (a ∷ []) r e = absurd (false≢true e)
pairs_pass-append t j (suc k) (a ∷ b ∷ w) r e =
    and_keeps (is_clear (t (a * 256 + b)) j) (pairs_pass t (suc j) k (b ∷ w)) (pairs_pass t (suc j) k (b ∷ (w ++ r)))
    (pairs_pass-append t (suc j) k (b ∷ w) r) e

le_more : (m a b : ℕ) → a ≤ b → nat_le m a ≡ true → nat_le m b ≡ true
le_more m a b h e = grind (arith, nat_tests)

-- a window that passes at the beginning of a text passes at the beginning of each longer one
pub passes-append : (t : ℕ → ℕ) (m : ℕ) (w r : List ℕ) → passes t m w ≡ true → passes t m (w ++ r) ≡ true
passes-append t m w r e =
    let parts = both-true (nat_le m (length w)) (pairs_pass t 0 (m - 1) w) e in
    let longer : length w ≤ length (w ++ r) = omega (arith, length-append w r) in
    rw (le_more m (length w) (length (w ++ r)) longer parts.0) (pairs_pass-append t 0 (m - 1) w r parts.1)

-- no window fits where fewer bytes are left
pub passes_short : (t : ℕ → ℕ) (m : ℕ) (w : List ℕ) → length w < m → passes t m w ≡ false
passes_short t m w h =
    let short : nat_le m (length w) ≡ false = grind (arith, nat_tests) in
    rw short refl

-- r is the first place of h from a place on that passes, or the end
pub record IsNextPlace (t : ℕ → ℕ) (m : ℕ) (h : List ℕ) (from r : ℕ) : Type 0 where
  pub after : from ≤ r
  pub inside : r ≤ length h
  pub misses : (k : ℕ) → from ≤ k → k < r → passes t m (drop k h) ≡ false
  pub passing : r < length h → passes t m (drop r h) ≡ true

first_is : (t : ℕ → ℕ) (m : ℕ) (w : List ℕ) (i n : ℕ) → n ≤ length w → ((k : ℕ) → k < n → passes t m (drop k w) ≡ false) → (n < length w → passes t m (drop n w) ≡ true) → i + n ≡ first_passing t m i w
first_is t m [] i n h f p = omega arith
first_is t m (b ∷ w) i zero h f p =
    let hit : passes t m (b ∷ w) ≡ true = p (omega arith) in
    let e : i + zero ≡ i = omega arith in
    rw hit e
first_is t m (b ∷ w) i (suc n) h f p =
    let miss : passes t m (b ∷ w) ≡ false = f 0 (omega arith) in
    let later = first_is t m w (i + 1) n (omega arith) (λ k l. f (suc k) (omega arith)) (λ l. p (omega arith)) in
    let e : i + suc n ≡ i + 1 + n = omega arith in
    rw miss (e ∙ later)

dropped_false : (t : ℕ → ℕ) (m : ℕ) (h : List ℕ) (from k n : ℕ) (b : Bool) → from + k ≡ n → passes t m (drop n h) ≡ b → passes t m (drop k (drop from h)) ≡ b
dropped_false t m h from k n b e p = rw drop-drop (rw e p)

-- from a place within the text
within : (t : ℕ → ℕ) (m : ℕ) (h : List ℕ) (from : ℕ) → from ≤ length h → next_position t m h from ≡ first_passing t m from (drop from h)
within t m h from low =
    let same : min from (length h) ≡ from = omega arith in
    ap (λ i. first_passing t m i (drop from h)) same

-- from a place past the text
pub next_position_past : (t : ℕ → ℕ) (m : ℕ) (h : List ℕ) (from : ℕ) → length h ≤ from → length h ≡ next_position t m h from
next_position_past t m h from past =
    let none : drop from h ≡ [] = drop_all from h past in
    let same : length h ≡ min from (length h) = omega arith in
    rw none same

pub next_position_is : (t : ℕ → ℕ) (m : ℕ) (h : List ℕ) (from r : ℕ) → IsNextPlace t m h from r → r ≡ next_position t m h from
next_position_is t m h from r is =
    let size : length (drop from h) ≡ length h - from = length-drop from h in
    let ends : from ≤ r = is.after in
    let most : r ≤ length h = is.inside in
    let e : r ≡ from + (r - from) = omega arith in
    e ∙ first_is t m (drop from h) from (r - from) (omega arith)
    (λ k l. dropped_false t m h from k (from + k) false refl (is.misses (from + k) (omega arith) (omega arith)))
    (λ l. dropped_false t m h from (r - from) r true (omega arith) (is.passing (omega arith)))
    ∙ sym (within t m h from (omega arith))

record IsFirst (t : ℕ → ℕ) (m : ℕ) (w : List ℕ) (i r : ℕ) : Type 0 where
  by : ℕ
  is : r ≡ i + by
  inside : by ≤ length w
  misses : (k : ℕ) → k < by → passes t m (drop k w) ≡ false
  passing : by < length w → passes t m (drop by w) ≡ true

first_passing-IsFirst : (t : ℕ → ℕ) (m : ℕ) (w : List ℕ) (i : ℕ) → IsFirst t m w i (first_passing t m i w)
first_passing-IsFirst t m [] i = record { by = 0; is = omega arith; inside = omega arith; misses = λ k h. absurd (omega arith); passing = λ h. absurd (omega arith) }
first_passing-IsFirst t m (b ∷ w) i = at (passes t m (b ∷ w)) refl (first_passing-IsFirst t m w (i + 1))
  where
    at : (v : Bool) → passes t m (b ∷ w) ≡ v → IsFirst t m w (i + 1) (first_passing t m (i + 1) w) → IsFirst t m (b ∷ w) i (cond v i (first_passing t m (i + 1) w))
    at true e later = record { by = 0; is = omega arith; inside = omega arith; misses = λ k h. absurd (omega arith); passing = λ h. e }
    at false e later = record {
      by = suc later.by;
      is = (let h = later.is in omega arith);
      inside = (let h = later.inside in omega arith);
      misses = misses_more later.by e later.misses;
      passing = λ h. later.passing (omega arith);
    }
      where
        misses_more : (n : ℕ) → passes t m (b ∷ w) ≡ false → ((k : ℕ) → k < n → passes t m (drop k w) ≡ false) → (k : ℕ) → k < suc n → passes t m (drop k (b ∷ w)) ≡ false
        misses_more n e f zero h = e
        misses_more n e f (suc k) h = f k (omega arith)

pub next_position-IsNextPlace : (t : ℕ → ℕ) (m : ℕ) (h : List ℕ) (from r : ℕ) → from ≤ length h → r ≡ next_position t m h from → IsNextPlace t m h from r
next_position-IsNextPlace t m h from r low e =
    let is = first_passing-IsFirst t m (drop from h) from in
    let size : length (drop from h) ≡ length h - from = length-drop from h in
    let end = is.is in
    let most = is.inside in
    let at : r ≡ from + is.by = e ∙ within t m h from low ∙ is.is in
    record {
      after = omega arith;
      inside = omega arith;
      misses = λ k l u. (
          let back : from + (k - from) ≡ k = omega arith in
          let P : ℕ → Type 0 = λ n. passes t m (drop n h) ≡ false in
          subst P back (rw drop-drop at (is.misses (k - from) (omega arith))));
      passing = λ l. (
          let P : ℕ → Type 0 = λ n. passes t m (drop n h) ≡ true in
          subst P (sym at) (rw drop-drop at (is.passing (omega arith))));
    }
