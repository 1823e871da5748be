-- Counts of flags in a block: a block whose bases are all taken has no vacant element.
use Rattle.std.proofs.Common.{◌≡◌, ◌≢◌, ℕ, ◌+◌, ◌<◌, ◌≤◌, inl, inr, zero, suc, Bool, true, false, cond, List, get_or, arith, refl, ap, sym, ◌∙◌, subst}
use Rattle.std.proofs.lemmas.Bool.{cases_eq}
use Rattle.daachorse_placement.specs.FreeLists.{count_in}

bit : Bool → ℕ
bit b = cond b 1 0

bit-le : (b : Bool) → cond b 1 0 ≤ 1
bit-le true = omega arith
bit-le false = omega arith

bit-mono : (b d : Bool) → (b ≡ true → d ≡ true) → cond b 1 0 ≤ cond d 1 0
bit-mono true d h = subst (λ (v : Bool). 1 ≤ cond v 1 0) (sym (h refl)) (omega arith)
bit-mono false d h = omega arith

bit-one : (b : Bool) → 1 ≤ cond b 1 0 → b ≡ true
bit-one true h = refl
bit-one false h = absurd (omega arith)

pub count-le : (xs : List Bool) (a n : ℕ) → count_in xs a n ≤ n
count-le xs a zero = omega arith
count-le xs a (suc n) = let h = count-le xs a n in let b = bit-le (get_or xs (a + n) false) in omega (arith, h, b)

-- n of n are set: all are
pub count-full : (xs : List Bool) (a n k : ℕ) → n ≤ count_in xs a n → k < n → get_or xs (a + k) false ≡ true
count-full xs a zero k h lt = absurd (omega arith)
count-full xs a (suc n) k h lt =
    let le = count-le xs a n in
    let b = bit-le (get_or xs (a + n) false) in
    elim (cases_eq k n) [
      | inl e ↦ subst (λ (m : ℕ). get_or xs (a + m) false ≡ true) (sym e) (bit-one (get_or xs (a + n) false) (omega (arith, h, le, b)))
      | inr ne ↦ count-full xs a n k (omega (arith, h, le, b)) (omega arith)
    ]

pub count-all : (xs : List Bool) (a n : ℕ) → ((k : ℕ) → k < n → get_or xs (a + k) false ≡ true) → n ≤ count_in xs a n
count-all xs a zero h = omega arith
count-all xs a (suc n) h =
    let rest = count-all xs a n (λ k lt. h k (omega arith)) in
    subst (λ (v : Bool). suc n ≤ cond v 1 0 + count_in xs a n) (sym (h n (omega arith))) (omega (arith, rest))

pub count-mono : (xs ys : List Bool) (a n : ℕ) → ((k : ℕ) → a ≤ k → k < a + n → get_or xs k false ≡ true → get_or ys k false ≡ true) → count_in xs a n ≤ count_in ys a n
count-mono xs ys a zero h = omega arith
count-mono xs ys a (suc n) h =
    let rest = count-mono xs ys a n (λ k low lt. h k low (omega arith)) in
    let b = bit-mono (get_or xs (a + n) false) (get_or ys (a + n) false) (h (a + n) (omega arith) (omega arith)) in
    omega (arith, rest, b)

-- one more is set
pub count-more : (xs ys : List Bool) (a n j : ℕ) → ((k : ℕ) → get_or xs k false ≡ true → get_or ys k false ≡ true) → j < n → get_or xs (a + j) false ≡ false → get_or ys (a + j) false ≡ true → count_in xs a n + 1 ≤ count_in ys a n
count-more xs ys a zero j h lt off on = absurd (omega arith)
count-more xs ys a (suc n) j h lt off on = elim (cases_eq j n) [
  | inl e ↦
      let rest = count-mono xs ys a n (λ k low less. h k) in
      let x : cond (get_or xs (a + n) false) 1 0 ≡ 0 = ap {B = ℕ} (λ (v : Bool). cond v 1 0) (subst (λ (m : ℕ). get_or xs (a + m) false ≡ false) e off) in
      let y : cond (get_or ys (a + n) false) 1 0 ≡ 1 = ap {B = ℕ} (λ (v : Bool). cond v 1 0) (subst (λ (m : ℕ). get_or ys (a + m) false ≡ true) e on) in
      omega (arith, rest, x, y)
  | inr ne ↦
      let rest = count-more xs ys a n j h (omega arith) off on in
      let b = bit-mono (get_or xs (a + n) false) (get_or ys (a + n) false) (h (a + n)) in
      omega (arith, rest, b)
]

-- at most one more is set, the one at b
pub count-one : (xs ys : List Bool) (a n b : ℕ) → ((k : ℕ) → k ≢ b → get_or ys k false ≡ get_or xs k false) → count_in ys a n ≤ count_in xs a n + 1
count-one xs ys a zero b h = omega arith
count-one xs ys a (suc n) b h = elim (cases_eq (a + n) b) [
  | inl e ↦
      let rest = count-mono ys xs a n (λ k low less t. sym (h k (λ same. omega (arith, same, e, less))) ∙ t) in
      let b = bit-le (get_or ys (a + n) false) in
      omega (arith, rest, b)
  | inr ne ↦
      let rest = count-one xs ys a n b h in
      let b = ap {B = ℕ} (λ (v : Bool). cond v 1 0) (h (a + n) ne) in
      omega (arith, rest, b)
]

-- each of the n bases from a on is taken only if each element there is
pub none-vacant : (marks used : List Bool) (a n : ℕ) → count_in marks a n ≤ count_in used a n → ((k : ℕ) → k < n → get_or marks (a + k) false ≡ true) → (k : ℕ) → k < n → get_or used (a + k) false ≡ true
none-vacant marks used a n le all k lt = count-full used a n k (let h = count-all marks a n all in omega (arith, h, le)) lt
