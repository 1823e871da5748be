-- One run more: it joins the runs after the last whole group, or makes them a group, of which the gate then asks its bytes.
use Rattle.std.proofs.Common.{◌≡◌, ℕ, ◌+◌, ◌*◌, ◌/◌, ◌<◌, ◌≤◌, ◌⊎◌, List, [], ◌∷◌, ◌++◌, length, take, drop, sum, refl, sym, ap, ◌∙◌, subst, inl, inr, arith}
use Rattle.std.proofs.lemmas.Bool.{cases_lt}
use Rattle.std.proofs.lemmas.List.{length-drop, drop-append-le, take-append-le, take_all, drop_all, length_push}
use Rattle.std.proofs.lemmas.List.Sums.{sum_by-append}
use Rattle.daachorse_prefilter.specs.Gates.{group, rest, IsPaying}

-- how many whole groups there are
abbrev pub groups : List ℕ → ℕ
groups gains = length gains / 64

pub rest_length : (gains : List ℕ) → length (rest gains) + groups gains * 64 ≡ length gains
rest_length gains = let size = length-drop (groups gains * 64) gains in omega arith

pub sum-push : (xs : List ℕ) (x : ℕ) → sum (xs ++ x ∷ []) ≡ sum xs + x
sum-push xs x = sum_by-append (λ y. y) xs (x ∷ []) ∙ ap (λ n. sum xs + n) (let e : 0 + x ≡ x = omega arith in e)

-- a whole group stays as it was
old_group : (gains : List ℕ) (gain k : ℕ) → k < groups gains → group (gains ++ gain ∷ []) k ≡ group gains k
old_group gains gain k h =
    let size = length-drop (k * 64) gains in
    let fits : k * 64 ≤ length gains = omega arith in
    let whole : 64 ≤ length (drop (k * 64) gains) = omega arith in
    rw (drop-append-le, take-append-le) refl

-- while the last group isn't whole
pub record Joins (gains : List ℕ) (gain : ℕ) : Type 0 where
  pub runs : length (rest (gains ++ gain ∷ [])) ≡ length (rest gains) + 1
  pub skipped : sum (rest (gains ++ gain ∷ [])) ≡ sum (rest gains) + gain
  pub onward : IsPaying gains → IsPaying (gains ++ gain ∷ [])
  pub back : IsPaying (gains ++ gain ∷ []) → IsPaying gains

pub joins : (gains : List ℕ) (gain : ℕ) → length (rest gains) < 63 → Joins gains gain
joins gains gain h =
    let size = rest_length gains in
    let more = length_push gains gain in
    let same : groups (gains ++ gain ∷ []) ≡ groups gains = omega arith in
    let fits : groups gains * 64 ≤ length gains = omega arith in
    let is : rest (gains ++ gain ∷ []) ≡ rest gains ++ gain ∷ [] = ap (λ n. drop (n * 64) (gains ++ gain ∷ [])) same ∙ drop-append-le (groups gains * 64) gains (gain ∷ []) fits in
    record {
      runs = ap length is ∙ length_push (rest gains) gain;
      skipped = ap sum is ∙ sum-push (rest gains) gain;
      onward = λ pays k l. (
          let old : k < groups gains = omega arith in
          let P : List ℕ → Type 0 = λ xs. 512 ≤ sum xs in
          subst P (sym (old_group gains gain k old)) (pays k old));
      back = λ pays k l. (
          let P : List ℕ → Type 0 = λ xs. 512 ≤ sum xs in
          subst P (old_group gains gain k l) (pays k (omega arith)));
    }

-- where the run makes the last group whole
pub record Closes (gains : List ℕ) (gain : ℕ) : Type 0 where
  pub runs : 0 ≡ length (rest (gains ++ gain ∷ []))
  pub skipped : 0 ≡ sum (rest (gains ++ gain ∷ []))
  pub onward : IsPaying gains → 512 ≤ sum (rest gains) + gain → IsPaying (gains ++ gain ∷ [])
  pub back : IsPaying (gains ++ gain ∷ []) → IsPaying gains × (512 ≤ sum (rest gains) + gain)

pub closes : (gains : List ℕ) (gain : ℕ) → 63 ≤ length (rest gains) → Closes gains gain
closes gains gain h =
    let size = rest_length gains in
    let more = length_push gains gain in
    let same : groups (gains ++ gain ∷ []) ≡ groups gains + 1 = omega arith in
    let fits : groups gains * 64 ≤ length gains = omega arith in
    let none : rest (gains ++ gain ∷ []) ≡ [] = drop_all (groups (gains ++ gain ∷ []) * 64) (gains ++ gain ∷ []) (omega arith) in
    let short = length_push (rest gains) gain in
    let last : group (gains ++ gain ∷ []) (groups gains) ≡ rest gains ++ gain ∷ [] =
    ap (λ xs. take 64 xs) (drop-append-le (groups gains * 64) gains (gain ∷ []) fits) ∙ take_all 64 (rest gains ++ gain ∷ []) (omega arith) in
    let sum_last : sum (group (gains ++ gain ∷ []) (groups gains)) ≡ sum (rest gains) + gain = ap sum last ∙ sum-push (rest gains) gain in
    let P : List ℕ → Type 0 = λ xs. 512 ≤ sum xs in
    record {
      runs = sym (ap length none);
      skipped = sym (ap sum none);
      onward = λ pays enough k l. each k pays (omega arith) sum_last enough (cases_lt k (groups gains));
      back = λ pays. (
        λ k l. subst P (old_group gains gain k l) (pays k (omega arith)),
        (let own = pays (groups gains) (omega arith) in omega arith),
      );
    }
  where
    each : (k : ℕ) → IsPaying gains → k < groups gains + 1 → sum (group (gains ++ gain ∷ []) (groups gains)) ≡ sum (rest gains) + gain → 512 ≤ sum (rest gains) + gain → (k < groups gains) ⊎ (groups gains ≤ k) → 512 ≤ sum (group (gains ++ gain ∷ []) k)
    each k pays l sum_last enough (inl old) =
        let P : List ℕ → Type 0 = λ xs. 512 ≤ sum xs in
        subst P (sym (old_group gains gain k old)) (pays k old)
    each k pays l sum_last enough (inr new) =
        let same : k ≡ groups gains = omega arith in
        let e : sum (group (gains ++ gain ∷ []) k) ≡ sum (rest gains) + gain = ap (λ n. sum (group (gains ++ gain ∷ []) n)) same ∙ sum_last in
        omega arith
