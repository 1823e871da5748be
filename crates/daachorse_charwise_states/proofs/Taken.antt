-- Going over a table one marks each code that is taken: a code that is marked already, or has no mark, is one of no coding.
use Rattle.std.proofs.Common.{◌≡◌, ◌≢◌, ℕ, zero, suc, ◌+◌, ◌<◌, ◌≤◌, ◌==◌, Bool, true, false, List, length, get_or, set, replicate, Option, Some, None, refl, sym, ap, ◌∙◌, ◌⊎◌, inl, inr, arith}
use Rattle.std.proofs.lemmas.Bool.{cases_lt}
use Rattle.std.proofs.lemmas.Option.{same_Some, slice_get_within}
use Rattle.std.proofs.lemmas.List.{get_or-set_same, get_or-set_other, length-set}
use Rattle.std.specs.Prelude.{slice_get}
use Rattle.daachorse_charwise_states.specs.Codings.{Coding, IsCoding, code_of, entry_code}

-- The codes of the code points below n are marked, and no other. They are below the size of the alphabet, and no two are the same.
pub record AreTaken (coding : Coding) (n : ℕ) (taken : List Bool) : Type 0 where
  pub size : length taken ≡ coding.alphabet_size
  pub below : (c k : ℕ) → c < n → code_of coding c ≡ Some k → k < coding.alphabet_size
  pub apart : (c d k : ℕ) → c < n → d < n → code_of coding c ≡ Some k → code_of coding d ≡ Some k → c ≡ d
  pub marked : (c k : ℕ) → c < n → code_of coding c ≡ Some k → get_or taken k false ≡ true
  pub from : (k : ℕ) → get_or taken k false ≡ true → (c : ℕ) × (c < n) × (code_of coding c ≡ Some k)

-- before the first code point
none_marked : (n k : ℕ) → get_or (replicate n false) k false ≡ false
none_marked zero k = refl
none_marked (suc n) zero = refl
none_marked (suc n) (suc k) = none_marked n k

-- a code point up to n is before it, or is it
before_or : (n c : ℕ) → c < n + 1 → (c < n) ⊎ (c ≡ n)
before_or n c less = go (cases_lt c n)
  where
    go : (c < n) ⊎ (n ≤ c) → (c < n) ⊎ (c ≡ n)
    go (inl low) = inl low
    go (inr high) = inr (omega (arith, less, high))

module _ (coding : Coding) (n k : ℕ) (old : List Bool) (code : code_of coding n ≡ Some k) (so : AreTaken coding n old) where
  own : (c j : ℕ) → c ≡ n → code_of coding c ≡ Some j → j ≡ k
  own c j here e = same_Some j k (sym e ∙ (ap (code_of coding) here ∙ code))

  -- one more code point, whose code is free and below the size of the alphabet
  pub taken_more : get_or old k false ≡ false → k < coding.alphabet_size → AreTaken coding (n + 1) (set old k true)
  taken_more free low = record {
    size = length-set old k true ∙ so.size;
    below = λ c j less e. at_below c j e (before_or n c less);
    apart = λ c d j less fits e f. at_apart c d j e f (before_or n c less) (before_or n d fits);
    marked = λ c j less e. at_code c j e (before_or n c less) (j == k) refl;
    from = λ j e. at_mark j e (j == k) refl;
  }
    where
      inside : k < length old
      inside = omega (arith, low, so.size)

      at_below : (c j : ℕ) → code_of coding c ≡ Some j → (c < n) ⊎ (c ≡ n) → j < coding.alphabet_size
      at_below c j e (inl less) = so.below c j less e
      at_below c j e (inr here) = let same : j ≡ k = own c j here e in omega (arith, same, low)

      at_apart : (c d j : ℕ) → code_of coding c ≡ Some j → code_of coding d ≡ Some j → (c < n) ⊎ (c ≡ n) → (d < n) ⊎ (d ≡ n) → c ≡ d
      at_apart c d j e f (inl less) (inl fits) = so.apart c d j less fits e f
      at_apart c d j e f (inl less) (inr here) =
          let same : j ≡ k = own d j here f in
          let is : get_or old j false ≡ true = so.marked c j less e in
          let not : get_or old j false ≡ false = ap (λ i. get_or old i false) same ∙ free in
          absurd (cc)
      at_apart c d j e f (inr here) (inl fits) =
          let same : j ≡ k = own c j here e in
          let is : get_or old j false ≡ true = so.marked d j fits f in
          let not : get_or old j false ≡ false = ap (λ i. get_or old i false) same ∙ free in
          absurd (cc)
      at_apart c d j e f (inr here) (inr there) = here ∙ sym there

      at_code : (c j : ℕ) → code_of coding c ≡ Some j → (c < n) ⊎ (c ≡ n) → (b : Bool) → (j == k) ≡ b → get_or (set old k true) j false ≡ true
      at_code c j e at true test =
          let same : j ≡ k = grind (arith, test) in
          ap (λ i. get_or (set old k true) i false) same ∙ get_or-set_same old k true false inside
      at_code c j e (inl less) false test =
          let other : j ≢ k = grind (arith, test) in
          get_or-set_other old k j true false other ∙ so.marked c j less e
      at_code c j e (inr here) false test =
          let other : j ≢ k = grind (arith, test) in
          absurd (other (own c j here e))

      at_mark : (j : ℕ) → get_or (set old k true) j false ≡ true → (b : Bool) → (j == k) ≡ b → (c : ℕ) × (c < n + 1) × (code_of coding c ≡ Some j)
      at_mark j e true test =
          let same : j ≡ k = grind (arith, test) in
          (n, omega arith, code ∙ ap Some (sym same))
      at_mark j e false test =
          let other : j ≢ k = grind (arith, test) in
          let found = so.from j (sym (get_or-set_other old k j true false other) ∙ e) in
          (found.0, (let low : found.0 < n = found.1 in omega (arith, low)), found.2)

  -- a code that an earlier code point has
  pub taken_twice : get_or old k false ≡ true → IsCoding coding → ⊥
  taken_twice is right =
      let found = so.from k is in
      let low : found.0 < n = found.1 in
      let same : found.0 ≡ n = right.injective found.0 n k found.2 code in
      omega (arith, low, same)

-- one more code point, which has no code
pub taken_left : (coding : Coding) (n : ℕ) (old : List Bool) → code_of coding n ≡ None → AreTaken coding n old → AreTaken coding (n + 1) old
taken_left coding n old none so = record {
  size = so.size;
  below = λ c k less e. so.below c k (earlier c k less e) e;
  apart = λ c d k less fits e f. so.apart c d k (earlier c k less e) (earlier d k fits f) e f;
  marked = λ c k less e. so.marked c k (earlier c k less e) e;
  from = λ k e. (let found = so.from k e in (found.0, (let low : found.0 < n = found.1 in omega (arith, low)), found.2));
}
  where
    earlier : (c k : ℕ) → c < n + 1 → code_of coding c ≡ Some k → c < n
    earlier c k less e = go (before_or n c less)
      where
        go : (c < n) ⊎ (c ≡ n) → c < n
        go (inl low) = low
        go (inr here) = absurd (let both : None ≡ Some k = sym none ∙ (ap (code_of coding) (sym here) ∙ e) in cc)

-- behind the last code point
pub entry_some : (o : Option ℕ) (k : ℕ) → entry_code o ≡ Some k → (n : ℕ) × (o ≡ Some n)
entry_some None k e = absurd (cc)
entry_some (Some n) k e = (n, refl)

pub taken_all : (coding : Coding) (taken : List Bool) → AreTaken coding (length coding.table) taken → IsCoding coding
taken_all coding taken so = record {
  below = λ c k e. so.below c k (inside c k e) e;
  injective = λ c d k e f. so.apart c d k (inside c k e) (inside d k f) e f;
}
  where
    inside : (c k : ℕ) → code_of coding c ≡ Some k → c < length coding.table
    inside c k e = let entry = entry_some (slice_get coding.table c) k e in slice_get_within coding.table c entry.0 entry.1

-- a code that is not below the size of the alphabet
pub taken_past : (coding : Coding) (n k : ℕ) → code_of coding n ≡ Some k → coding.alphabet_size ≤ k → IsCoding coding → ⊥
taken_past coding n k code high right = let low : k < coding.alphabet_size = right.below n k code in omega (arith, low, high)
