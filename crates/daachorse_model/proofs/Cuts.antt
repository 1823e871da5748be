-- A leftmost step leads to the cut of what was read: where it stops, either nothing occurs so far, or what occurs first is final, and so starts before each end that begins a key.
use Rattle.std.proofs.Common.{◌≡◌, ℕ, ◌+◌, ◌<◌, ◌≤◌, ◌⊎◌, inl, inr, List, [], ◌∷◌, ◌++◌, length, None, refl, sym, ap, ◌∙◌, subst, append_assoc, append-nil, length-append, arith}
use Rattle.daachorse_model.specs.Dictionary.{Dictionary}
use Rattle.daachorse_model.specs.Prefixes.{IsKey, IsPrefix, IsLong, IsCut, Occurs, StartsBefore}
use Rattle.daachorse_model.specs.Best.{IsBest, IsBestSoFar, IsFinalAt, LeftSteps}
use Rattle.daachorse_model.proofs.Occurrences.{occurs_length, occurs_more}

-- no key begins w
abbrev NoneBegins : {V : Type 0} → Dictionary V → List ℕ → Type 0
NoneBegins K w = (k b : List ℕ) → w ≡ k ++ b → ¬ IsKey K k

-- the key k begins w, and no longer one does
record IsLongestIn {V : Type 0} (K : Dictionary V) (w k : List ℕ) : Type 0 where
  rest : List ℕ
  parts : w ≡ k ++ rest
  key : IsKey K k
  longest : (l c : List ℕ) → w ≡ l ++ c → IsKey K l → length l ≤ length k

key_or_not : {V : Type 0} (K : Dictionary V) (w : List ℕ) → (¬ IsKey K w) ⊎ IsKey K w
key_or_not {V} K w = by (K w)
  where
    by : (vs : List V) → (¬ (¬ (vs ≡ []))) ⊎ (¬ (vs ≡ []))
    by [] = inl (λ key. key refl)
    by (v ∷ vs) = inr (λ none. cc)

longest_or_none : {V : Type 0} (K : Dictionary V) (w : List ℕ) → NoneBegins K w ⊎ ((k : List ℕ) × IsLongestIn K w k)
longest_or_none K [] = elim (key_or_not K []) [
  | inl none ↦ inl (λ k b e key. out none k b e key)
  | inr key ↦ inr ([], record { rest = []; parts = refl; key = key; longest = λ l c e _. fits l c e })
]
  where
    out : (¬ IsKey K []) → (k b : List ℕ) → [] ≡ k ++ b → ¬ IsKey K k
    out none [] b e key = none key
    out none (x ∷ k) b e key = cc

    fits : (l c : List ℕ) → [] ≡ l ++ c → length l ≤ 0
    fits [] c e = omega arith
    fits (x ∷ l) c e = cc
longest_or_none K (u ∷ w) = elim (longest_or_none (λ x. K (u ∷ x)) w) [
  | inr found ↦
      inr (
        u ∷ found.0,
        record {
          rest = found.1.rest;
          parts = ap (λ x. u ∷ x) found.1.parts;
          key = found.1.key;
          longest = λ l c e key. longer found.0 found.1 l c e key;
        },
      )
  | inl none ↦
      elim (key_or_not K []) [
        | inl empty ↦ inl (λ k b e key. out empty none k b e key)
        | inr key ↦ inr ([], record { rest = u ∷ w; parts = refl; key = key; longest = λ l c e is. only none l c e is })
      ]
]
  where
    later : (x : ℕ) (l c : List ℕ) → u ∷ w ≡ x ∷ (l ++ c) → IsKey K (x ∷ l) → IsKey K (u ∷ l)
    later x l c e key = let same : x ≡ u = cc in let P : ℕ → Type 0 = λ y. IsKey K (y ∷ l) in subst P same key

    longer : (k : List ℕ) → IsLongestIn (λ x. K (u ∷ x)) w k → (l c : List ℕ) → u ∷ w ≡ l ++ c → IsKey K l → length l ≤ length (u ∷ k)
    longer k found [] c e key = omega arith
    longer k found (x ∷ l) c e key = omega (arith, found.longest l c (cc) (later x l c e key))

    out : (¬ IsKey K []) → NoneBegins (λ x. K (u ∷ x)) w → (k b : List ℕ) → u ∷ w ≡ k ++ b → ¬ IsKey K k
    out empty none [] b e key = empty key
    out empty none (x ∷ k) b e key = none k b (cc) (later x k b e key)

    only : NoneBegins (λ x. K (u ∷ x)) w → (l c : List ℕ) → u ∷ w ≡ l ++ c → IsKey K l → length l ≤ 0
    only none [] c e key = omega arith
    only none (x ∷ l) c e key = absurd (none l c (cc) (later x l c e key))

module _ {V : Type 0} (K : Dictionary V) where
  -- the longest key that begins w is the best of w
  IsBest-begins : (w k : List ℕ) → IsLongestIn K w k → IsBest K w [] k
  IsBest-begins w k found = record { rest = found.rest; occurs = record { parts = found.parts; key = found.key }; least = λ b l c o. by b l c o }
    where
      by : (b l c : List ℕ) → Occurs K w b l c → (0 < length b) ⊎ ((0 ≡ length b) × (length l ≤ length k))
      by [] l c o = inr (refl, found.longest l c o.parts o.key)
      by (x ∷ b) l c o = inl (omega arith)

  -- an occurrence behind the first unit
  occurs_behind : (u : ℕ) (w : List ℕ) (x : ℕ) (b l c : List ℕ) → Occurs K (u ∷ w) (x ∷ b) l c → Occurs K w b l c
  occurs_behind u w x b l c o = record { parts = (let e : u ∷ w ≡ x ∷ (b ++ (l ++ c)) = o.parts in cc); key = o.key }

  -- where no key begins u ∷ w, the best of w is that of u ∷ w
  IsBest-later : (u : ℕ) (w a k : List ℕ) → NoneBegins K (u ∷ w) → IsBest K w a k → IsBest K (u ∷ w) (u ∷ a) k
  IsBest-later u w a k none is = record {
    rest = is.rest;
    occurs = record { parts = ap (λ x. u ∷ x) is.occurs.parts; key = is.occurs.key };
    least = λ b l c o. by b l c o;
  }
    where
      by : (b l c : List ℕ) → Occurs K (u ∷ w) b l c → (length (u ∷ a) < length b) ⊎ ((length (u ∷ a) ≡ length b) × (length l ≤ length k))
      by [] l c o = absurd (none l c o.parts o.key)
      by (x ∷ b) l c o = elim (is.least b l c (occurs_behind u w x b l c o)) [ inl p ↦ inl (omega arith) | inr q ↦ inr (omega (arith, q.0), q.1) ]

  nothing_later : (u : ℕ) (w : List ℕ) → NoneBegins K (u ∷ w) → IsBestSoFar K w None → IsBestSoFar K (u ∷ w) None
  nothing_later u w none clear [] k b o = none k b o.parts o.key
  nothing_later u w none clear (x ∷ a) k b o = clear a k b (occurs_behind u w x a k b o)

  nothing_in_nil : NoneBegins K [] → IsBestSoFar K [] None
  nothing_in_nil none [] k b o = none k b o.parts o.key
  nothing_in_nil none (x ∷ a) k b o = let e : [] ≡ x ∷ (a ++ (k ++ b)) = o.parts in cc

  -- something occurs first in w, or nothing occurs
  best_or_none : (w : List ℕ) → IsBestSoFar K w None ⊎ ((a : List ℕ) × (k : List ℕ) × IsBest K w a k)
  best_or_none [] = elim (longest_or_none K []) [ inl none ↦ inl (nothing_in_nil none) | inr found ↦ inr ([], found.0, IsBest-begins [] found.0 found.1) ]
  best_or_none (u ∷ w) = elim (longest_or_none K (u ∷ w)) [
    | inr found ↦ inr ([], found.0, IsBest-begins (u ∷ w) found.0 found.1)
    | inl none ↦ elim (best_or_none w) [ inl clear ↦ inl (nothing_later u w none clear) | inr best ↦ inr (u ∷ best.0, best.1, IsBest-later u w best.0 best.1 none best.2) ]
  ]

  -- a best that is final starts before each end that begins a key: what that end may grow to would start as early, and be longer
  starts_before : (w : List ℕ) (u : ℕ) (a k : List ℕ) → IsFinalAt K w u → IsBest K w a k → (s : List ℕ) → IsLong K (w ++ u ∷ []) s → StartsBefore K (w ++ u ∷ []) s
  starts_before w u a k final best s long =
      (a, k, best.rest ++ u ∷ [], occurs_more K w a k best.rest (u ∷ []) best.occurs, before long.begins)
    where
      whole : length long.ends.0 + length s ≡ length w + 1
      whole = omega (arith, ap length long.ends.1, length-append long.ends.0 s, length-append w (u ∷ []))

      before : IsPrefix K s → length a + length s < length (w ++ u ∷ [])
      before (inl empty) = omega (arith, ap length empty, occurs_length K w a k best.rest best.occurs, length-append w (u ∷ []))
      before (inr (x, key)) =
          let front = long.ends.0 in
          let parts : w ++ u ∷ x ≡ front ++ ((s ++ x) ++ []) =
          sym (append_assoc w (u ∷ []) x) ∙ ap (λ y. y ++ x) (sym long.ends.1) ∙ append_assoc front s x ∙ ap (λ y. front ++ y) (sym (append-nil (s ++ x))) in
          elim ((final.best a k x best).least front (s ++ x) [] (record { parts = parts; key = key })) [
            | inl p ↦ omega (arith, whole, length-append w (u ∷ []))
            | inr q ↦ absurd (omega (arith, q.0, q.1, whole, length-append s x, occurs_length K w a k best.rest best.occurs))
          ]

  pub LeftSteps-IsCut : (w : List ℕ) (u : ℕ) (t : List ℕ) → LeftSteps K w u t → IsCut K (w ++ u ∷ []) t
  LeftSteps-IsCut w u t (inl on) = inl (on.0.long, on.0.none)
  LeftSteps-IsCut w u t (inr (empty, final)) = elim (best_or_none w) [
    | inl clear ↦
        let steady = (final.none clear).0 in
        let P : List ℕ → Type 0 = λ x. IsCut K (w ++ u ∷ []) x in
        subst P (sym empty) (inl (steady.long, steady.none))
    | inr best ↦ inr (empty, starts_before w u best.0 best.1 final best.2)
  ]
