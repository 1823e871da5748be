-- Units at which a key begins take turns: none for a unit that is passed over, since no key begins at it.
use Rattle.std.proofs.Common.{◌≡◌, ℕ, ◌+◌, ◌<◌, ◌≤◌, Bool, true, false, cond, ◌&&◌, List, [], ◌∷◌, ◌++◌, length, refl, sym, ap, subst, append_assoc, append-nil, arith}
use Rattle.daachorse_haystack.specs.Filters.{count_passing}
use Rattle.daachorse_model.specs.Best.{NoneStarts}
use Rattle.daachorse_model.specs.Prefixes.{IsKey}
use Rattle.daachorse_search.specs.Views.{AutomatonView}
use Rattle.daachorse_streams.specs.Streamed.{LooksAtKeys}

abbrev one_if : Bool → ℕ
one_if b = cond b 1 0

at_most : (p q : Bool) → one_if (p && q) ≤ one_if p
at_most true true = omega arith
at_most true false = omega arith
at_most false q = omega arith

untold : (p q : Bool) → (q ≡ true → ⊥) → one_if (p && q) ≡ 0
untold true true told = absurd (told refl)
untold true false told = refl
untold false q told = refl

module _ (test : List ℕ → Bool) (has_label : ℕ → Bool) where
  count_first : (whole first more : List ℕ) → count_passing test has_label whole first ≤ count_passing test has_label whole (first ++ more)
  count_first whole [] more = omega arith
  count_first [] (p ∷ first) more = omega arith
  count_first (u ∷ whole) (p ∷ first) more = omega (arith, count_first whole first more)

  count_more : (first : List ℕ) (u : ℕ) (rest : List ℕ)
      → count_passing test has_label (first ++ u ∷ rest) (first ++ u ∷ [])
      ≤ count_passing test has_label (first ++ u ∷ rest) first + cond (has_label u) 1 0
  count_more [] u rest = omega (arith, at_most (has_label u) (test (u ∷ rest)))
  count_more (v ∷ first) u rest = omega (arith, count_more first u rest)

  count_none : (first : List ℕ) (u : ℕ) (rest : List ℕ) → (test (u ∷ rest) ≡ true → ⊥)
      → count_passing test has_label (first ++ u ∷ rest) (first ++ u ∷ []) ≡ count_passing test has_label (first ++ u ∷ rest) first
  count_none [] u rest none = omega (arith, untold (has_label u) (test (u ∷ rest)) none)
  count_none (v ∷ first) u rest none = omega (arith, count_none first u rest none)

module _ {V : Type 0} (view : AutomatonView V) where
  pub looks-as : {h g a b : List ℕ} {turns : ℕ} → h ≡ g → a ≡ b → LooksAtKeys view h a turns → LooksAtKeys view g b turns
  looks-as {h} {g} {a} {b} {turns} same also looks =
      let H : List ℕ → Type 0 = λ x. LooksAtKeys view x a turns in
      let A : List ℕ → Type 0 = λ x. LooksAtKeys view g x turns in
      subst A also (subst H same looks)

  -- fewer units take no more turns
  pub looks-first : (h first more : List ℕ) (turns : ℕ) → LooksAtKeys view h (first ++ more) turns → LooksAtKeys view h first turns
  looks-first h first more turns looks test tells =
      omega (arith, looks test tells, count_first test view.has_label h first more)

  -- one more unit took a turn, if it has a label
  pub looks-more : (first : List ℕ) (u : ℕ) (rest : List ℕ) (old new : ℕ) → old + cond (view.has_label u) 1 0 ≤ new
      → LooksAtKeys view (first ++ u ∷ rest) first old → LooksAtKeys view (first ++ u ∷ rest) (first ++ u ∷ []) new
  looks-more first u rest old new least looks test tells =
      omega (arith, looks test tells, count_more test view.has_label first u rest, least)

  -- one more unit took none, and no key begins at it
  pub looks-none : (first : List ℕ) (u : ℕ) (rest : List ℕ) (turns : ℕ)
      → ((k r : List ℕ) → IsKey view.content k → 0 < length k → u ∷ rest ≡ k ++ r → ⊥)
      → LooksAtKeys view (first ++ u ∷ rest) first turns → LooksAtKeys view (first ++ u ∷ rest) (first ++ u ∷ []) turns
  looks-none first u rest turns none looks test tells =
      let silent : test (u ∷ rest) ≡ true → ⊥ = λ told. (let key = tells (u ∷ rest) told in none key.0 key.1 key.2 key.3 key.4) in
      omega (arith, looks test tells, count_none test view.has_label first u rest silent)

  -- more units took none, and no key begins in them
  pub looks-over : (first over later : List ℕ) (turns : ℕ) → NoneStarts view.content (length over) (over ++ later)
      → LooksAtKeys view (first ++ (over ++ later)) first turns → LooksAtKeys view (first ++ (over ++ later)) (first ++ over) turns
  looks-over first [] later turns none looks = looks-as refl (sym (append-nil first)) looks
  looks-over first (u ∷ over) later turns none looks =
      let rest : List ℕ = over ++ later in
      let here : (k r : List ℕ) → IsKey view.content k → 0 < length k → u ∷ rest ≡ k ++ r → ⊥ =
      λ k r key some cut. (let bad = none [] k r (record { parts = cut; key = key }) in omega (arith, bad)) in
      let one = looks-none first u rest turns here looks in
      let whole : (first ++ u ∷ []) ++ rest ≡ first ++ u ∷ rest = append_assoc first (u ∷ []) rest in
      let next : NoneStarts view.content (length over) rest =
      λ a k b o. (let more = none (u ∷ a) k b (record { parts = ap (λ x. u ∷ x) o.parts; key = o.key }) in omega (arith, more)) in
      looks-as whole (append_assoc first (u ∷ []) over) (looks-over (first ++ u ∷ []) over later turns next (looks-as (sym whole) refl one))
