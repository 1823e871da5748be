-- When a leftmost match is certain: a scan that stands at a text with a child may still find a better one, and no other scan.
use Rattle.std.proofs.Common.{◌≡◌, ℕ, zero, suc, ◌+◌, ◌-◌, ◌*◌, ◌<◌, ◌≤◌, ◌⊎◌, inl, inr, Bool, true, false, cond, List, [], ◌∷◌, ◌++◌, length, Some, None, refl, sym, ap, ◌∙◌, subst, append_assoc, append-nil, length-append, arith}
use Rattle.std.proofs.lemmas.List.{nil_from_length}
use Rattle.std.proofs.lemmas.Nat.{mul-le}
use Rattle.daachorse_model.specs.declared.Match.{Match}
use Rattle.daachorse_model.specs.Units.{size}
use Rattle.daachorse_model.specs.Dictionary.{Dictionary}
use Rattle.daachorse_model.specs.Prefixes.{IsSuffix, IsKey, IsPrefix, Occurs, HasChild}
use Rattle.daachorse_model.specs.Leftmost.{longest_key, leftmost_from}
use Rattle.daachorse_model.specs.Best.{IsBest, IsBestSoFar, IsSteady, NoneStarts}
use Rattle.daachorse_model.proofs.Suffixes.{le_or_lt, size-append, IsSuffix-of_longer, IsSuffix-as_long}
use Rattle.daachorse_model.proofs.Steps.{IsPrefix-less}
use Rattle.daachorse_model.proofs.Lists.{nil_of}
use Rattle.daachorse_model.proofs.Links.{none_before}
use Rattle.daachorse_model.proofs.Occurrences.{split_after, occurs_length, occurs_more}
use Rattle.daachorse_model.proofs.BestMatches.{leftmost_from-clear, leftmost_from-key, leftmost_from-empty, leftmost_from-last, leftmost_from-none, longest-best, none_starts-best}

-- a text with a key behind it, whose first unit goes on to it
child_of : {V : Type 0} (K : Dictionary V) (d x : List ℕ) → IsKey K (d ++ x) → 0 < length x → HasChild K d
child_of K d [] key some = absurd (omega arith)
child_of K d (u ∷ x) key some = (u, inr (x, λ none. key (ap K (sym (append_assoc d (u ∷ []) x)) ∙ none)))

module _ {V : Type 0} (K : Dictionary V) where
  -- a steady text without a child is empty, or a key
  leaf_is_key : (t : List ℕ) → IsPrefix K t → (¬ HasChild K t) → 0 < length t → IsKey K t
  leaf_is_key t (inl empty) none some = absurd (omega (arith, ap length empty))
  leaf_is_key t (inr (x, key)) none some = by x key
    where
      by : (x : List ℕ) → IsKey K (t ++ x) → IsKey K t
      by [] key = λ no. key (ap K (append-nil t) ∙ no)
      by (u ∷ x) key = absurd (none (child_of K t (u ∷ x) key (omega arith)))

  -- a key that goes on past w from an end d of it starts later than the best, where the text t has no child
  past_leaf : (w t a k : List ℕ) → IsSteady K w t → (¬ HasChild K t) → IsBest K w a k → (b d x : List ℕ) → b ++ d ≡ w → IsKey K (d ++ x) → 0 < length x → length a < length b
  past_leaf w t a k steady none is b d x e key some =
      let child = child_of K d x key some in
      let begins : IsPrefix K d = IsPrefix-less K d (child.0 ∷ []) child.1 in
      let ends = steady.long.ends in
      let fits : length d ≤ length t = steady.long.longest d (b, e) begins in
      let whole : length b + length d ≡ length ends.0 + length t = omega (arith, ap length e, ap length ends.1, length-append b d, length-append ends.0 t) in
      elim (le_or_lt (length t) (length d)) [
        | inl as_long ↦
            let same : d ≡ t = IsSuffix-as_long d t (IsSuffix-of_longer w d t (b, e) ends fits) as_long in
            let P : List ℕ → Type 0 = λ y. HasChild K y in
            absurd (none (subst P same child))
        | inr less ↦
            let is_key : IsKey K t = leaf_is_key t steady.long.begins none (omega (arith, less)) in
            let here = is.least ends.0 t [] (record { parts = sym ends.1 ∙ ap (λ y. ends.0 ++ y) (sym (append-nil t)); key = is_key }) in
            elim here [ inl p ↦ omega (arith, p, whole, less) | inr q ↦ omega (arith, q.0, whole, less) ]
      ]

  -- where the text has no child, the best stays so, whatever follows
  pub IsBest-at_leaf : (w t a k rest : List ℕ) → IsSteady K w t → (¬ HasChild K t) → IsBest K w a k → IsBest K (w ++ rest) a k
  IsBest-at_leaf w t a k rest steady none is = record {
    rest = is.rest ++ rest;
    occurs = occurs_more K w a k is.rest rest is.occurs;
    least = λ b l c o. later b l c o;
  }
    where
      later : (b l c : List ℕ) → Occurs K (w ++ rest) b l c → (length a < length b) ⊎ ((length a ≡ length b) × (length l ≤ length k))
      later b l c o =
          let parts : b ++ (l ++ c) ≡ w ++ rest = sym o.parts in
          elim (le_or_lt (length (b ++ l)) (length w)) [
            | inl inside ↦
                let r = split_after (b ++ l) c w rest (append_assoc b l c ∙ parts) inside in
                is.least b l r.0 (record { parts = r.1 ∙ append_assoc b l r.0; key = o.key })
            | inr over ↦
                elim (le_or_lt (length b) (length w)) [
                  | inl starts ↦
                      let r = split_after b (l ++ c) w rest parts starts in
                      let more : length r.0 < length l = omega (arith, over, ap length r.1, length-append b r.0, length-append b l) in
                      let q = split_after r.0 rest l c (sym r.2) (omega (arith, more)) in
                      let P : List ℕ → Type 0 = λ y. IsKey K y in
                      inl (past_leaf w t a k steady none is b r.0 q.0 (sym r.1) (subst P q.1 o.key) (omega (arith, more, ap length q.1, length-append r.0 q.0)))
                  | inr behind ↦ inl (omega (arith, behind, occurs_length K w a k is.rest is.occurs))
                ]
          ]

-- What a search gives at the best, and where nothing occurs.
module _ {V : Type 0} (width : ℕ → ℕ) (K : Dictionary V) where
  -- the match of the key k after a, in a haystack that begins at s
  abbrev pub match_of : ℕ → List ℕ → List ℕ → V → Match V
  match_of s a k v = record { start = s + size width a; end = s + size width (a ++ k); value = v }

  -- a best that is not empty is given, and the search goes on at its end
  pub gives_key : (s : ℕ) (after : Bool) (w a k : List ℕ) (v : V) (others : List V) → (is : IsBest K w a k) → 0 < length k → K k ≡ v ∷ others
      → leftmost_from width K s 0 after w ≡ match_of s a k v ∷ leftmost_from width K (s + size width (a ++ k)) 0 true is.rest
  gives_key s after w a k v others is some has = by k refl
    where
      by : (x : List ℕ) → k ≡ x → leftmost_from width K s 0 after w ≡ match_of s a k v ∷ leftmost_from width K (s + size width (a ++ k)) 0 true is.rest
      by [] e = absurd (omega (arith, ap length e))
      by (u ∷ p) e =
          let rest = is.rest in let at : ℕ = s + size width a in
          let text : List ℕ = u ∷ (p ++ rest) in
          let parts : w ≡ a ++ text = is.occurs.parts ∙ ap (λ x. a ++ (x ++ rest)) e in
          let N : List ℕ → Type 0 = λ x. NoneStarts K (length a) x in
          let L : List ℕ → Type 0 = λ x. longest_key K [] (x ++ rest) ≡ Some (x, v) in
          let end : at + size width (u ∷ p) ≡ s + size width (a ++ k) = omega (arith, size-append width a k, ap (size width) e) in
          ap (λ x. leftmost_from width K s 0 after x) parts
          ∙ leftmost_from-clear width K s after a text (subst N parts (none_starts-best K w a k is))
          ∙ leftmost_from-key width K at after u p rest v (subst L e (longest-best K w a k v others is has))
          ∙ ap (λ n. record { start = at; end = n; value = v } ∷ leftmost_from width K n 0 true rest) end

  -- an empty best stands where the text begins
  pub empty_front : (w a : List ℕ) → IsBest K w a [] → a ≡ []
  empty_front w a is = elim (is.least [] [] w (record { parts = refl; key = is.occurs.key })) [ inl p ↦ absurd (omega (arith, p)) | inr q ↦ nil_from_length a q.0 ]

  -- it is given, unless it comes right after a match, and the search goes on a unit later
  pub gives_empty : (s : ℕ) (after : Bool) (w a : List ℕ) (v : V) (others : List V) → IsBest K w a [] → K [] ≡ v ∷ others
      → leftmost_from width K s 0 after w ≡ cond after [] (record { start = s; end = s; value = v } ∷ []) ++ leftmost_from width K s 1 false w
  gives_empty s after w a v others is has = by w (ap (λ x. longest_key K [] x) rest ∙ longest-best K w a [] v others is has)
    where
      rest : w ≡ is.rest
      rest = is.occurs.parts ∙ ap (λ x. x ++ is.rest) (empty_front w a is)

      by : (x : List ℕ) → longest_key K [] x ≡ Some ([], v) → leftmost_from width K s 0 after x ≡ cond after [] (record { start = s; end = s; value = v } ∷ []) ++ leftmost_from width K s 1 false x
      by [] longest = leftmost_from-last width K s after v longest ∙ sym (append-nil (cond after [] (record { start = s; end = s; value = v } ∷ [])))
      by (u ∷ x) longest = leftmost_from-empty width K s after u x v longest

  -- nothing is given where nothing occurs
  pub gives_none : (s : ℕ) (after : Bool) (w : List ℕ) → IsBestSoFar K w None → leftmost_from width K s 0 after w ≡ []
  gives_none s after w none =
      let N : List ℕ → Type 0 = λ x. NoneStarts K (length w) x in
      let clear : NoneStarts K (length w) w = λ a k b o. absurd (none a k b o) in
      let empty : K [] ≡ [] = nil_of (K []) (λ key. none [] [] w (record { parts = refl; key = key })) in
      ap (λ x. leftmost_from width K s 0 after x) (sym (append-nil w))
      ∙ leftmost_from-clear width K s after w [] (subst N (sym (append-nil w)) clear)
      ∙ leftmost_from-none width K (s + size width w) after empty

-- the two lists do not begin with the same element
abbrev pub StartApart : {A : Type 0} → List A → List A → Type 0
StartApart {A = A} xs ys = (x : A) (r s : List A) → xs ≡ x ∷ r → ys ≡ x ∷ s → ⊥

-- what begins two lists that part behind `gave` is no longer than that
pub begins_both : {A : Type 0} (gave ns r s xs ys : List A) → gave ++ xs ≡ ns ++ r → gave ++ ys ≡ ns ++ s → StartApart xs ys → (rest : List A) × (gave ≡ ns ++ rest)
begins_both gave [] r s xs ys e f apart = (gave, refl)
begins_both [] (n ∷ ns) r s xs ys e f apart = absurd (apart n (ns ++ r) (ns ++ s) e f)
begins_both (g ∷ gave) (n ∷ ns) r s xs ys e f apart =
    let tail = begins_both gave ns r s xs ys (cc) (cc) apart in
    let same : g ≡ n = cc in
    (tail.0, ap (λ x. x ∷ gave) same ∙ ap (λ x. n ∷ x) tail.1)

times_more : (x y n : ℕ) → x < y → x * (n + 1) + (n + 1) ≤ y * (n + 1)
times_more x y n less = omega (arith, mul-le (x + 1) (n + 1) y (n + 1) (omega (arith, less)) (omega arith), one_more x (n + 1))
  where
    one_more : (x n : ℕ) → (x + 1) * n ≡ x * n + n
    one_more x n = grind arith

module _ {V : Type 0} (K : Dictionary V) where
  -- a measure of occurrences, by which a better one is less
  abbrev rank : List ℕ → List ℕ → List ℕ → ℕ
  rank w a k = length a * (length w + 1) + (length w - length k)

  best_of_all : (w a k rest : List ℕ) → Occurs K w a k rest → ((b l c : List ℕ) → Occurs K w b l c → rank w b l < rank w a k → ⊥) → IsBest K w a k
  best_of_all w a k rest o none = record { rest = rest; occurs = o; least = λ b l c p. by b l c p }
    where
      by : (b l c : List ℕ) → Occurs K w b l c → (length a < length b) ⊎ ((length a ≡ length b) × (length l ≤ length k))
      by b l c p = elim (le_or_lt (length a) (length b)) [
        | inr less ↦ absurd (none b l c p (omega (arith, times_more (length b) (length a) (length w) less)))
        | inl at_least ↦
            elim (le_or_lt (length b) (length a)) [
              | inr later ↦ inl later
              | inl at_most ↦
                  let same : length a ≡ length b = omega (arith, at_least, at_most) in
                  elim (le_or_lt (length l) (length k)) [
                    | inl fits ↦ inr (same, fits)
                    | inr longer ↦ absurd (none b l c p (omega (arith, longer, ap (λ n. n * (length w + 1)) same, occurs_length K w b l c p)))
                  ]
            ]
      ]

  -- where something occurs, it can't be that nothing is the best
  some_best : (w : List ℕ) → ((a k : List ℕ) → ¬ IsBest K w a k) → (n : ℕ) (b l c : List ℕ) → Occurs K w b l c → rank w b l < n → ⊥
  some_best w none zero b l c o below = omega arith
  some_best w none (suc n) b l c o below = none b l (best_of_all w b l c o (λ x y z p less. some_best w none n x y z p (omega (arith, less, below))))

  pub not_without_best : (w b l c : List ℕ) → Occurs K w b l c → ((a k : List ℕ) → IsBest K w a k → ⊥) → ⊥
  not_without_best w b l c o none = some_best w none (suc (rank w b l)) b l c o (omega arith)

pub length_size : (width : ℕ → ℕ) → ((u : ℕ) → 1 ≤ width u) → (w : List ℕ) → length w ≤ size width w
length_size width wide [] = omega arith
length_size width wide (u ∷ w) = omega (arith, wide u, length_size width wide w)

-- of two beginnings of a text the shorter takes less bytes
pub size_shorter : (width : ℕ → ℕ) → ((u : ℕ) → 1 ≤ width u) → (a x b y : List ℕ) → a ++ x ≡ b ++ y → length a < length b → size width a < size width b
size_shorter width wide a x b y e less =
    let r = split_after a x b y e (omega (arith, less)) in
    omega (arith, less, ap length r.1, length-append a r.0, ap (size width) r.1, size-append width a r.0, length_size width wide r.0)

first_value : {V : Type 0} (K : Dictionary V) (k : List ℕ) → IsKey K k → (v : V) × (others : List V) × (K k ≡ v ∷ others)
first_value {V = V} K k key = by (K k) refl
  where
    by : (vs : List V) → K k ≡ vs → (v : V) × (others : List V) × (K k ≡ v ∷ others)
    by [] e = absurd (key e)
    by (v ∷ others) e = (v, others, e)

module _ {V : Type 0} (width : ℕ → ℕ) (wide : (u : ℕ) → 1 ≤ width u) (K : Dictionary V) where
  -- where the first match stands: at the best, which is not empty, or not right after a match
  first_at : (s : ℕ) (after : Bool) (w a k : List ℕ) → IsBest K w a k → (0 < length k) ⊎ (after ≡ false) → (m : Match V) (r : List (Match V)) → leftmost_from width K s 0 after w ≡ m ∷ r
      → (m.start ≡ s + size width a) × (m.end ≡ s + size width (a ++ k))
  first_at s after w a k is given m r e = by k refl given
    where
      value : (v : V) × (others : List V) × (K k ≡ v ∷ others)
      value = first_value K k is.occurs.key

      nonempty : 0 < length k → (m.start ≡ s + size width a) × (m.end ≡ s + size width (a ++ k))
      nonempty some =
          let gives = sym e ∙ gives_key width K s after w a k value.0 value.1 is some value.2 in
          let first : m ≡ match_of width K s a k value.0 = cc in
          (ap (λ (x : Match V). x.start) first, ap (λ (x : Match V). x.end) first)

      by : (x : List ℕ) → k ≡ x → (0 < length k) ⊎ (after ≡ false) → (m.start ≡ s + size width a) × (m.end ≡ s + size width (a ++ k))
      by x same (inl some) = nonempty some
      by (u ∷ x) same (inr none) = nonempty (omega (arith, ap length same))
      by [] same (inr none) =
          let B : List ℕ → Type 0 = λ x. IsBest K w a x in
          let best : IsBest K w a [] = subst B same is in
          let gives = sym e ∙ gives_empty width K s after w a value.0 value.1 best (ap K (sym same) ∙ value.2) in
          let here : m ∷ r ≡ record { start = s; end = s; value = value.0 } ∷ leftmost_from width K s 1 false w = gives ∙ ap (λ b. cond b [] (record { start = s; end = s; value = value.0 } ∷ []) ++ leftmost_from width K s 1 false w) none in
          let first : m ≡ record { start = s; end = s; value = value.0 } = cc in
          let front : a ≡ [] = empty_front width K w a best in (
            ap (λ (x : Match V). x.start) first ∙ omega (arith, ap (size width) front),
            ap (λ (x : Match V). x.end) first ∙ omega (arith, ap (size width) front, ap (size width) same, size-append width a k),
          )

  -- Of a text and what goes on from it to a key, at which a match starts as early as the best: the two bests are not at one place.
  module _ (w t a k d : List ℕ) (steady : IsSteady K w t) (is : IsBest K w a k) (some : 0 < length d) (key : IsKey K (t ++ d)) (b l : List ℕ) (best : IsBest K (w ++ d) b l) where
    ends : IsSuffix t w
    ends = steady.long.ends

    whole : length w ≡ length ends.0 + length t
    whole = omega (arith, ap length ends.1, length-append ends.0 t)

    near : length ends.0 ≤ length a
    near = omega (arith, whole, none_before K w t steady.none a k is.rest is.occurs)

    more : Occurs K (w ++ d) ends.0 (t ++ d) []
    more = record { parts = ap (λ x. x ++ d) (sym ends.1) ∙ append_assoc ends.0 t d ∙ ap (λ x. ends.0 ++ x) (sym (append-nil (t ++ d))); key = key }

    better : (length b < length ends.0) ⊎ ((length b ≡ length ends.0) × (length (t ++ d) ≤ length l))
    better = best.least ends.0 (t ++ d) [] more

    not_empty : 0 < length l
    not_empty = by l refl
      where
        by : (x : List ℕ) → l ≡ x → 0 < length l
        by (u ∷ x) e = omega (arith, ap length e)
        by [] e =
            let empty : IsKey K [] = λ none. best.occurs.key (ap K e ∙ none) in
            let front : length a ≤ 0 = elim (is.least [] [] w (record { parts = refl; key = empty })) [ inl p ↦ absurd (omega (arith, p)) | inr q ↦ omega (arith, q.0) ] in
            elim better [ inl p ↦ absurd (omega (arith, p, near, front)) | inr q ↦ omega (arith, q.1, length-append t d, some) ]

    elsewhere : size width a ≡ size width b → size width (a ++ k) ≡ size width (b ++ l) → ⊥
    elsewhere start end =
        let text : b ++ (l ++ best.rest) ≡ a ++ ((k ++ is.rest) ++ d) = sym best.occurs.parts ∙ ap (λ x. x ++ d) is.occurs.parts ∙ append_assoc a (k ++ is.rest) d in
        elim (le_or_lt (length a) (length b)) [
          | inr less ↦ omega (arith, start, size_shorter width wide b (l ++ best.rest) a ((k ++ is.rest) ++ d) text less)
          | inl late ↦
              elim better [
                | inl p ↦ omega (arith, p, near, late)
                | inr q ↦
                    let over : length (a ++ k) < length (b ++ l) =
                    omega (arith, q.0, q.1, whole, some, length-append t d, length-append a k, length-append b l, occurs_length K w a k is.rest is.occurs) in
                    let same : (a ++ k) ++ (is.rest ++ d) ≡ (b ++ l) ++ best.rest =
                    append_assoc a k (is.rest ++ d) ∙ ap (λ x. a ++ x) (sym (append_assoc k is.rest d)) ∙ sym text ∙ sym (append_assoc b l best.rest) in
                    omega (arith, end, size_shorter width wide (a ++ k) (is.rest ++ d) (b ++ l) best.rest same over)
              ]
        ]

    -- nor is what a search gives first at one place
    clash : (s : ℕ) (after : Bool) (m : Match V) (r r' : List (Match V)) → leftmost_from width K s 0 after w ≡ m ∷ r → leftmost_from width K s 0 after (w ++ d) ≡ m ∷ r' → ⊥
    clash s after m r r' e f = by k refl after refl
      where
        second : (m.start ≡ s + size width b) × (m.end ≡ s + size width (b ++ l))
        second = first_at s after (w ++ d) b l best (inl not_empty) m r' f

        given : (0 < length k) ⊎ (after ≡ false) → ⊥
        given some = let first = first_at s after w a k is some m r e in elsewhere (omega (arith, first.0, second.0)) (omega (arith, first.1, second.1))

        -- behind an empty match that is not given, the next starts later
        behind : (w : List ℕ) → (¬ (K [] ≡ [])) → leftmost_from width K s 1 false w ≡ m ∷ r → s < m.start
        behind [] key e = cc
        behind (u ∷ w) key e = elim (le_or_lt m.start s) [
          | inr less ↦ less
          | inl early ↦ absurd (not_without_best K w [] [] w (record { parts = refl; key = key }) (λ a k best. let first = first_at (s + width u) false w a k best (inr refl) m r e in omega (arith, first.0, early, wide u)))
        ]

        by : (x : List ℕ) → k ≡ x → (over : Bool) → after ≡ over → ⊥
        by (u ∷ x) same over is = given (inl (omega (arith, ap length same)))
        by [] same false is = given (inr is)
        by [] same true after_one =
            let B : List ℕ → Type 0 = λ x. IsBest K w a x in
            let empty : IsBest K w a [] = subst B same is in
            let value = first_value K [] empty.occurs.key in
            let later : leftmost_from width K s 1 false w ≡ m ∷ r =
            sym (gives_empty width K s after w a value.0 value.1 empty value.2 ∙ ap (λ b. cond b [] (record { start = s; end = s; value = value.0 } ∷ []) ++ leftmost_from width K s 1 false w) after_one) ∙ e in
            let front : length b ≤ 0 = elim better [ inl p ↦ omega (arith, p, near, ap length (empty_front width K w a empty)) | inr q ↦ omega (arith, q.0, near, ap length (empty_front width K w a empty)) ] in
            omega (arith, second.0, behind w empty.occurs.key later, ap (size width) (nil_from_length b (omega (arith, front))))

  -- Where a text has a child, its best is not certain: with a key behind it, what is given first is another.
  pub goes_apart : (s : ℕ) (after : Bool) (w t a k : List ℕ) → IsSteady K w t → HasChild K t → IsBest K w a k → (d : List ℕ) × StartApart (leftmost_from width K s 0 after w) (leftmost_from width K s 0 after (w ++ d))
  goes_apart s after w t a k steady (u, inl e) is = absurd (omega (arith, ap length e, length-append t (u ∷ [])))
  goes_apart s after w t a k steady (u, inr (x, has)) is =
      let d : List ℕ = u ∷ x in
      let key : IsKey K (t ++ d) = λ none. has (ap K (append_assoc t (u ∷ []) x) ∙ none) in
      let ends = steady.long.ends in
      let more : Occurs K (w ++ d) ends.0 (t ++ d) [] = record { parts = ap (λ y. y ++ d) (sym ends.1) ∙ append_assoc ends.0 t d ∙ ap (λ y. ends.0 ++ y) (sym (append-nil (t ++ d))); key = key } in
      (d, λ m r r' e f. not_without_best K (w ++ d) ends.0 (t ++ d) [] more (λ b l best. clash w t a k d steady is (omega arith) key b l best s after m r r' e f))
