-- Walks in a trie.
use Rattle.std.proofs.Common.{◌≡◌, ◌≢◌, ℕ, ◌<◌, ◌≤◌, List, [], ◌∷◌, ◌++◌, length, Option, Some, refl, sym, ap, zero, suc, ◌∙◌, arith}
use Rattle.std.proofs.lemmas.Option.{same_Some}
use Rattle.std.proofs.lemmas.List.{length_push}
use Rattle.daachorse_model.specs.Paths.{walk}
use Rattle.daachorse_model.proofs.Paths.{walk-push, push-parts}
use Rattle.daachorse_model.proofs.Lists.{last_of}
use Rattle.daachorse_build.specs.Trie.{IsTrie}

module _ {A : Type 0} (child : ℕ → A → Option ℕ) where
  -- ---- walks in a trie
  module _ (n : ℕ) (trie : IsTrie child n) where
    pub walk-bounds : (w : List A) (t : ℕ) → walk child 0 w ≡ Some t → (t < n) × (t ≢ 1)
    walk-bounds [] t h = let e : 0 ≡ t = same_Some 0 t h in (omega (arith, trie.two), λ k. omega (arith, k))
    walk-bounds (c ∷ cs) t h =
        let last = last_of c cs in
        let parts = push-parts child 0 last.0 last.1 t (sym (ap (walk child 0) last.2) ∙ h) in
        let b = trie.bounds parts.0 last.1 t parts.2 in
        (b.3, λ k. omega (arith, b.2, k))

    -- the root has no text but the empty one
    pub walk-above : (c : A) (cs : List A) (t : ℕ) → walk child 0 (c ∷ cs) ≡ Some t → 1 < t
    walk-above c cs t h =
        let last = last_of c cs in
        let parts = push-parts child 0 last.0 last.1 t (sym (ap (walk child 0) last.2) ∙ h) in
        (trie.bounds parts.0 last.1 t parts.2).2

    -- a text of k labels: two walks to one state have one text
    same_by : (k : ℕ) (xs ys : List A) (t : ℕ) → length xs ≡ k → walk child 0 xs ≡ Some t → walk child 0 ys ≡ Some t → xs ≡ ys
    same_by k [] [] t e h g = refl
    same_by k [] (y ∷ ys) t e h g =
        absurd (omega (arith, same_Some 0 t h, walk-above y ys t g))
    same_by k (x ∷ xs) [] t e h g =
        absurd (omega (arith, walk-above x xs t h, same_Some 0 t g))
    same_by zero (x ∷ xs) (y ∷ ys) t e h g = absurd (omega (arith, e))
    same_by (suc k) (x ∷ xs) (y ∷ ys) t e h g =
        let a = last_of x xs in
        let b = last_of y ys in
        let p = push-parts child 0 a.0 a.1 t (sym (ap (walk child 0) a.2) ∙ h) in
        let q = push-parts child 0 b.0 b.1 t (sym (ap (walk child 0) b.2) ∙ g) in
        let one = trie.one_parent p.0 a.1 q.0 b.1 t p.2 q.2 in
        let len : length a.0 ≡ k = omega (arith, e, ap length a.2, length_push a.0 a.1) in
        let front = same_by k a.0 b.0 p.0 len p.1 (q.1 ∙ ap Some (sym one.0)) in
        a.2 ∙ ap (λ w. w ++ a.1 ∷ []) front ∙ ap (λ c. b.0 ++ c ∷ []) one.1 ∙ sym b.2

    pub walk-same : (xs ys : List A) (t : ℕ) → walk child 0 xs ≡ Some t → walk child 0 ys ≡ Some t → xs ≡ ys
    walk-same xs ys t h g = same_by (length xs) xs ys t refl h g

    -- a state's parent has a lower number
    text_by : (k t : ℕ) → t ≤ k → t < n → t ≢ 1 → (w : List A) × (walk child 0 w ≡ Some t)
    text_by k zero e l ne = ([], refl)
    text_by zero (suc t) e l ne = absurd (omega (arith, e))
    text_by (suc k) (suc t) e l ne =
        let r = trie.reached (suc t) (omega (arith, ne)) l in
        let b = trie.bounds r.0 r.1 (suc t) r.2 in
        let less : r.0 ≤ k = omega (arith, b.0, e) in
        let low : r.0 < n = omega (arith, b.0, l) in
        let text = text_by k r.0 less low b.1 in
        (text.0 ++ r.1 ∷ [], walk-push child 0 text.0 r.1 r.0 text.1 ∙ r.2)

    -- the text of a state
    pub text_of : (t : ℕ) → t < n → t ≢ 1 → (w : List A) × (walk child 0 w ≡ Some t)
    text_of t l ne = text_by t t (omega arith) l ne

    -- that of a state but the root begins with a label
    pub label_of : (t : ℕ) → 1 < t → t < n → (c : A) × (w : List A) × (walk child 0 (c ∷ w) ≡ Some t)
    label_of t low high = let text = text_of t high (omega arith) in first text.0 text.1
      where
        first : (w : List A) → walk child 0 w ≡ Some t → (c : A) × (w : List A) × (walk child 0 (c ∷ w) ≡ Some t)
        first [] h = absurd (omega (arith, same_Some 0 t h, low))
        first (c ∷ w) h = (c, w, h)
