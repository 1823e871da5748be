-- The texts of the ranks of a trie.
use Rattle.std.proofs.Common.{◌≡◌, ℕ, zero, suc, ◌<◌, ◌≤◌, List, [], ◌∷◌, ◌++◌, length, Some, refl, sym, ap, ◌∙◌, arith, get_or}
use Rattle.std.proofs.lemmas.List.{length_push}
use Rattle.std.proofs.lemmas.Option.{same_Some}
use Rattle.daachorse_model.specs.Paths.{walk}
use Rattle.daachorse_model.proofs.Paths.{walk-push, push-parts}
use Rattle.daachorse_model.proofs.Lists.{last_of}
use Rattle.daachorse_array.specs.Ranks.{child, IsTrieOfRanks}
use Rattle.daachorse_array.proofs.ChildByLabel.{edge, back}

module _ (parents labels : List ℕ) (alphabet : ℕ) (trie : IsTrieOfRanks parents labels alphabet) where
  pub walk_later : (c : ℕ) (cs : List ℕ) (t : ℕ) → walk (child parents labels) 0 (c ∷ cs) ≡ Some t → (0 < t) × (t < length parents)
  walk_later c cs t h =
      let last = last_of c cs in
      let parts = push-parts (child parents labels) 0 last.0 last.1 t (sym (ap (walk (child parents labels) 0) last.2) ∙ h) in
      let b = back parents labels alphabet trie parts.0 last.1 t parts.2 in
      (b.0, b.1)

  pub root_text : (w : List ℕ) → walk (child parents labels) 0 w ≡ Some 0 → w ≡ []
  root_text [] h = refl
  root_text (c ∷ cs) h = absurd (omega (arith, (walk_later c cs 0 h).0))

  same_by : (k : ℕ) (xs ys : List ℕ) (t : ℕ) → length xs ≤ k → walk (child parents labels) 0 xs ≡ Some t
      → walk (child parents labels) 0 ys ≡ Some t → xs ≡ ys
  same_by k [] [] t e h g = refl
  same_by k [] (y ∷ ys) t e h g = absurd (omega (arith, same_Some 0 t h, (walk_later y ys t g).0))
  same_by k (x ∷ xs) [] t e h g = absurd (omega (arith, (walk_later x xs t h).0, same_Some 0 t g))
  same_by zero (x ∷ xs) (y ∷ ys) t e h g = absurd (omega (arith, e))
  same_by (suc k) (x ∷ xs) (y ∷ ys) t e h g =
      let a = last_of x xs in
      let b = last_of y ys in
      let p = push-parts (child parents labels) 0 a.0 a.1 t (sym (ap (walk (child parents labels) 0) a.2) ∙ h) in
      let q = push-parts (child parents labels) 0 b.0 b.1 t (sym (ap (walk (child parents labels) 0) b.2) ∙ g) in
      let u = back parents labels alphabet trie p.0 a.1 t p.2 in
      let v = back parents labels alphabet trie q.0 b.1 t q.2 in
      let one : p.0 ≡ q.0 = sym u.2 ∙ v.2 in
      let len : length a.0 ≤ k = omega (arith, e, ap length a.2, length_push a.0 a.1) in
      let front = same_by k a.0 b.0 p.0 len p.1 (q.1 ∙ ap Some (sym one)) in
      a.2 ∙ ap (λ w. w ++ a.1 ∷ []) front ∙ ap (λ c. b.0 ++ c ∷ []) (sym u.3 ∙ v.3) ∙ sym b.2

  -- two texts of one rank are equal
  pub one_text : (xs ys : List ℕ) (t : ℕ) → walk (child parents labels) 0 xs ≡ Some t → walk (child parents labels) 0 ys ≡ Some t → xs ≡ ys
  one_text xs ys t h g = same_by (length xs) xs ys t (omega arith) h g

  text_by : (k t : ℕ) → t ≤ k → t < length parents → (w : List ℕ) × (walk (child parents labels) 0 w ≡ Some t)
  text_by k zero e lt = ([], refl)
  text_by zero (suc t) e lt = absurd (omega (arith, e))
  text_by (suc k) (suc t) e lt =
      let early = trie.order.earlier (suc t) (omega arith) lt in
      let text = text_by k (get_or parents (suc t) 0) (omega (arith, early, e)) (omega (arith, early, lt)) in (
        text.0 ++ get_or labels (suc t) 0 ∷ [],
        walk-push (child parents labels) 0 text.0 (get_or labels (suc t) 0) (get_or parents (suc t) 0) text.1
            ∙ edge parents labels alphabet trie (suc t) (omega arith) lt,
      )

  -- each rank has a text
  pub text_of : (t : ℕ) → t < length parents → (w : List ℕ) × (walk (child parents labels) 0 w ≡ Some t)
  text_of t lt = text_by t t (omega arith) lt
