-- Ends of a text: an end is what a front leaves, so facts about ends are facts about `++`.
use Rattle.std.proofs.Common.{◌≡◌, ℕ, zero, suc, ◌+◌, ◌<◌, ◌≤◌, ◌⊎◌, inl, inr, List, [], ◌∷◌, ◌++◌, length, refl, sym, ap, ◌∙◌, append_assoc, append-nil, length-append, zero-le, one-add, arith}
use Rattle.std.proofs.lemmas.List.{append_cancel_right}
use Rattle.daachorse_model.specs.Units.{byte_width, size}
use Rattle.daachorse_model.specs.Prefixes.{IsSuffix}

pub le_or_lt : (a b : ℕ) → (a ≤ b) ⊎ (b < a)
le_or_lt zero b = inl zero-le
le_or_lt (suc a) zero = inr (omega arith)
le_or_lt (suc a) (suc b) = elim (le_or_lt a b) [ inl p ↦ inl (omega arith) | inr q ↦ inr (omega arith) ]

-- the size of two texts in a row
pub size-append : (width : ℕ → ℕ) (x y : List ℕ) → size width (x ++ y) ≡ size width x + size width y
size-append width [] y = omega arith
size-append width (u ∷ x) y = omega (arith, size-append width x y)

pub size-push : (width : ℕ → ℕ) (w : List ℕ) (u : ℕ) → size width (w ++ u ∷ []) ≡ size width w + width u
size-push width w u = omega (arith, size-append width w (u ∷ []))

-- a byte takes one byte
pub size-bytes : (w : List ℕ) → size byte_width w ≡ length w
size-bytes [] = refl
size-bytes (u ∷ w) = ap (λ n. 1 + n) (size-bytes w) ∙ one-add (length w)

pub IsSuffix-nil : (w : List ℕ) → IsSuffix [] w
IsSuffix-nil w = (w, append-nil w)

pub IsSuffix-same : (w : List ℕ) → IsSuffix w w
IsSuffix-same w = ([], refl)

pub IsSuffix-through : (a b c : List ℕ) → IsSuffix a b → IsSuffix b c → IsSuffix a c
IsSuffix-through a b c p q = (q.0 ++ p.0, append_assoc q.0 p.0 a ∙ ap (λ x. q.0 ++ x) p.1 ∙ q.1)

pub IsSuffix-cons : (a b : List ℕ) (u : ℕ) → IsSuffix a b → IsSuffix a (u ∷ b)
IsSuffix-cons a b u p = (u ∷ p.0, ap (λ x. u ∷ x) p.1)

pub IsSuffix-append : (before a b : List ℕ) → IsSuffix a b → IsSuffix a (before ++ b)
IsSuffix-append before a b p = (before ++ p.0, append_assoc before p.0 a ∙ ap (λ x. before ++ x) p.1)

pub IsSuffix-join : (a b x : List ℕ) → IsSuffix a b → IsSuffix (a ++ x) (b ++ x)
IsSuffix-join a b x p = (p.0, sym (append_assoc p.0 a x) ∙ ap (λ y. y ++ x) p.1)

pub IsSuffix-push : (a b : List ℕ) (u : ℕ) → IsSuffix a b → IsSuffix (a ++ u ∷ []) (b ++ u ∷ [])
IsSuffix-push a b u p = IsSuffix-join a b (u ∷ []) p

pub IsSuffix-length : (a b : List ℕ) → IsSuffix a b → length a ≤ length b
IsSuffix-length a b p = omega (arith, ap length p.1, length-append p.0 a)

pub IsSuffix-size : (width : ℕ → ℕ) (a b : List ℕ) → IsSuffix a b → size width a ≤ size width b
IsSuffix-size width a b p = omega (arith, ap (size width) p.1, size-append width p.0 a)

-- an end of u ∷ w that is shorter is an end of w
pub IsSuffix-tail : (s w : List ℕ) (u : ℕ) → IsSuffix s (u ∷ w) → length s < length (u ∷ w) → IsSuffix s w
IsSuffix-tail s w u p less = tail p.0 p.1
  where
    tail : (front : List ℕ) → front ++ s ≡ u ∷ w → IsSuffix s w
    tail [] e = absurd (omega (arith, ap length e, less))
    tail (x ∷ front) e = (front, cc)

-- two splits of one text
longer_split : (f g a b : List ℕ) → f ++ a ≡ g ++ b → length a ≤ length b → IsSuffix a b
longer_split f [] a b e h = (f, e)
longer_split [] (y ∷ g) a b e h = absurd (omega (arith, ap length e, length-append g b))
longer_split (x ∷ f) (y ∷ g) a b e h = longer_split f g a b (cc) h

-- of two ends the shorter is one of the longer
pub IsSuffix-of_longer : (w a b : List ℕ) → IsSuffix a w → IsSuffix b w → length a ≤ length b → IsSuffix a b
IsSuffix-of_longer w a b p q h = longer_split p.0 q.0 a b (p.1 ∙ sym q.1) h

as_long_split : (f a b : List ℕ) → f ++ a ≡ b → length b ≤ length a → a ≡ b
as_long_split [] a b e h = e
as_long_split (x ∷ f) a b e h = absurd (omega (arith, ap length e, length-append f a))

-- an end that is as long is the whole
pub IsSuffix-as_long : (a b : List ℕ) → IsSuffix a b → length b ≤ length a → a ≡ b
IsSuffix-as_long a b p h = as_long_split p.0 a b p.1 h

-- an end of w ++ x is an end of x, or ends in x
pub IsSuffix-of_join : (w s x : List ℕ) → IsSuffix s (w ++ x) → IsSuffix s x ⊎ ((t : List ℕ) × IsSuffix t w × (s ≡ t ++ x))
IsSuffix-of_join w s x p = elim (le_or_lt (length s) (length x)) [
  | inl fits ↦ inl (IsSuffix-of_longer (w ++ x) s x p (w, refl) fits)
  | inr over ↦
      let rest = IsSuffix-of_longer (w ++ x) x s (w, refl) p (omega arith) in
      inr (rest.0, (p.0, append_cancel_right (p.0 ++ rest.0) w x (append_assoc p.0 rest.0 x ∙ (ap (λ y. p.0 ++ y) rest.1 ∙ p.1))), sym rest.1)
]

-- an end of a text with one more unit is empty, or ends in that unit
pub IsSuffix-of_push : (w s : List ℕ) (u : ℕ) → IsSuffix s (w ++ u ∷ []) → (s ≡ []) ⊎ ((t : List ℕ) × IsSuffix t w × (s ≡ t ++ u ∷ []))
IsSuffix-of_push w s u p = elim (IsSuffix-of_join w s (u ∷ []) p) [ inl end ↦ of_one s end.0 end.1 | inr more ↦ inr more ]
  where
    of_one : (s front : List ℕ) → front ++ s ≡ u ∷ [] → (s ≡ []) ⊎ ((t : List ℕ) × IsSuffix t w × (s ≡ t ++ u ∷ []))
    of_one [] front e = inl refl
    of_one (x ∷ s) [] e = inr ([], IsSuffix-nil w, e)
    of_one (x ∷ s) (y ∷ front) e = absurd (omega (arith, ap length e, length-append front (x ∷ s)))
