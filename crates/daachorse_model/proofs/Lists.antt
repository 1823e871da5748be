-- Lists, options and numbers: what the kit does not say of them.
use Rattle.std.proofs.Common.{◌≡◌, ◌≢◌, ℕ, ◌+◌, ◌<◌, ◌⊎◌, inl, inr, List, [], ◌∷◌, ◌++◌, Option, Some, None, is_some, refl, ap, arith}
use Rattle.std.specs.Option.{option_map, option_or}
use Rattle.std.proofs.lemmas.Bool.{cases_lt}

pub below_or_at : (k n : ℕ) → k < n + 1 → (k < n) ⊎ (k ≡ n)
below_or_at k n less = elim (cases_lt k n) [ inl below ↦ inl below | inr above ↦ inr (omega (arith, less, above)) ]

-- a list with an element is some list and a last element
pub last_of : {A : Type 0} (c : A) (cs : List A) → (xs : List A) × (x : A) × (c ∷ cs ≡ xs ++ x ∷ [])
last_of c [] = ([], c, refl)
last_of c (d ∷ ds) = let rest = last_of d ds in (c ∷ rest.0, rest.1, ap (λ w. c ∷ w) rest.2)

-- a list is empty, or an element behind another list
pub ends_in : {A : Type 0} (w : List A) → (w ≡ []) ⊎ ((v : List A) × (c : A) × (w ≡ v ++ c ∷ []))
ends_in [] = inl refl
ends_in (c ∷ cs) = inr (last_of c cs)

pub no_front : {A : Type 0} (xs ys : List A) → xs ++ ys ≡ [] → xs ≡ []
no_front [] ys e = refl
no_front (x ∷ xs) ys e = cc

pub no_back : {A : Type 0} (xs ys : List A) → xs ++ ys ≡ [] → ys ≡ []
no_back [] ys e = e
no_back (x ∷ xs) ys e = cc

pub nil_of : {A : Type 0} (xs : List A) → ¬ (xs ≢ []) → xs ≡ []
nil_of [] h = refl
nil_of (x ∷ xs) h = absurd (h (λ e. cc))

pub none_either : {A : Type 0} (a b : Option A) → option_or a b ≡ None → (a ≡ None) × (b ≡ None)
none_either None b e = (refl, e)
none_either (Some x) b e = cc

pub some_of_map : {A B : Type 0} (f : A → B) (o : Option A) → is_some (option_map f o) ≡ is_some o
some_of_map f (Some x) = refl
some_of_map f None = refl
