-- Labels are told apart by their units: where the order finds two equal, the units are the same.
use Rattle.std.proofs.Common.{◌≡◌, ℕ, List, [], ◌∷◌, ◌++◌, map, refl, sym, ap, ◌∙◌}
use Rattle.std.proofs.lemmas.Map.Lookups.{exact_unsigned}
use Rattle.std.specs.Ordering.{nat_cmp}
use Rattle.std.specs.declared.cmp.Ordering.{Ordering}
use Rattle.std.specs.declared.cmp.Ordering.TheVariants.{Equal}

-- two labels that the order finds equal are the same
pub label_exact : {L : Type 0} (unit : L → ℕ) (cmp : L → L → Ordering) → ((a b : L) → unit a ≡ unit b → a ≡ b) → ((a b : L) → cmp a b ≡ nat_cmp (unit a) (unit b)) → (x y : L) → cmp x y ≡ Equal → x ≡ y
label_exact unit cmp exact by_unit x y h = exact x y (exact_unsigned (unit x) (unit y) (sym (by_unit x y) ∙ h))

-- texts with the same units are the same
pub text_exact : {L : Type 0} (unit : L → ℕ) → ((a b : L) → unit a ≡ unit b → a ≡ b) → (v w : List L) → map unit v ≡ map unit w → v ≡ w
text_exact unit exact [] [] h = refl
text_exact unit exact [] (y ∷ w) h = cc
text_exact unit exact (x ∷ v) [] h = cc
text_exact unit exact (x ∷ v) (y ∷ w) h =
    let first : unit x ≡ unit y = cc in
    let rest : map unit v ≡ map unit w = cc in
    ap (λ z. z ∷ v) (exact x y first) ∙ ap (λ z. y ∷ z) (text_exact unit exact v w rest)

-- the labels of a beginning of a text of units
pub labels_of_front : {L : Type 0} (unit : L → ℕ) (p : List L) (x y : List ℕ) → map unit p ≡ x ++ y → (v : List L) × (w : List L) × (p ≡ v ++ w) × (map unit v ≡ x) × (map unit w ≡ y)
labels_of_front unit p [] y h = ([], p, refl, refl, h)
labels_of_front unit [] (u ∷ x) y h = absurd (cc)
labels_of_front unit (c ∷ p) (u ∷ x) y h =
    let first : unit c ≡ u = cc in
    let rest : map unit p ≡ x ++ y = cc in
    let r = labels_of_front unit p x y rest in
    (c ∷ r.0, r.1, ap (λ z. c ∷ z) r.2, ap (λ z. unit c ∷ z) r.3 ∙ ap (λ z. z ∷ x) first, r.4)
