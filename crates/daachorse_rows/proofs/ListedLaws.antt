-- Labels are listed one after the other, and each is its own number.
use Rattle.std.proofs.Common.{◌≡◌, inl, inr, ℕ, ◌+◌, List, [], ◌∷◌, ◌++◌, length, map, refl, sym, ap, ◌∙◌, subst, arith, length-append, Vec}
use Rattle.std.specs.Prelude.{slice_index}
use Rattle.std.proofs.lemmas.List.{map-id}
use Rattle.daachorse_model.specs.Dictionary.{Dictionary}
use Rattle.daachorse_model.proofs.Lists.{below_or_at}
use Rattle.daachorse_rows.specs.Rows.{AreLabels, IsListOf, stands_by}
use Rattle.daachorse_rows.proofs.MakingLaws.{read-new, read-old}

module _ (holds : ℕ → Type 0) (n : ℕ) (xs : List ℕ) (h : IsListOf holds n xs) where
  -- nothing holds of n
  pub IsListOf-skip : ¬ holds n → IsListOf holds (n + 1) xs
  IsListOf-skip not = record {
    few = omega (arith, h.few);
    all = λ x below held. elim (below_or_at x n below) [
      | inl less ↦ h.all x less held
      | inr same ↦ absurd (not (subst holds same held))
    ];
    only = λ k below. let old = h.only k below in (omega (arith, old.0), old.1);
  }

  pub IsListOf-more : (ys : List ℕ) → ys ≡ xs ++ n ∷ [] → holds n → IsListOf holds (n + 1) ys
  IsListOf-more ys is held = record {
    few = omega (arith, h.few, size);
    all = λ x below of_x. elim (below_or_at x n below) [
      | inl less ↦ let old = h.all x less of_x in (old.0, omega (arith, old.1, size), read-old xs ys n old.0 is old.1 ∙ old.2)
      | inr same ↦ (length xs, omega (arith, size), read-new xs ys n (length xs) is refl ∙ sym same)
    ];
    only = λ k below. elim (below_or_at k (length xs) (omega (arith, below, size))) [
      | inl old ↦ let was = h.only k old in let read = read-old xs ys n k is old in (omega (arith, read, was.0), subst holds (sym read) was.1)
      | inr new ↦ let read = read-new xs ys n k is new in (omega (arith, read), subst holds (sym read) held)
    ];
  }
    where
      size : length ys ≡ length xs + 1
      size = ap length is ∙ length-append xs (n ∷ [])

pub IsListOf-none : (holds : ℕ → Type 0) → IsListOf holds 0 []
IsListOf-none holds = record { few = omega arith; all = λ x below held. absurd (omega (arith, below)); only = λ k below. absurd (omega (arith, below)) }

-- a label that is held is listed last
pub IsListOf-push : {A : Type 0} (holds : ℕ → Type 0) (n : ℕ) (xs : List ℕ) (v pushed : Vec ℕ A) → IsListOf holds n xs → v ≡ pushed → pushed.items ≡ xs ++ n ∷ [] → holds n → IsListOf holds (n + 1) v.items
IsListOf-push holds n xs v pushed h is more held = IsListOf-more holds n xs h v.items (ap (λ u. u.items) is ∙ more) held

-- and no other
pub IsListOf-kept : {A : Type 0} (holds : ℕ → Type 0) (n : ℕ) (v old : Vec ℕ A) → IsListOf holds n old.items → v ≡ old → ¬ holds n → IsListOf holds (n + 1) v.items
IsListOf-kept holds n v old h is not =
    let P : List ℕ → Type 0 = λ xs. IsListOf holds (n + 1) xs in
    subst P (sym (ap (λ u. u.items) is)) (IsListOf-skip holds n old.items h not)

-- labels that are their own numbers
pub AreLabels-own : {V : Type 0} (K : Dictionary V) (stands : ℕ → ℕ → Type 0) (labels : List ℕ) → AreLabels K stands labels → AreLabels K (stands_by (λ (x : ℕ). x) stands) (map (λ (x : ℕ). x) labels)
AreLabels-own K stands labels h =
    let P : List ℕ → Type 0 = λ l. AreLabels K (stands_by (λ (x : ℕ). x) stands) l in
    subst P (sym (map-id labels)) (record {
      all = λ label unit low (other, same, coded). let Q : ℕ → Type 0 = λ l. stands l unit in h.all label unit low (subst Q same coded);
      below = h.below;
      none_idle = λ k below. let some = h.none_idle k below in (some.0, (slice_index labels k, refl, some.1));
    })
