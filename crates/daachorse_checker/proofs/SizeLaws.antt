-- The size of a text is that of its parent's text and its unit's width.
use Rattle.std.proofs.Common.{◌≡◌, ℕ, ◌+◌, ◌*◌, ◌<◌, ◌≤◌, List, [], ◌∷◌, ◌++◌, length, Option, Some, refl, sym, ap, ◌∙◌, inl, inr, arith}
use Rattle.std.proofs.Common.{get_or}
use Rattle.std.proofs.lemmas.Bool.{cases_lt}
use Rattle.std.proofs.lemmas.List.{get_or_push, length_push}
use Rattle.daachorse_model.specs.Paths.{Leads}
use Rattle.daachorse_model.specs.Units.{size}
use Rattle.daachorse_model.proofs.Suffixes.{size-append}
use Rattle.daachorse_model.proofs.Paths.{walk-push}
use Rattle.daachorse_checker.specs.Ranks.{HasOnePath, AreRanks}
use Rattle.daachorse_checker.specs.Sizes.{AreSizes}
use Rattle.daachorse_checker.proofs.RankLaws.{old_at}
use Rattle.daachorse_checker.proofs.TreeLaws.{text_at}

module _ {child : ℕ → ℕ → Option ℕ} {label : ℕ → ℕ} {n : ℕ} {order parents labels marks : List ℕ}
    (are : AreRanks child label n order parents labels marks) (tree : HasOnePath child) (width : ℕ → ℕ) where
  -- the root
  pub size_root : (sizes : List ℕ) → sizes ≡ 0 ∷ [] → AreSizes child width order sizes
  size_root sizes e m w lt leads =
      let top : m ≡ 0 = omega (arith, lt, ap length e) in
      let at : get_or order m 0 ≡ 0 = ap (λ k. get_or order k 0) top ∙ are.ranks.first in
      let empty : w ≡ [] = tree.one_path 0 w [] (leads ∙ ap Some at) refl in
      ap (λ k. get_or sizes k 0) top ∙ (ap (λ xs. get_or xs 0 0) e ∙ sym (ap (size width) empty))

  -- a rank more
  pub size_push : (sizes : List ℕ) (m s : ℕ) → 0 < m → m < length order → length sizes ≡ m → AreSizes child width order sizes
      → s ≡ get_or sizes (get_or parents m 0) 0 + width (get_or labels m 0)
      → AreSizes child width order (sizes ++ s ∷ [])
  size_push sizes m s pos lt each are_sizes e k w less leads = elim (cases_lt k (length sizes)) [
    | inl a ↦ old_at sizes s k a ∙ are_sizes k w a leads
    | inr b ↦
        let same : k ≡ m = omega (arith, b, less, length_push sizes s, each) in
        let up = are.ranks.earlier m pos lt in
        let text = text_at are.ranks (get_or parents m 0) (omega (arith, up, lt)) in
        let c = label (get_or order m 0) in
        let to : Leads child (text.0 ++ c ∷ []) (get_or order m 0) = walk-push child 0 text.0 c (get_or order (get_or parents m 0) 0) text.1
        ∙ are.ranks.edge m pos lt in
        let here : Leads child w (get_or order m 0) = leads ∙ ap (λ q. Some (get_or order q 0)) same in
        let one : w ≡ text.0 ++ c ∷ [] = tree.one_path (get_or order m 0) w (text.0 ++ c ∷ []) here to in
        let total : size width (text.0 ++ c ∷ []) ≡ size width text.0 + size width (c ∷ []) = size-append width text.0 (c ∷ []) in
        let front : get_or sizes (get_or parents m 0) 0 ≡ size width text.0 =
        are_sizes (get_or parents m 0) text.0 (omega (arith, up, each)) text.1 in
        let unit : width (get_or labels m 0) ≡ width c = ap width (are.ranks.labelled m pos lt) in
        let value : s ≡ size width (text.0 ++ c ∷ []) = omega (arith, e, front, unit, total) in
        get_or_push sizes s 0 k (each ∙ sym same) ∙ (value ∙ sym (ap (size width) one))
  ]

-- a rank more, of a text of at most four bytes a unit
pub short_push : (sizes : List ℕ) (m s : ℕ) → length sizes ≡ m → ((k : ℕ) → k < length sizes → get_or sizes k 0 ≤ 4 * k) → s ≤ 4 * m
    → (k : ℕ) → k < length (sizes ++ s ∷ []) → get_or (sizes ++ s ∷ []) k 0 ≤ 4 * k
short_push sizes m s each short fits k less = grind (arith, old_at sizes s k, get_or_push sizes s 0 k, length_push sizes s, short k)
