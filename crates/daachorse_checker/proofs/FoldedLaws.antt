-- Each child that a text leads to has a rank, where its unit is the label.
use Rattle.std.proofs.Common.{◌≡◌, ℕ, ◌<◌, List, length, Option, Some, sym, ap, ◌∙◌, arith, get_or}
use Rattle.daachorse_model.specs.Folding.{folded_unit}
use Rattle.daachorse_array.specs.Edges.{TellChildren}
use Rattle.daachorse_checker.specs.Folded.{AreFolded, HasFoldedUnits}
use Rattle.daachorse_checker.specs.Ranks.{AreRanks}
use Rattle.daachorse_checker.proofs.MemberLaws.{label, one_unit}
use Rattle.daachorse_checker.proofs.TreeLaws.{found, text_at}

module _ {child : ℕ → ℕ → Option ℕ} (edge : ℕ → Option (ℕ × ℕ)) {n : ℕ} {order parents labels marks : List ℕ}
    (are : AreRanks child (label edge) n order parents labels marks) where
  pub folded_ranks : (group : ℕ → Option ℕ) → TellChildren child group edge n → AreFolded labels → HasFoldedUnits child
  folded_ranks group tell all w i c j leads to =
      let unit : (s c t : ℕ) → (m : ℕ) × (m < length order) × (get_or order m 0 ≡ s) → child s c ≡ Some t → c ≡ label edge t =
      λ s c t here to. one_unit tell s c t (omega (arith, are.ranks.inside here.0 here.1, are.marks_each, here.2)) to in
      let parent = found are.ranks unit are.closed w i leads in
      let rank = are.closed parent.0 parent.1 c j (ap (λ s. child s c) parent.2 ∙ to) in
      let same : get_or labels rank.0 0 ≡ c = are.ranks.labelled rank.0 rank.1 rank.2 ∙ ap (label edge) rank.3
      ∙ sym (unit i c j parent to) in
      ap folded_unit (sym same) ∙ all rank.0 rank.1 (omega (arith, rank.2, are.ranks.label_each)) ∙ same

  pub ranks_folded : HasFoldedUnits child → AreFolded labels
  ranks_folded all m pos less =
      let lt : m < length order = omega (arith, less, are.ranks.label_each) in
      let up : get_or parents m 0 < length order = omega (arith, lt, are.ranks.earlier m pos lt) in
      let text = text_at are.ranks (get_or parents m 0) up in
      let is = are.ranks.labelled m pos lt in
      ap folded_unit is ∙ all text.0 (get_or order (get_or parents m 0) 0) (label edge (get_or order m 0)) (get_or order m 0) text.1
      (are.ranks.edge m pos lt) ∙ sym is
