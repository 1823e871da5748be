-- A label is folded where it is below A or above Z.
use Rattle.std.proofs.Common.{◌≡◌, ℕ, ◌<◌, ◌≤◌, ◌⊎◌, get_or, inl, inr, arith}
use Rattle.std.proofs.lemmas.Bool.{false≢true}
use borrow.Author.Count.{below_more}
use Rattle.daachorse_model.specs.Folding.{folded_unit}
use Rattle.daachorse_model.proofs.FoldLaws.{folded_unit-is}
use Rattle.daachorse_checker.proofs.folded.are_folded.Goals as goal
use Rattle.daachorse_checker.proofs.folded.are_folded.Goals.{else-label-from-via-then-label-from+else-label-from-2}
use Rattle.daachorse_checker.proofs.folded.are_folded.Goals.{else-label-from-via-else-label-from}

outside : (u : ℕ) → (u < 65) ⊎ (90 < u) → folded_unit u ≡ u
outside u (inl low) = (folded_unit-is u).1 low
outside u (inr high) = (folded_unit-is u).2 high

pub returns-then-label-from-2 : goal.returns-then-label-from-2
returns-then-label-from-2 c =
    let m = c.loop-rank.rank in let label = get_or c.args.labels.now m 0 in
    let low : 65 ≤ label = omega (arith, c.if-label-from.true, c.from.ensures) in
    let high : label ≤ 90 = omega (arith, c.if-label-from-2.true, c.from-then-label-from.ensures) in (
      λ e. absurd (false≢true e),
      λ all.
          absurd (omega (arith, all m (omega (arith, c.loop-rank.auto.rank)) c.loop-rank-test.true, (folded_unit-is label).0 (low, high))),
    )

pub loop-rank-preserved : goal.loop-rank-preserved
loop-rank-preserved c =
    let at = c.loop-rank.rank in let labels = c.args.labels.now in
    let here : folded_unit (get_or labels at 0) ≡ get_or labels at 0 = outside (get_or labels at 0) (elim c.else-label-from.branch [
      | else-label-from-via-then-label-from+else-label-from-2 w ↦
          inr (omega (arith, w.if-label-from-2.false, w.from-then-label-from.ensures))
      | else-label-from-via-else-label-from w ↦ inl (omega (arith, w.if-label-from.false, c.from.ensures))
    ]) in
    let P : ℕ → Type 0 = λ k. 0 < k → folded_unit (get_or labels k 0) ≡ get_or labels k 0 in
    record {
      each = λ m pos less. below_more P at (λ k below pos. c.loop-rank.invariant.each k pos below) (λ pos. here) m less pos;
    }
