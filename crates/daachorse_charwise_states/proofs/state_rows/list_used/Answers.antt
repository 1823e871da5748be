-- A label is listed behind the smaller ones where some character with a code has it.
use Rattle.std.proofs.Common.{◌≡◌, ℕ, List, sym, subst, arith}
use Rattle.std.proofs.lemmas.Bool.{iff_false}
use Rattle.daachorse_rows.specs.Rows.{IsListOf}
use Rattle.daachorse_rows.proofs.ListedLaws.{IsListOf-none, IsListOf-push, IsListOf-kept}
use Rattle.daachorse_charwise_states.specs.StateRows.{IsUsed}
use Rattle.daachorse_charwise_states.proofs.state_rows.list_used.Goals.{then-is_used+in_ok-push, else-is_used}
use Rattle.daachorse_charwise_states.proofs.state_rows.list_used.Goals as goal

pub loop-label-init : goal.loop-label-init
loop-label-init g c =
    let P : List ℕ → Type 0 = λ xs. IsListOf (IsUsed c.args.elements.now) 0 xs in
    subst P (sym c.new-labels.ensures.items) (IsListOf-none (IsUsed c.args.elements.now))

pub loop-label-preserved : goal.loop-label-preserved
loop-label-preserved g c =
    let used = IsUsed c.args.elements.now in
    let n = c.loop-label.label in
    elim c.if-is_used.branch [
      | then-is_used+in_ok-push w ↦ IsListOf-push used n c.loop-label.labels.items c.if-is_used.labels w.push.new.self c.loop-label.invariant w.labels-is w.in_ok-push.ensures.items (c.is_used.ensures.0 w.if-is_used.true)
      | else-is_used w ↦ IsListOf-kept used n c.if-is_used.labels c.loop-label.labels c.loop-label.invariant w.labels-is (iff_false c.is_used.ensures w.if-is_used.false)
    ]

pub returns-clause-ok : goal.returns-clause-ok
returns-clause-ok g c =
    let P : ℕ → Type 0 = λ n. IsListOf (IsUsed c.args.elements.now) n c.loop-label.labels.items in
    let all : c.loop-label.label ≡ 638 = omega (arith, c.loop-label.auto.label-end, c.loop-label-test.false) in
    subst P all c.loop-label.invariant
