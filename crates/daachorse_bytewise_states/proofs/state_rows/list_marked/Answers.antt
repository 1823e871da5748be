-- A byte is listed behind the smaller ones where it is marked.
use Rattle.std.proofs.Common.{◌≡◌, ℕ, ◌+◌, false, List, sym, ◌∙◌, subst, arith}
use Rattle.std.proofs.lemmas.Bool.{false≢true}
use Rattle.std.proofs.lemmas.List.{get_or_read}
use Rattle.daachorse_rows.specs.Rows.{IsListOf}
use Rattle.daachorse_rows.proofs.ListedLaws.{IsListOf-none, IsListOf-push, IsListOf-kept}
use Rattle.daachorse_bytewise_states.specs.EdgeBytes.{IsMarked}
use Rattle.daachorse_bytewise_states.proofs.state_rows.list_marked.Goals.{then-index+in_ok-push, else-index}
use Rattle.daachorse_bytewise_states.proofs.state_rows.list_marked.Goals as goal

pub loop-byte-init : goal.loop-byte-init
loop-byte-init g c =
    let P : List ℕ → Type 0 = λ xs. IsListOf (IsMarked c.args.marks.now.items) 0 xs in
    subst P (sym c.new-bytes.ensures.items) (IsListOf-none (IsMarked c.args.marks.now.items))

pub loop-byte-preserved : goal.loop-byte-preserved
loop-byte-preserved g c =
    let marked = IsMarked c.args.marks.now.items in
    let n = c.loop-byte.byte in
    let read = get_or_read c.args.marks.now.items n c.index.result.now (omega (arith, c.requires, c.loop-byte-test.true)) c.index.ensures false in
    elim c.if-index.branch [
      | then-index+in_ok-push w ↦ IsListOf-push marked n c.loop-byte.bytes.items c.if-index.bytes w.push.new.self c.loop-byte.invariant w.bytes-is w.in_ok-push.ensures.items (sym read ∙ w.if-index.true)
      | else-index w ↦ IsListOf-kept marked n c.if-index.bytes c.loop-byte.bytes c.loop-byte.invariant w.bytes-is (λ held. false≢true (sym w.if-index.false ∙ read ∙ held))
    ]

pub returns : goal.returns
returns g c =
    let P : ℕ → Type 0 = λ n. IsListOf (IsMarked c.args.marks.now.items) n c.loop-byte.bytes.items in
    let all : c.loop-byte.byte ≡ 256 = omega (arith, c.loop-byte.auto.byte-end, c.loop-byte-test.false) in
    subst P all c.loop-byte.invariant
