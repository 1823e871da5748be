-- A code is marked where it is free, and refuted where it is taken or past the alphabet.
use Rattle.std.proofs.Common.{◌≡◌, ℕ, ◌+◌, ◌<◌, ◌∙◌, Bool, false, List, length, slice_index, sym, ap, subst, refl, arith}
use Rattle.std.proofs.lemmas.List.{get_or_read}
use Rattle.std.proofs.lemmas.Result.{IfOk-from_err}
use Rattle.std.proofs.lemmas.Grind.{common_steps}
use Rattle.daachorse_charwise_states.specs.Codings.{Coding}
use Rattle.daachorse_charwise_states.specs.CodingForms.{coding_from}
use Rattle.daachorse_charwise_states.proofs.Entries.{code_read, none_read}
use Rattle.daachorse_charwise_states.proofs.Taken.{AreTaken, taken_all, taken_left, taken_more, taken_past, taken_twice}
use Rattle.daachorse_charwise_states.proofs.mapper.are_codes.Goals.{then-code+else-code-alphabet_size+else-index, else-code}
use Rattle.daachorse_charwise_states.proofs.mapper.are_codes.Goals as goal

pub returns-then-code-alphabet_size-clause-ok : goal.returns-then-code-alphabet_size-clause-ok
returns-then-code-alphabet_size-clause-ok g c =
    let table = c.args.table.now in let n = c.loop-code.code-index in
    let coding : Coding = coding_from (table, c.args.alphabet_size) in
    (λ e. absurd (cc), λ right. absurd (taken_past coding n (slice_index table n) (code_read coding table refl n c.loop-code-test.true c.if-code.true) c.if-code-alphabet_size.true right))

pub returns-then-index-clause-ok : goal.returns-then-index-clause-ok
returns-then-index-clause-ok g c =
    let table = c.args.table.now in let n = c.loop-code.code-index in
    let coding : Coding = coding_from (table, c.args.alphabet_size) in
    let so : AreTaken coding n c.loop-code.taken.items = c.loop-code.invariant.taken in
    let inside : slice_index table n < length c.loop-code.taken.items = omega (arith, c.if-code-alphabet_size.false, so.size) in
    let mark = get_or_read c.loop-code.taken.items (slice_index table n) c.index.result.now inside c.index.ensures false in
    (λ e. absurd (cc), λ right. absurd (taken_twice coding n (slice_index table n) c.loop-code.taken.items (code_read coding table refl n c.loop-code-test.true c.if-code.true) so (sym mark ∙ c.if-index.true) right))

pub loop-code-preserved : goal.loop-code-preserved
loop-code-preserved g c =
    let table = c.args.table.now in let n = c.loop-code.code-index in
    let coding : Coding = coding_from (table, c.args.alphabet_size) in
    let so : AreTaken coding n c.loop-code.taken.items = c.loop-code.invariant.taken in
    elim c.if-code.branch [
      | then-code+else-code-alphabet_size+else-index w ↦ record {
        taken =
            let inside : slice_index table n < length c.loop-code.taken.items = omega (arith, w.if-code-alphabet_size.false, so.size) in
            let mark = get_or_read c.loop-code.taken.items (slice_index table n) w.index.result.now inside w.index.ensures false in
            let code = code_read coding table refl n c.loop-code-test.true w.if-code.true in
            let more = taken_more coding n (slice_index table n) c.loop-code.taken.items code so (sym mark ∙ w.if-index.false) w.if-code-alphabet_size.false in
            let P : List Bool → Type 0 = λ l. AreTaken coding (n + 1) l in
            subst P (sym (ap (λ v. v.items) w.taken-is)) more;
      }
      | else-code w ↦ record {
        taken =
            let left = taken_left coding n c.loop-code.taken.items (none_read coding table refl n c.loop-code-test.true w.if-code.false) so in
            let P : List Bool → Type 0 = λ l. AreTaken coding (n + 1) l in
            subst P (sym (ap (λ v. v.items) w.taken-is)) left;
      }
    ]

pub returns-clause-ok : goal.returns-clause-ok
returns-clause-ok g c =
    let coding : Coding = coding_from (c.args.table.now, c.args.alphabet_size) in
    let end : c.loop-code.code-index ≡ length c.args.table.now = omega (arith, c.loop-code-test.false, c.loop-code.auto.code-index-end) in
    let P : ℕ → Type 0 = λ n. AreTaken coding n c.loop-code.taken.items in
    (λ e. taken_all coding c.loop-code.taken.items (subst P end c.loop-code.invariant.taken), λ right. refl)

pub returns-in_err-taken-clause-ok : goal.returns-in_err-taken-clause-ok
returns-in_err-taken-clause-ok g c = IfOk-from_err c.from_residual.result _ c.from_residual.ensures.0

pub loop-code-init : goal.loop-code-init
loop-code-init g c = grind (arith, common_steps)
