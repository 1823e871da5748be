-- The table that the ranks fill is the coding of the frequencies.
use Rattle.std.proofs.Common.{◌≡◌, ℕ, ◌<◌, ◌^◌, List, length, nat_lt, subst, arith, rules}
use Rattle.std.proofs.lemmas.List.Sums.{count_by-le-length}
use Rattle.std.proofs.lemmas.Result.{IfOk-from_err}
use Rattle.std.proofs.lemmas.Grind.{common_steps}
use Rattle.daachorse_charwise_states.specs.Codings.{Coding}
use Rattle.daachorse_charwise_states.specs.Ranks.{IsFilled}
use Rattle.daachorse_charwise_states.proofs.Coded.{coding_from}
use Rattle.daachorse_charwise_states.proofs.mapper.CodeMapper.new.Goals as goal

pub returns-clause-ok : goal.returns-clause-ok
returns-clause-ok g c =
    let ranked : List (ℕ × ℕ) = c.in_ok-ranked.ranked.items in
    let table : List ℕ = c.in_ok-table.table.items in
    let m : Coding = record { table = table; alphabet_size = c.len.result } in
    let r = c.in_ok-ranked.ensures.ranked in
    let size : c.len.result ≡ length ranked = search rules in
    let few : length ranked < 2 ^ 32 = omega (arith, r.size, count_by-le-length (λ n. nat_lt 0 n) c.args.freqs.now) in
    let F : List (ℕ × ℕ) → Type 0 = λ xs. IsFilled xs (length xs) table in
    let filled = subst F c.deref.ensures.value c.in_ok-table.ensures.filled in
    coding_from c.args.freqs.now ranked m few r size c.in_ok-table.ensures.len filled

pub returns-in_err-ranked-clause-ok : goal.returns-in_err-ranked-clause-ok
returns-in_err-ranked-clause-ok g c = IfOk-from_err c.from_residual.result _ c.from_residual.ensures.0

pub fill-requires-clause-few : goal.fill-requires-clause-few
fill-requires-clause-few g c = grind (arith, common_steps)

pub returns-in_err-table-clause-ok : goal.returns-in_err-table-clause-ok
returns-in_err-table-clause-ok g c = IfOk-from_err c.from_residual-in_err-table.result _ c.from_residual-in_err-table.ensures.0

pub overflow_cast-result : goal.overflow_cast-result
overflow_cast-result g c = grind (arith, common_steps)
