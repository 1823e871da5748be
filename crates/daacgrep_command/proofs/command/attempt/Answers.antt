-- How an attempt ends by its options is how it ends by its words.
use Rattle.std.proofs.Common.{ℕ, List, map, inl, refl}
use Rattle.std.specs.Borrow.{Bor}
use Rattle.std.proofs.KnownBytes.{Keeps-refl}
use Rattle.std.proofs.lemmas.Result.{err_from_is_err_and}
use Rattle.daacgrep_command.proofs.Asking.{ends_by}
use Rattle.daacgrep_command.proofs.command.attempt.Goals as goal

pub returns-in_err-options-clause-ends : goal.returns-in_err-options-clause-ends
returns-in_err-options-clause-ends g c =
    let p = err_from_is_err_and c.from_residual.result c.from_residual.ensures.1 in
    rw p.1 (inl (record { saved = refl; taken = Keeps-refl _; unfailed = refl }, (_, p.2, c.in_err-options.ensures.err)))

pub returns-clause-ends : goal.returns-clause-ends
returns-clause-ends g c =
    let words = map (λ (w : Bor (List ℕ)). w.now) c.args.words.now in
    let o = c.in_ok-options.ensures in
    ends_by words c.in_ok-options.options _ _ _ _ _ _ c.answer.result o.met o.ok c.answer.ensures.ends
