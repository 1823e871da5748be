-- The highest bit is that of the first window.
use Rattle.std.proofs.Common.{arith, ap, ◌∙◌}
use Rattle.daachorse_model.specs.Filter.{is_clear}
use Rattle.daachorse_prefilter.proofs.ClearBits.{is_clear_zero}
use Rattle.daachorse_prefilter.proofs.Rounds.{first_window, highest}
use Rattle.daachorse_prefilter.proofs.prefilter.scan.first_in_round.Goals as goal

pub overflow_sub-result : goal.overflow_sub-result
overflow_sub-result c =
    let top = highest c.args.passing c.if-passing-eq0.false (omega arith) in
    c.requires _ top.0.set

pub returns : goal.returns
returns c = first_window c.args.end c.args.passing c.if-passing-eq0.false (omega arith)

pub returns-then-passing-eq0 : goal.returns-then-passing-eq0
returns-then-passing-eq0 c = λ b. ap (λ n. is_clear n b) c.if-passing-eq0.true ∙ is_clear_zero b
