-- Behind the first tab stands what stands behind the first line.
use Rattle.std.proofs.Common.{◌==◌, ◌∙◌}
use Rattle.std.proofs.lemmas.List.{take_rest}
use Rattle.daacgrep_command.proofs.Cuts.{behind_mark}
use Rattle.daacgrep_command.proofs.rule.value_of.Goals as goal

pub returns : goal.returns
returns c =
    let line = c.args.line.now in
    let l = c.first_line-end in
    take_rest line l.result.1 ∙ behind_mark (λ b. b == 9) line l.result.0 l.result.1 l.ensures.len l.ensures.end
