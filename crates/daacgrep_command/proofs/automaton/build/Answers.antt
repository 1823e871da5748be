-- What was built of the patterns of the lines holds them.
use Rattle.std.proofs.Common.{ℕ, List, map, ap, ◌∙◌}
use Rattle.std.specs.Borrow.{Bor}
use Rattle.daacgrep_command.specs.Rules.{pattern_of}
use Rattle.daacgrep_command.proofs.automaton.build.Goals as goal

pub returns-clause-ok : goal.returns-clause-ok
returns-clause-ok c =
    let N = map (λ (r : Bor (List ℕ)). r.now) in
    let patterns = ap N c.deref.ensures.value ∙ c.in_ok-patterns.ensures ∙ ap (λ b. map (pattern_of b) (N c.args.rules.now)) c.has.ensures in
    rw (patterns, c.kind.ensures, c.has-folds.ensures) at c.build_of.ensures.ok

pub returns-clause-err : goal.returns-clause-err
returns-clause-err c =
    let N = map (λ (r : Bor (List ℕ)). r.now) in
    let patterns = ap N c.deref.ensures.value ∙ c.in_ok-patterns.ensures ∙ ap (λ b. map (pattern_of b) (N c.args.rules.now)) c.has.ensures in
    rw (patterns, c.kind.ensures, c.has-folds.ensures) at c.build_of.ensures.err
