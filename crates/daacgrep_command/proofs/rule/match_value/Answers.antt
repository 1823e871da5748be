-- The line is that of the pattern's number, and there may be none.
use Rattle.std.proofs.Common.{ℕ, List, [], map, ap, sym, ◌∙◌, arith}
use Rattle.std.proofs.lemmas.List.{get_or-map, get_or_past, length-map}
use Rattle.std.specs.Borrow.{Bor}
use Rattle.daacgrep_command.specs.Rules.{value_of}
use Rattle.daacgrep_command.proofs.Asking.{name_at_end}
use Rattle.daacgrep_command.proofs.rule.match_value.Goals as goal

pub returns-then-number-count : goal.returns-then-number-count
unfolding name_at_end
returns-then-number-count c =
    c.value_of.ensures ∙ ap value_of (sym (get_or-map (λ (r : Bor (List ℕ)). r.now) c.args.rules.now c.args.found.value name_at_end [] c.if-number-count.true))

pub returns-else-number-count : goal.returns-else-number-count
returns-else-number-count c =
    let N = λ (r : Bor (List ℕ)). r.now in
    sym (ap value_of (get_or_past (map N c.args.rules.now) c.args.found.value [] (omega (arith, c.if-number-count.false, length-map c.args.rules.now N))))
