-- The first of the lines without a match is the next.
use Rattle.std.proofs.Common.{◌≡◌, ◌+◌, ◌<◌, ◌≤◌, ◌⊎◌, false, drop, length, ap, ◌∙◌, subst, arith}
use Rattle.std.proofs.lemmas.List.{take_rest}
use Rattle.daacgrep_command.specs.Ahead.{first_len}
use Rattle.daacgrep_command.specs.Sought.{sought_of}
use Rattle.daacgrep_command.proofs.Fronts.{first_taken}
use Rattle.daacgrep_command.proofs.ahead.next_without_match.Goals as goal

pub overflow_sub-result : goal.overflow_sub-result
overflow_sub-result g c =
    let r = c.clear_lines-skip in
    let line = c.first_line-len in
    let rest = drop r.result.0 c.args.text.now in
    let cut = take_rest c.args.text.now r.result.0 in
    let len : line.result.0 ≡ first_len c.args.mark rest = line.ensures.len ∙ ap (first_len c.args.mark) cut in
    let end = subst (λ t. ((line.result.0 < length t) × (line.result.1 ≡ line.result.0 + 1)) ⊎ ((length t ≤ line.result.0) × (line.result.1 ≡ line.result.0))) cut line.ensures.end in
    (first_taken (sought_of c.args.searcher.now) c.args.mark false r.result.1 line.result.0 line.result.1 rest r.ensures.clear (omega (arith, c.if-clear-eq0.false)) len end).0

pub returns : goal.returns
returns g c =
    let s = sought_of c.args.searcher.now in
    let r = c.clear_lines-skip in
    let line = c.first_line-len in
    let rest = drop r.result.0 c.args.text.now in
    let cut = take_rest c.args.text.now r.result.0 in
    let len : line.result.0 ≡ first_len c.args.mark rest = line.ensures.len ∙ ap (first_len c.args.mark) cut in
    let end = subst (λ t. ((line.result.0 < length t) × (line.result.1 ≡ line.result.0 + 1)) ⊎ ((length t ≤ line.result.0) × (line.result.1 ≡ line.result.0))) cut line.ensures.end in
    let first = first_taken s c.args.mark false r.result.1 line.result.0 line.result.1 rest r.ensures.clear (omega (arith, c.if-clear-eq0.false)) len end in
    record { lines = r.ensures.skipped.0; skipped = r.ensures.skipped.1; next = first.1; clear = first.2 }
