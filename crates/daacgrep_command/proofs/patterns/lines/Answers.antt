-- A line more was taken, or none is left.
use Rattle.std.proofs.Common.{◌++◌, map, ap, refl, ◌∙◌}
use Rattle.daachorse_model.specs.Program.{pattern_lines}
use Rattle.daacgrep_command.specs.Lines.{TextLine, seen}
use Rattle.daacgrep_command.proofs.Asking.{line_taken, lines_bytes, lines_taken}
use Rattle.daacgrep_command.proofs.patterns.lines.Goals as goal

pub loop-line-init : goal.loop-line-init
loop-line-init c =
    let begins = c.into_iter-line-iterator.ensures.into_iter_gives ∙ c.new-line-items.ensures in
    ap (λ v. map (λ b. b.now) v ++ map (λ (t : TextLine). t.bytes) c.into_iter-line-iterator.result) c.new-lines.ensures.items
    ∙ ap (map (λ (t : TextLine). t.bytes)) begins ∙ lines_bytes 0 0 (pattern_lines c.args.text.now)

pub loop-line-preserved : goal.loop-line-preserved
loop-line-preserved c =
    let l = c.loop-line in
    line_taken l.lines.items _ c.in-Some.line.bytes (seen c.in-Some.line) l.line-iterator c.next.new.self _ l.invariant c.in-Some.ensures.steps refl c.in_ok-push.ensures.items

pub returns : goal.returns
returns c =
    let l = c.loop-line in
    lines_taken l.lines.items l.line-iterator _ l.invariant c.in-None.ensures.steps.0
