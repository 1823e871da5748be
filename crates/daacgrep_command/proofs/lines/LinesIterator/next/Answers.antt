-- The first line is taken off.
use Rattle.std.proofs.Common.{◌≡◌, ℕ, ◌+◌, ◌<◌, ◌==◌, Bool, false, List, [], ◌∷◌, length, take, sym, ap, ◌∙◌, arith}
use Rattle.std.proofs.lemmas.List.{take_rest}
use Rattle.daacgrep_command.specs.Lines.{lines_from, pieces_of}
use Rattle.daacgrep_command.proofs.Cuts.{lines_first}
use Rattle.daacgrep_command.proofs.lines.LinesIterator.next.Goals as goal

not_empty : (text : List ℕ) (b : Bool) → b ≡ (length text == 0) → b ≡ false → 0 < length text
not_empty [] b e f = cc
not_empty (x ∷ text) b e f = omega arith

pub returns-clause-steps : goal.returns-clause-steps
returns-clause-steps c =
    let s = c.self.inside in
    let l = c.first_line-len in
    let some = not_empty s.rest.now c.is_empty.result c.is_empty.ensures c.if-is_empty.false in
    sym c.self.view_is
    ∙ lines_first s.mark s.given s.start s.rest.now l.result.0 l.result.1 l.ensures.len some l.ensures.end
    ∙ ap (λ text. record { number = s.given + 1; start = s.start; bytes = take l.result.0 s.rest.now } ∷ lines_from (s.given + 1) (s.start + l.result.1) (pieces_of s.mark text)) (sym (take_rest s.rest.now l.result.1))

pub returns-clause-goes : goal.returns-clause-goes
returns-clause-goes c =
    let shorter = ap length (returns-clause-steps c) in
    record { on = λ finite. (tt, tt, omega (arith, shorter)); keeps = tt; rests = λ finite. tt }
