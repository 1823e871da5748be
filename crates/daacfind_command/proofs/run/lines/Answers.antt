-- An empty piece at the end goes, and no other.
use Rattle.std.proofs.Common.{◌≡◌, map, length, true, ap, sym, ◌∙◌}
use Rattle.daachorse_model.specs.Program.{without_empty_end}
use Rattle.daacfind_command.proofs.Pieces.{texts_without_last, texts_with_last}
use Rattle.daacfind_command.proofs.run.lines.Goals as goal
use Rattle.daacfind_command.proofs.run.lines.Goals.{then-ends_empty, else-ends_empty}

pub returns : goal.returns
returns g c =
    let whole = ap without_empty_end c.in_ok-lines.ensures in
    let all = c.deref.ensures in
    elim c.if-ends_empty.branch [
      | then-ends_empty w ↦
          ap (λ v. map (λ line. line.now) v.items) w.lines-is
          ∙ texts_without_last _ c.in_ok-lines.lines.items w.pop.new.self.items (sym all.len ∙ ap length all.value)
          w.pop.ensures.rest (rw all.value at (c.ends_empty.ensures.0 w.if-ends_empty.true)) ∙ whole
      | else-ends_empty w ↦
          ap (λ v. map (λ line. line.now) v.items) w.lines-is
          ∙ texts_with_last c.in_ok-lines.lines.items
          (λ h. let empty : c.ends_empty.result ≡ true = c.ends_empty.ensures.1 (rw all.value h) in
          cc (empty, w.if-ends_empty.false)) ∙ whole
    ]
