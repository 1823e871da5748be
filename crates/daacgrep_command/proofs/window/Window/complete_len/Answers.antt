-- No mark stands in what was held before, nor in what is new.
use Rattle.std.proofs.Common.{◌-◌, length, ap, sym, ◌∙◌}
use Rattle.daacgrep_command.proofs.Marks.{none_in}
use Rattle.daacgrep_command.proofs.window.Window.complete_len.Goals as goal

pub returns-in-0-clause-rest : goal.returns-in-0-clause-rest
returns-in-0-clause-rest c =
    let held = c.deref.ensures.value ∙ ap (λ h. h.bytes) c.self.view_is in
    let len = c.len.ensures ∙ sym c.deref.ensures.len ∙ ap length held in
    none_in c.args.self.now.mark _ c.args.self.now.bytes _ c.args.count _ _ (ap (λ h. h.mark) c.self.view_is) held
    (ap (λ n. n - c.args.count) len) c.in-0.is c.requires.none c.after_last.ensures.last
