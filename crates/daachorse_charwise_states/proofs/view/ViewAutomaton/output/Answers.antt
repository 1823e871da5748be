-- Positions count from 1 and fall along a chain, so the outputs from a position on are the one that stands there and those from its parent on.
use Rattle.std.proofs.Common.{◌≡◌, ◌<◌, ◌-◌, ◌∙◌, ap, arith, get_or}
use Rattle.daachorse_array.proofs.OutputLaws.{output_read}
use Rattle.daachorse_charwise_states.proofs.ViewLaws.{view_valid}
use Rattle.daachorse_charwise_states.proofs.view.ViewAutomaton.output.Goals as goal

pub returns-clause-value : goal.returns-clause-value
returns-clause-value g c =
    let o = c.index-outputs-get.result in
    let low : 0 < c.args.position.value = omega (arith, c.get.ensures) in
    let read : o ≡ get_or c.args.self.now.outputs (c.args.position.value - 1) o =
    c.index-outputs-get.is ∙ (ap (λ p. get_or p.outputs (c.get.result - 1) o) c.self.view_is ∙ ap (λ q. get_or c.args.self.now.outputs (q - 1) o) c.get.ensures.value) in
    (output_read _ (view_valid _ _ _ c.self.view_is c.self.invariant.0).sound.parents_fall c.args.position.value o low c.requires read).1
