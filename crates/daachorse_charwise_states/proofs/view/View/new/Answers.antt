-- The parts that are borrowed are valid and for these searches, and the output that the view keeps of the root is read off the element that stands first.
use Rattle.std.proofs.Common.{ap, ◌∙◌}
use Rattle.std.proofs.lemmas.List.{get_or_default}
use Rattle.daachorse_charwise_states.specs.Elements.{output_in, vacant}
use Rattle.daachorse_charwise_states.proofs.view.View.new.Goals as goal

pub invariant_of-result : goal.invariant_of-result
invariant_of-result g c = (
  rw (c.table.ensures.is, c.alphabet_size.ensures) c.requires,
  c.output_pos-root_output.ensures ∙ ap output_in (get_or_default c.args.states.now 0 _ vacant c.requires.valid.grouped.some),
)
