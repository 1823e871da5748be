-- In valid parts codes are below the length of a block, which is a power of two below 2 ^ 32.
use Rattle.daachorse_charwise_states.proofs.LabelLaws.{code_fits}
use Rattle.daachorse_charwise_states.proofs.ViewLaws.{view_valid}
use Rattle.daachorse_charwise_states.proofs.view.View.codes_fit.Goals as goal

pub returns : goal.returns
returns g c = code_fits c.args.self.now (view_valid _ _ _ c.self.view_is c.self.invariant.0)
