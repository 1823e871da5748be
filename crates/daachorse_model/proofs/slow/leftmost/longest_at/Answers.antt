-- A longer beginning that is a key takes the place of the best so far, which is how the definition chooses, and no beginning has more units than the text.
use Rattle.std.proofs.Common.{◌∙◌, length, take, slice_get, arith}
use Rattle.std.proofs.lemmas.List.{length-take-le}
use Rattle.daachorse_model.specs.Dictionary.{values_of, registrations_of}
use Rattle.daachorse_model.proofs.SlowLeftmost.{longest_key-next, within-longer}
use Rattle.daachorse_model.proofs.slow.leftmost.longest_at.Goals as goal

pub loop-units-preserved : goal.loop-units-preserved
loop-units-preserved g c =
    let K = values_of (registrations_of c.args.patterns.now) in (
      longest_key-next K c.args.text.now c.loop-units.units c.loop-units.best c.longer-best.result c.loop-units-test.true c.longer-best.ensures ∙ c.loop-units.invariant.0,
      within-longer (slice_get (K (take c.loop-units.units c.args.text.now)) 0) (length (take c.loop-units.units c.args.text.now)) (length c.args.text.now) c.loop-units.best c.longer-best.result
          (rw (length-take-le c.loop-units.units c.args.text.now (omega arith)) (omega arith)) c.longer-best.ensures c.loop-units.invariant.1,
    )
