-- A fourth byte of 0 changes nothing.
use Rattle.std.proofs.Common.{arith}
use Rattle.daachorse_prefilter.proofs.buckets.slots.slot_of.Goals as goal

pub returns-clause-is : goal.returns-clause-is
returns-clause-is c =
    c.slot.ensures.is c.args.first c.args.second c.args.third 0 (omega (arith, c.ranges.first.fits)) (omega (arith, c.ranges.second.fits)) (omega (arith, c.ranges.third.fits)) (omega (arith, c.from_le_bytes.ensures))
