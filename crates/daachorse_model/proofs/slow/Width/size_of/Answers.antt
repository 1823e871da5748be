-- Each round moves the width of one unit from the rest to the sum, which fits, since a unit takes at most four bytes, as many as it has in the slice.
use Rattle.std.proofs.Common.{arith, ap}
use Rattle.daachorse_model.specs.Units.{size}
use Rattle.daachorse_model.specs.Slow.{width_of}
use Rattle.daachorse_model.proofs.SlowLaws.{size-most, size-drop, drop-all}
use Rattle.daachorse_model.proofs.slow.Width.size_of.Goals as goal

pub overflow_add-size : goal.overflow_add-size
overflow_add-size c =
    let next = size-drop (width_of c.args.self) c.args.text.now c.loop-unit.unit-index c.loop-unit-test.true in
    omega (arith, c.loop-unit.invariant, next, c.of-size.ensures, size-most c.args.self c.args.text.now)

pub loop-unit-preserved : goal.loop-unit-preserved
loop-unit-preserved c =
    let next = size-drop (width_of c.args.self) c.args.text.now c.loop-unit.unit-index c.loop-unit-test.true in
    omega (arith, c.loop-unit.invariant, next, c.of-size.ensures)

pub returns : goal.returns
returns c =
    let none = ap (size (width_of c.args.self)) (drop-all c.args.text.now c.loop-unit.unit-index (omega arith)) in
    omega (arith, c.loop-unit.invariant, none)
