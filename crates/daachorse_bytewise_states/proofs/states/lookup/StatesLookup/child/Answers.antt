-- In whole blocks a base leads by each byte to an element.
use Rattle.std.proofs.Common.{◌<◌, arith}
use Rattle.daachorse_bytewise_states.specs.Parts.{count}
use Rattle.daachorse_bytewise_states.proofs.ChildLaws.{moved_inside}
use Rattle.daachorse_bytewise_states.proofs.states.lookup.StatesLookup.child.Goals as goal

pub check_at-requires : goal.check_at-requires
check_at-requires g c =
    let p = c.elements-elements.result in
    let base : c.get.result < count p = omega (arith, c.in_ok-base.ensures.inside, c.get.ensures.value) in
    moved_inside (count p) c.get.result c.from.result c.elements-elements.ensures.valid.grouped.blocks base (omega arith)
