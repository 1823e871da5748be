-- The steps joined: a base found, the children taken, the base marked; no block gets more bases than elements.
use Rattle.daachorse_placement.proofs.FreeListLaws.{has_placed, full_more}
use Rattle.daachorse_placement.proofs.build_helper.free_list.FreeList.place.Goals as goal

pub returns-clause-full : goal.returns-clause-full
returns-clause-full g c =
    let placed = has_placed c.args.self.now c.find_base.new.self c.take.new.self c.use_base.new.self c.args.children.now c.in_ok-base.base c.args.tracked c.requires.whole c.in_ok-base.ensures.whole c.in_ok-base.ensures.more c.in_ok-base.ensures.found c.take.ensures.taken c.use_base.ensures.marked in
    full_more c.args.self.now c.use_base.new.self c.args.children.now c.in_ok-base.base c.args.tracked c.use_base.ensures.whole placed c.requires.some c.requires.labels c.requires.full

pub returns-clause-placed : goal.returns-clause-placed
returns-clause-placed g c =
    has_placed c.args.self.now c.find_base.new.self c.take.new.self c.use_base.new.self c.args.children.now _ c.args.tracked c.requires.whole c.in_ok-base.ensures.whole
    c.in_ok-base.ensures.more c.in_ok-base.ensures.found c.take.ensures.taken c.use_base.ensures.marked
