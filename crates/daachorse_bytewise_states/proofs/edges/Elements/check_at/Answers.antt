-- In whole blocks a byte leads from an element to an element.
use Rattle.std.proofs.Common.{◌≡◌, ◌%◌}
use Rattle.daachorse_bytewise_states.specs.Parts.{count}
use Rattle.daachorse_bytewise_states.proofs.ChildLaws.{moved_inside}
use Rattle.daachorse_bytewise_states.proofs.edges.Elements.check_at.Goals as goal

pub returns-then-is_leftmost-clause-inside : goal.returns-then-is_leftmost-clause-inside
returns-then-is_leftmost-clause-inside g c =
    let blocks : count c.args.self.now % 256 ≡ 0 = rw (← c.self.view_is) c.self.invariant.0.blocks in
    moved_inside (count c.args.self.now) c.args.element c.check.result blocks c.requires c.check.type_inv

pub returns-else-is_leftmost-clause-inside : goal.returns-else-is_leftmost-clause-inside
returns-else-is_leftmost-clause-inside g c =
    let blocks : count c.args.self.now % 256 ≡ 0 = rw (← c.self.view_is) c.self.invariant.0.blocks in
    moved_inside (count c.args.self.now) c.args.element c.check-else-is_leftmost.result blocks c.requires c.check-else-is_leftmost.type_inv
