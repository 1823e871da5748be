-- A character of one byte, and then those of two, three and four.
use Rattle.std.proofs.Common.{◌*◌, refl, arith}
use Rattle.std.specs.Str.{lead_bits}
use Rattle.daachorse_haystack.proofs.DecodingLaws.{Came, ascii_character, begins, two_bytes, third_comes, three_bytes, fourth_comes, four_bytes}
use Rattle.daachorse_haystack.proofs.decoding.Decoded.take_character.Given as given
use Rattle.daachorse_haystack.proofs.decoding.Decoded.take_character.Goals as goal

pub returns-then-first-lt128-clause-goes : goal.returns-then-first-lt128-clause-goes
returns-then-first-lt128-clause-goes g c =
    (ascii_character _ _ _ c.args.self.now c.self.inside.bytes c.in_ok-first.first c.from.result c.next.new.self c.self.view_is c.requires (omega arith) c.from.ensures c.in_ok-first.ensures.steps c.in_ok-first.ensures.goes).1

pub take_inner-two-requires : goal.take_inner-two-requires
take_inner-two-requires g c =
    let begun = begins _ _ _ c.args.self.now c.self.inside.bytes c.in_ok-first.first c.from-lead.result c.next.new.self c.self.view_is c.requires (omega arith) c.if-first-lt128.false c.from-lead.ensures c.in_ok-first.ensures.steps c.in_ok-first.ensures.goes in
    (c.args.self.now, c.in_ok-first.first, lead_bits c.in_ok-first.first, begun.more, c.requires, begun.on)

pub overflow_sub-code : goal.overflow_sub-code
overflow_sub-code g c =
    (begins _ _ _ c.args.self.now c.self.inside.bytes c.in_ok-first.first c.from-lead.result c.next.new.self c.self.view_is c.requires (omega arith) c.if-first-lt128.false c.from-lead.ensures c.in_ok-first.ensures.steps c.in_ok-first.ensures.goes).low

two : (g : given.Over) (c : goal.After-from_u32_unchecked g) → Came g.P.Iterator.can_next g.P.Iterator.next_gives g.P.Iterator.remaining c.args.self.now c.from_u32_unchecked.result 2 c.take_inner-two.new.self
two g c =
    let begun = begins _ _ _ c.args.self.now c.self.inside.bytes c.in_ok-first.first c.from-lead.result c.next.new.self c.self.view_is c.requires (omega arith) c.if-first-lt128.false c.from-lead.ensures c.in_ok-first.ensures.steps c.in_ok-first.ensures.goes in
    two_bytes _ _ _ c.args.self.now c.in_ok-first.first c.from-lead.result c.next.new.self c.take_inner-two.result c.take_inner-two.new.self c.from_u32_unchecked.result c.requires c.if-first-lt224.true c.from-lead.ensures begun c.take_inner-two.ensures.takes c.from_u32_unchecked.ensures

pub returns-then-first-lt224-clause-steps : goal.returns-then-first-lt224-clause-steps
returns-then-first-lt224-clause-steps g c = (two g c).0

pub returns-then-first-lt224-clause-goes : goal.returns-then-first-lt224-clause-goes
returns-then-first-lt224-clause-goes g c = (two g c).1

pub returns-then-first-lt224-clause-bytes : goal.returns-then-first-lt224-clause-bytes
returns-then-first-lt224-clause-bytes g c = (two g c).2

pub take_inner-three-requires : goal.take_inner-three-requires
take_inner-three-requires g c =
    let begun = begins _ _ _ c.args.self.now c.self.inside.bytes c.in_ok-first.first c.from-lead.result c.next.new.self c.self.view_is c.requires (omega arith) c.if-first-lt128.false c.from-lead.ensures c.in_ok-first.ensures.steps c.in_ok-first.ensures.goes in
    let comes = third_comes _ _ _ c.args.self.now c.in_ok-first.first c.from-lead.result c.next.new.self c.take_inner-two.result c.take_inner-two.new.self c.requires (omega arith) c.if-first-lt224.false begun c.take_inner-two.ensures.takes in
    (c.args.self.now, c.in_ok-first.first, lead_bits c.in_ok-first.first * 64, comes.0, c.requires, comes.2)

pub from_u32_unchecked-requires-then-first-lt240 :
    goal.from_u32_unchecked-requires-then-first-lt240
from_u32_unchecked-requires-then-first-lt240 g c =
    let begun = begins _ _ _ c.args.self.now c.self.inside.bytes c.in_ok-first.first c.from-lead.result c.next.new.self c.self.view_is c.requires (omega arith) c.if-first-lt128.false c.from-lead.ensures c.in_ok-first.ensures.steps c.in_ok-first.ensures.goes in
    (three_bytes _ _ _ c.args.self.now c.in_ok-first.first c.from-lead.result c.next.new.self c.take_inner-two.result c.take_inner-two.new.self c.take_inner-three.result c.take_inner-three.new.self _ c.requires (omega arith) c.if-first-lt224.false c.if-first-lt240.true c.from-lead.ensures begun
    c.take_inner-two.ensures.takes c.take_inner-three.ensures.takes refl).0.scalar

three : (g : given.Over) (c : goal.After-from_u32_unchecked-then-first-lt240 g) → Came g.P.Iterator.can_next g.P.Iterator.next_gives g.P.Iterator.remaining c.args.self.now c.from_u32_unchecked-then-first-lt240.result 3 c.take_inner-three.new.self
three g c =
    let begun = begins _ _ _ c.args.self.now c.self.inside.bytes c.in_ok-first.first c.from-lead.result c.next.new.self c.self.view_is c.requires (omega arith) c.if-first-lt128.false c.from-lead.ensures c.in_ok-first.ensures.steps c.in_ok-first.ensures.goes in
    three_bytes _ _ _ c.args.self.now c.in_ok-first.first c.from-lead.result c.next.new.self c.take_inner-two.result c.take_inner-two.new.self c.take_inner-three.result c.take_inner-three.new.self c.from_u32_unchecked-then-first-lt240.result c.requires (omega arith) c.if-first-lt224.false
    c.if-first-lt240.true c.from-lead.ensures begun c.take_inner-two.ensures.takes c.take_inner-three.ensures.takes c.from_u32_unchecked-then-first-lt240.ensures

pub returns-then-first-lt240-clause-steps : goal.returns-then-first-lt240-clause-steps
returns-then-first-lt240-clause-steps g c = (three g c).0

pub returns-then-first-lt240-clause-goes : goal.returns-then-first-lt240-clause-goes
returns-then-first-lt240-clause-goes g c = (three g c).1

pub returns-then-first-lt240-clause-bytes : goal.returns-then-first-lt240-clause-bytes
returns-then-first-lt240-clause-bytes g c = (three g c).2

pub take_inner-four-requires : goal.take_inner-four-requires
take_inner-four-requires g c =
    let begun = begins _ _ _ c.args.self.now c.self.inside.bytes c.in_ok-first.first c.from-lead.result c.next.new.self c.self.view_is c.requires (omega arith) c.if-first-lt128.false c.from-lead.ensures c.in_ok-first.ensures.steps c.in_ok-first.ensures.goes in
    let comes = fourth_comes _ _ _ c.args.self.now c.in_ok-first.first c.from-lead.result c.next.new.self c.take_inner-two.result c.take_inner-two.new.self c.take_inner-three.result c.take_inner-three.new.self c.requires (omega arith) c.if-first-lt240.false begun c.take_inner-two.ensures.takes c.take_inner-three.ensures.takes in
    (c.args.self.now, c.in_ok-first.first, lead_bits c.in_ok-first.first * 64 * 64, 0, c.requires, comes)

pub from_u32_unchecked-requires-2 : goal.from_u32_unchecked-requires-2
from_u32_unchecked-requires-2 g c =
    let begun = begins _ _ _ c.args.self.now c.self.inside.bytes c.in_ok-first.first c.from-lead.result c.next.new.self c.self.view_is c.requires (omega arith) c.if-first-lt128.false c.from-lead.ensures c.in_ok-first.ensures.steps c.in_ok-first.ensures.goes in
    (four_bytes _ _ _ c.args.self.now c.in_ok-first.first c.from-lead.result c.next.new.self c.take_inner-two.result c.take_inner-two.new.self c.take_inner-three.result c.take_inner-three.new.self c.take_inner-four.result c.take_inner-four.new.self _ c.requires (omega arith) c.if-first-lt240.false
    c.from-lead.ensures begun c.take_inner-two.ensures.takes c.take_inner-three.ensures.takes c.take_inner-four.ensures.takes refl).0.scalar

four : (g : given.Over) (c : goal.After-from_u32_unchecked-2 g) → Came g.P.Iterator.can_next g.P.Iterator.next_gives g.P.Iterator.remaining c.args.self.now c.from_u32_unchecked-2.result 4 c.take_inner-four.new.self
four g c =
    let begun = begins _ _ _ c.args.self.now c.self.inside.bytes c.in_ok-first.first c.from-lead.result c.next.new.self c.self.view_is c.requires (omega arith) c.if-first-lt128.false c.from-lead.ensures c.in_ok-first.ensures.steps c.in_ok-first.ensures.goes in
    four_bytes _ _ _ c.args.self.now c.in_ok-first.first c.from-lead.result c.next.new.self c.take_inner-two.result c.take_inner-two.new.self c.take_inner-three.result c.take_inner-three.new.self c.take_inner-four.result c.take_inner-four.new.self c.from_u32_unchecked-2.result c.requires (omega arith)
    c.if-first-lt240.false c.from-lead.ensures begun c.take_inner-two.ensures.takes c.take_inner-three.ensures.takes c.take_inner-four.ensures.takes c.from_u32_unchecked-2.ensures

pub returns-clause-steps : goal.returns-clause-steps
returns-clause-steps g c = (four g c).0

pub returns-clause-goes : goal.returns-clause-goes
returns-clause-goes g c = (four g c).1

pub returns-clause-bytes : goal.returns-clause-bytes
returns-clause-bytes g c = (four g c).2
