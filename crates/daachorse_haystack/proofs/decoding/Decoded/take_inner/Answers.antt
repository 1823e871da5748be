-- A byte inside comes, since the source does not end there, and its bits stand behind the others.
use Rattle.std.proofs.Common.{◌+◌}
use Rattle.daachorse_haystack.proofs.DecodingLaws.{IsMidway-goes_on, IsMidway-more}
use Rattle.daachorse_haystack.proofs.decoding.Decoded.take_inner.Goals as goal

pub unreachable-requires : goal.unreachable-requires
unreachable-requires g c =
    let r = c.requires in
    IsMidway-goes_on _ _ _ r.0 r.1 (r.2 + c.args.code) r.3 c.args.self.now c.self.inside.bytes c.next.new.self c.self.view_is r.4 r.5 c.in_default.ensures.steps

pub returns-clause-takes : goal.returns-clause-takes
returns-clause-takes g c =
    λ source first bits more text h.
    IsMidway-more _ _ _ source first bits c.args.code more c.in-Some.byte c.from.result c.args.self.now c.self.inside.bytes c.next.new.self c.self.view_is text h c.in-Some.ensures.steps c.in-Some.ensures.goes c.from.ensures
