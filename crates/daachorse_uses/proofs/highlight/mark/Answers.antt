-- The part of the match was filled with marks.
use Rattle.std.proofs.Common.{true, false}
use Rattle.daachorse_uses.proofs.Covers.{filled}
use Rattle.daachorse_uses.proofs.highlight.mark.Goals as goal

pub returns : goal.returns
returns c = λ i inside. filled c.args.found.start c.args.found.end true false c.args.marks.now _ i c.requires.ordered c.requires.within (c.fill.ensures.after (λ y h. h)) inside
