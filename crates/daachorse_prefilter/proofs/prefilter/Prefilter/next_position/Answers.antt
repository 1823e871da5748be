-- The first place at which the filter passes is its next, and no pattern begins before it.
use Rattle.daachorse_prefilter.proofs.PlaceLaws.{next_of_first}
use Rattle.daachorse_prefilter.proofs.SkippedWindows.{skips_none}
use Rattle.daachorse_prefilter.proofs.prefilter.Prefilter.next_position.Goals as goal

pub returns-clause-first : goal.returns-clause-first
returns-clause-first g c = next_of_first c.args.self.now c.args.haystack.now c.args.pos c.first_place.result c.first_place.ensures

pub returns-clause-skips_none : goal.returns-clause-skips_none
returns-clause-skips_none g c pattern rest place passing low e =
    skips_none c.args.self.now c.args.haystack.now c.args.pos c.first_place.result (returns-clause-first g c) pattern rest place passing low e
