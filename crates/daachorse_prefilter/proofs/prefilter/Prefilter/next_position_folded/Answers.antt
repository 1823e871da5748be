-- What is read is the folded haystack.
use Rattle.daachorse_model.specs.Folding.{folded}
use Rattle.daachorse_prefilter.proofs.PlaceLaws.{next_of_first}
use Rattle.daachorse_prefilter.proofs.SkippedWindows.{skips_none}
use Rattle.daachorse_prefilter.proofs.prefilter.Prefilter.next_position_folded.Goals as goal

pub returns-clause-first : goal.returns-clause-first
returns-clause-first g c = next_of_first c.args.self.now (folded c.args.haystack.now) c.args.pos c.first_place.result c.first_place.ensures

pub returns-clause-skips_none : goal.returns-clause-skips_none
returns-clause-skips_none g c pattern rest place passing low e =
    skips_none c.args.self.now (folded c.args.haystack.now) c.args.pos c.first_place.result (returns-clause-first g c) pattern rest place passing low e
