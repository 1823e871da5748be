-- At the root only the empty end of what was read begins a key, so all matches are found as by a walk that begins there; where nothing was read, that end is the only one.
use Rattle.daachorse_search.proofs.OverlappingLaws.{all_afresh, read_begins}
use Rattle.daachorse_search.proofs.overlapping.OverlappingWalkStepwise.is_at_root.Goals as goal

pub returns-clause-afresh : goal.returns-clause-afresh
returns-clause-afresh g c = all_afresh g.A.Unit.EdgeLabel.width g.A.Automaton.sees c.args.self.now c.stands_at_root.result c.stands_at_root.ensures

pub returns-clause-begins : goal.returns-clause-begins
returns-clause-begins g c = read_begins g.A.Unit.EdgeLabel.width g.A.Automaton.sees c.args.self.now c.stands_at_root.result c.stands_at_root.ensures
