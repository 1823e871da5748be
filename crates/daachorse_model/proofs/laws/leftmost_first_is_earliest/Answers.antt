-- A pattern that extends an earlier one is dropped, so of two kept patterns at one start the longer was registered earlier, and what was dropped is never the earliest there.
use Rattle.daachorse_model.proofs.Longest.{leftmost_earliest}
use Rattle.daachorse_model.proofs.laws.leftmost_first_is_earliest.Goals as goal

pub returns-clause-earliest : goal.returns-clause-earliest
returns-clause-earliest g c = λ width patterns h. leftmost_earliest width patterns h
