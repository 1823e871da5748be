-- A leftmost search gives at each start what `longest_key` finds there, and that is the longest key that begins the rest of the haystack, with its first value.
use Rattle.daachorse_model.specs.Dictionary.{dictionary}
use Rattle.daachorse_model.proofs.Longest.{leftmost_longest}
use Rattle.daachorse_model.proofs.laws.leftmost_is_longest.Goals as goal

pub returns : goal.returns
returns g c = λ width patterns h. leftmost_longest width (dictionary c.args.kind patterns) h
