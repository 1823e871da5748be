-- The list has the indexes so far whose frequency is above 0, each with its frequency.
use Rattle.std.proofs.Common.{◌≡◌, take}
use Rattle.daachorse_charwise_states.specs.Ranks.{used_in}
use Rattle.daachorse_charwise_states.proofs.mapper.used.Given as goal

abbrev pub invariant-loop-index : goal.invariant-loop-index
invariant-loop-index g l = l.used.items ≡ used_in (take l.index l.freqs)
