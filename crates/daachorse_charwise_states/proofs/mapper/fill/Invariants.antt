-- The table has each code so far at the index of that rank, and no other codes.
use Rattle.std.proofs.Common.{◌≡◌, length}
use Rattle.daachorse_charwise_states.specs.Ranks.{IsFilled}
use Rattle.daachorse_charwise_states.proofs.mapper.fill.Given as goal

abbrev pub invariant-loop-code : goal.invariant-loop-code
invariant-loop-code g l = record { len : length l.table.items ≡ l.len; filled : IsFilled l.ranked l.code l.table.items }
