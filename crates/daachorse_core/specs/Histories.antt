-- What a history of a search stands for.
use Rattle.std.specs.Prelude.{◌+◌, [], ◌∷◌, ◌++◌}
use Rattle.daachorse_core.specs.declared.turns.History.{History, fold-History}
use Rattle.daachorse_core.specs.declared.turns.History.TheOpen.{History-F, Start, Same, Read, Skip, Restart, Give}
use Rattle.daachorse_core.specs.Seen.{SeenUnits, unread}

-- what was seen at one step, from what was seen before it
abbrev pub seen_step : History-F SeenUnits → SeenUnits
seen_step Start = unread
seen_step (Same s) = s.value.value
seen_step (Read s unit) = record s.value.value { since = s.value.value.since ++ unit ∷ []; looked = s.value.value.looked ++ unit ∷ [] }
seen_step (Skip s unit) = record s.value.value { before = (s.value.value.before ++ s.value.value.since) ++ unit ∷ []; since = [] }
seen_step (Restart s) = record s.value.value { before = s.value.value.before ++ s.value.value.since; since = [] }
seen_step (Give s) = record s.value.value { given = s.value.value.given + 1 }

abbrev pub seen_of : History → SeenUnits
seen_of h = fold-History SeenUnits seen_step h
