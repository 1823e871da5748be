-- Each item up to the place is of the type.
use Rattle.std.proofs.Common.{take}
use Rattle.std.specs.List.{All}
use Rattle.daachorse_serializer.proofs.lists.items_in_range.Given as goal

abbrev pub invariant-loop-item : goal.invariant-loop-item
invariant-loop-item g l = All g.S.Serializable.is_value (take l.item-index l.items)
