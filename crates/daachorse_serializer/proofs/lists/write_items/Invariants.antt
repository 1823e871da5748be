-- What is written: the items up to the place.
use Rattle.std.proofs.Common.{◌≡◌, ◌++◌, take}
use Rattle.std.specs.List.{flat_map}
use Rattle.daachorse_serializer.proofs.lists.write_items.Given as goal

abbrev pub invariant-loop-item : goal.invariant-loop-item
invariant-loop-item g l = l.dst.items ≡ l.fn.dst.items ++ flat_map g.S.Serializable.form (take l.item-index l.items)
