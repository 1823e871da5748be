-- The items so far are taken of the bytes, and the rest is what is left.
use Rattle.std.proofs.Common.{◌≡◌, Some, vec_len}
use Rattle.daachorse_serializer.specs.Forms.{take_items}
use Rattle.daachorse_serializer.proofs.lists.read_items.Given as goal

abbrev pub invariant-loop-i : goal.invariant-loop-i
invariant-loop-i g l = (take_items g.S.Serializable.taken l.i l.src ≡ Some (l.items.items, l.rest)) × (vec_len l.items ≡ l.i)
