-- The units taken off are the first of the queue.
use Rattle.std.proofs.Common.{◌≡◌, drop}
use Rattle.std.specs.VecDeque.{deque_capacity}
use Rattle.daachorse_streams.proofs.search.drop_front.Given as goal

abbrev pub invariant-units : goal.invariant-units
invariant-units g l = record {
  items : l.ring.items ≡ drop l.counter l.initial.ring.items;
  capacity : deque_capacity l.ring ≡ deque_capacity l.initial.ring;
}
