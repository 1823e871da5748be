-- The units taken so far are there to read, and there is room for those that are left.
use Rattle.std.proofs.Common.{◌≡◌, ◌+◌, ◌≤◌, ◌++◌, ℕ, List}
use Rattle.std.specs.VecDeque.{deque_capacity, deque_len}
use Rattle.daachorse_model.specs.Units.{size}
use Rattle.daachorse_streams.specs.Searching.{Keeps}
use Rattle.daachorse_streams.proofs.PassingLaws.{IsTaken}
use Rattle.daachorse_streams.proofs.search.Search.keep.Given as goal

abbrev pub invariant-units : goal.invariant-units
invariant-units g l =
    let U = g.U.EdgeLabel in let rest = g.H.Haystack.rest in
    record {
      room : deque_len l.self.ring + l.left ≤ deque_capacity l.self.ring;
      takes : (front back : List ℕ) → rest l.fn.block ≡ front ++ back → l.fn.bytes ≡ size U.width front → (done : List ℕ) × IsTaken U.width front back (rest l.block) l.left done × Keeps U.unit l.fn.self done l.self;
    }

abbrev pub decreases-units : goal.decreases-units
decreases-units g l = l.left
