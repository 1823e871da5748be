-- From each unit that was passed over there are still enough bytes, and the ring stays as it is.
use Rattle.std.proofs.Common.{◌≡◌, ◌++◌, ℕ, List}
use Rattle.daachorse_model.specs.Units.{size}
use Rattle.daachorse_streams.specs.Searching.{PassesOver}
use Rattle.daachorse_streams.proofs.PassingLaws.{IsTaken}
use Rattle.daachorse_streams.proofs.search.Search.pass_over.Given as goal

abbrev pub invariant-units : goal.invariant-units
invariant-units g l =
    let width = g.U.EdgeLabel.width in let rest = g.H.Haystack.rest in
    (front back : List ℕ) → rest l.fn.block ≡ front ++ back → l.fn.bytes ≡ size width front → (done : List ℕ) × (taken : IsTaken width front back (rest l.block) l.left done) × PassesOver width l.fn.self done taken.todo l.self

abbrev pub decreases-units : goal.decreases-units
decreases-units g l = l.left
