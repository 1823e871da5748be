-- Each round puts out one more of the matches of what was read.
use Rattle.std.proofs.Common.{◌≡◌, ◌+◌, ◌-◌, List, length, Bor, ℕ}
use Rattle.daachorse_model.specs.Leftmost.{leftmost}
use Rattle.daachorse_model.specs.Units.{size}
use Rattle.daachorse_streams.specs.Replacing.{GoesOut}
use Rattle.daachorse_streams.specs.Streamed.{IsSameStream}
use Rattle.daachorse_streams.proofs.replacing_leftmost.replace_certain.Given as goal

abbrev pub invariant-matches : goal.invariant-matches
invariant-matches g l = record {
  callable : goal.F-IsAlwaysCallable g l.write;
  same : IsSameStream l.fn.stream l.stream;
  read : l.held.place + length l.held.bytes.items ≡ size g.A.Unit.EdgeLabel.width l.stream.read;
  out : GoesOut {P = Bor (List ℕ)} (λ s. s.now) g.O.Write.contents (goal.F-step g) l.fn.stream.given l.stream.given l.fn.held.place
      l.fn.held.bytes.items l.fn.write l.fn.out l.held.place l.held.bytes.items l.write l.out;
}

abbrev pub decreases-matches : goal.decreases-matches
decreases-matches g l =
    length (leftmost g.A.Unit.EdgeLabel.width (g.A.Automaton.sees l.stream.automaton).content l.stream.read) - length l.stream.given
