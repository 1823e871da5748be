-- Whatever comes of the matches that are left, behind what was written so far, comes of all matches from the start.
use Rattle.daachorse_streams.specs.Replaced.{AreParts}
use Rattle.daachorse_streams.proofs.InTurn.{LeadsTo}
use Rattle.daachorse_streams.proofs.replacing.replace_with.Given as goal

abbrev pub invariant-loop-found : goal.invariant-loop-found
invariant-loop-found g l = record {
  callable : goal.F-IsAlwaysCallable g l.write;
  parts : AreParts (g.P.Piece.may_cut l.fn.haystack) l.written l.found-iterator;
  leads : LeadsTo g.P.Piece.bytes g.A.Appending.taken (g.P.Piece.bytes l.fn.haystack) (goal.F-step g) l.fn.matches l.fn.write l.fn.out
      l.written l.found-iterator l.write l.out;
}
