-- Whatever is put out of the matches that are left, behind what was put out so far, is put out of all matches.
use Rattle.daachorse_streams.specs.Replaced.{AreParts}
use Rattle.daachorse_streams.proofs.Pieces.{PutsOut}
use Rattle.daachorse_streams.proofs.replacing.replace.Given as goal

abbrev pub invariant-loop-found : goal.invariant-loop-found
invariant-loop-found g l = record {
  parts : AreParts (g.P.Piece.may_cut l.fn.haystack) l.place l.found-iterator;
  puts : PutsOut g.P.Piece.bytes (g.P.Piece.bytes l.fn.haystack) (goal.F-post g l.fn.replacement) l.fn.matches
      (g.A.Appending.taken l.fn.out) l.place l.found-iterator (g.A.Appending.taken l.out);
}
