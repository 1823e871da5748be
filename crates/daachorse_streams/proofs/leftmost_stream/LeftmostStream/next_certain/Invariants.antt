-- A round that gives nothing passes over an empty match, which the next round can't do again, and leaves the matches given as they are.
use Rattle.std.proofs.Common.{◌≡◌, cond}
use Rattle.daachorse_search.specs.Views.{HasMarks}
use Rattle.daachorse_streams.specs.Searching.{IsSearching, given_of}
use Rattle.daachorse_streams.proofs.leftmost_stream.LeftmostStream.next_certain.Given as goal

abbrev pub invariant-matches : goal.invariant-matches
invariant-matches g l =
    let s = l.self-inside in let view = g.A.Automaton.sees s.automaton in let width = g.A.Unit.EdgeLabel.width in
    record {
      marks : HasMarks view s.marks.now;
      stands : IsSearching width view g.A.Unit.EdgeLabel.unit s.search;
      automaton : s.automaton ≡ l.fn.self.automaton;
      folds : s.folds ≡ l.fn.self.folds;
      read : s.search.seen.since ≡ l.fn.self.read;
      ended : s.search.ended ≡ l.fn.self.ended;
      given : given_of width view.content s.search ≡ l.fn.self.given;
    }

abbrev pub decreases-matches : goal.decreases-matches
decreases-matches g l = cond l.self-inside.search.after 1 0
