-- The search that the kind names has the matches of the kind, which follow one another where the haystack may be cut.
use Rattle.std.proofs.Common.{ap, ◌∙◌}
use Rattle.daachorse_model.specs.Folding.{as_read}
use Rattle.daachorse_model.specs.Leftmost.{leftmost}
use Rattle.daachorse_model.specs.Matches.{standard}
use Rattle.daachorse_streams.proofs.Cuts.{parts_of}
use Rattle.daachorse_streams.proofs.FirstMatches.{leftmost_named, standard_named}
use Rattle.daachorse.proofs.automaton.AhoCorasick.matches_by_kind.Goals as goal

pub returns-in-Standard : goal.returns-in-Standard
returns-in-Standard g c =
    let s = g.S.Searched in
    let a = c.args.self.now in
    let width = g.S.Unit.EdgeLabel.width in
    let K = s.dictionary a in
    let units = as_read (s.folds a) (g.S.Lends.units c.args.haystack) in
    let read = c.haystack-units.ensures in
    let same = ap (λ b. as_read (s.folds b) (g.S.Lends.units c.args.haystack)) c.self.view_is in
    let all = c.standard.ensures ∙ c.find_in-matches.ensures.left
    ∙ ap (λ K. standard width K (g.S.Haystack.Haystack.rest c.haystack-units.result)) (c.standard-states.ensures.content ∙ ap s.dictionary c.self.view_is)
    ∙ ap (standard width K) (read.units ∙ same)
    ∙ standard_named width K c.match_kind.result (s.kind a) units c.in-Standard.is c.match_kind.ensures in
    record {
      left = all;
      parts = parts_of width K (g.S.Text.Piece.may_cut c.args.haystack) units (λ front back splits. read.cuts front back (same ∙ splits)) (s.kind a) _ all;
    }

pub returns-in-LeftmostLongest : goal.returns-in-LeftmostLongest
returns-in-LeftmostLongest g c =
    let s = g.S.Searched in
    let a = c.args.self.now in
    let width = g.S.Unit.EdgeLabel.width in
    let K = s.dictionary a in
    let units = as_read (s.folds a) (g.S.Lends.units c.args.haystack) in
    let read = c.haystack-units.ensures in
    let same = ap (λ b. as_read (s.folds b) (g.S.Lends.units c.args.haystack)) c.self.view_is in
    let all = c.leftmost.ensures ∙ c.with_filter-matches.ensures.left
    ∙ ap (λ K. leftmost width K (g.S.Haystack.Haystack.rest c.haystack-units.result)) (c.leftmost-states.ensures.content ∙ ap s.dictionary c.self.view_is)
    ∙ ap (leftmost width K) (read.units ∙ same)
    ∙ leftmost_named width K c.match_kind.result (s.kind a) units c.in-LeftmostLongest.is c.match_kind.ensures in
    record {
      left = all;
      parts = parts_of width K (g.S.Text.Piece.may_cut c.args.haystack) units (λ front back splits. read.cuts front back (same ∙ splits)) (s.kind a) _ all;
    }
