-- The marks are those of the view.
use Rattle.std.proofs.Common.{sym, ap, ◌∙◌, subst}
use Rattle.daachorse_search.specs.Views.{HasMarks}
use Rattle.daachorse_streams.specs.Streams.{IsLongest}
use Rattle.daachorse.proofs.automaton.AhoCorasick.leftmost_stream.Goals as goal

pub new-requires-clause-marks : goal.new-requires-clause-marks
new-requires-clause-marks g c =
    let marks = c.args.marks.now in
    let s = g.S.Searched in
    let lent = c.marked-states.ensures in
    record {
      children = lent.marks marks.children.items (subst (λ a. HasMarks (s.view a) marks.children.items) (sym c.self.view_is) c.requires.marks.children);
      longest =
          let same = g.met.S.Searched.view_content c.args.self.now ∙ sym (lent.content ∙ ap s.dictionary c.self.view_is) in
          subst (λ K. IsLongest g.S.Unit.EdgeLabel.width K marks.longest) same c.requires.marks.longest;
    }

pub returns-clause-content : goal.returns-clause-content
returns-clause-content g c =
    ap (λ states. (g.S.Marked.Automaton.sees states).content) c.in_ok-stream.ensures.automaton ∙ c.marked-states.ensures.content ∙ ap g.S.Searched.dictionary c.self.view_is
