-- There is a first match by the automaton's kind exactly where some pattern occurs.
use Rattle.std.proofs.Common.{◌≢◌, ◌↔◌, IsTrue, [], sym, subst}
use Rattle.daachorse_model.specs.Folding.{as_read}
use Rattle.daachorse_model.specs.Matches.{overlapping}
use Rattle.daachorse_streams.proofs.FirstMatches.{first_by_kind}
use Rattle.daachorse.proofs.automaton.AhoCorasick.is_match.Goals as goal

pub returns : goal.returns
returns g c =
    let s = g.S.Searched in
    let a = c.args.self.now in
    let units = as_read (s.folds a) (g.S.Lends.units c.args.haystack) in
    let width = g.S.Unit.EdgeLabel.width in
    subst (λ b. IsTrue b ↔ (overlapping width (s.dictionary a) units ≢ [])) (sym c.is_some.ensures)
    (first_by_kind width (s.dictionary a) (s.kind a) units c.find.result c.find.ensures)
