-- The standard list is what the search gives end by end.
use Rattle.std.proofs.Common.{[], sym, ap, ◌∙◌, subst}
use Rattle.daachorse_model.specs.Matches.{at_each_end}
use Rattle.daachorse_model.proofs.StandardEnds.{standard-joined}
use Rattle.daachorse_haystack.specs.Filters.{IsSoundFor}
use Rattle.daachorse_search.specs.Searches.{standard_found}
use Rattle.daachorse_search.proofs.find.find_in.Goals as goal

pub returns-clause-left : goal.returns-clause-left
returns-clause-left g c =
    let A = g.A.Automaton in let unit = g.A.Unit.EdgeLabel in let haystack = g.H.Haystack.rest c.args.haystack in
    let found = λ (a : g.row.A.Denot). at_each_end (standard_found unit.width A.sees a) [] haystack in
    c.with_filter.ensures.left ∙ ap found c.new.ensures.automaton ∙ standard-joined unit.width (A.sees c.args.automaton).content g.met.A.Unit.EdgeLabel.wide haystack

pub with_filter-requires-clause-sound : goal.with_filter-requires-clause-sound
with_filter-requires-clause-sound g c =
    let P : g.row.A.Denot → Type 0 = λ a. IsSoundFor (g.F.Filter.passes c.args.filter) (g.A.Automaton.sees a).content in
    subst P (sym c.new.ensures.automaton) c.requires.sound
