-- Where the step ends as from a row before, whose steps all end in rows, it ends in a row, and else where the links lead.
use Rattle.std.proofs.Common.{sym, ◌∙◌}
use Rattle.std.specs.Prelude.{slice_index}
use Rattle.std.proofs.lemmas.List.{get_or_read}
use Rattle.daachorse_rows.specs.Rows.{labelled}
use Rattle.daachorse_rows.proofs.ShallowLaws.{EndsInRow-row}
use Rattle.daachorse_rows.proofs.making.Maker.end_outside.Goals as goal

-- all steps from a row before end in rows
pub returns-in-Some : goal.returns-in-Some
returns-in-Some g c =
    let told = c.requires.stepped.ends c.in-Some._before c.args.k c.in-Some.ensures.0 c.requires.k in
    (told.0, told.1, λ unit coded. c.in-Some.ensures.1 unit (slice_index c.args.chosen.now.order.items told.0) coded (told.2 unit coded))

pub returns-then-index : goal.returns-then-index
returns-then-index g c =
    let homes = c.args.chosen.now.homes.items in let next = c.step-next.result.0 in let leads = c.step-next.ensures.leads in
    (leads, sym (get_or_read homes next c.index.result.now (c.requires.chosen.inside next leads.is_state) c.index.ensures 0) ∙ c.if-index.true)

pub returns : goal.returns
returns g c =
    let seen = labelled g.A.Automaton.sees g.A.Automaton.labels g.A.Label.RowLabel.number c.args.self.now in
    let homes = c.args.chosen.now.homes.items in let order = c.args.chosen.now.order.items in let next = c.step-next.result.0 in let leads = c.step-next.ensures.leads in
    let within = c.requires.chosen.inside next leads.is_state in
    let row = c.requires.chosen.homes next within (λ none. c.if-index.false (get_or_read homes next c.index.result.now within c.index.ensures 0 ∙ none)) in
    EndsInRow-row seen (slice_index order c.args.at) c.args.k next leads order (slice_index homes next, row.0, row.1)
