-- The link is the state of a row before, and a step that follows the link ends as from there.
use Rattle.std.proofs.Common.{◌<◌, ℕ, length, subst, ap, ◌∙◌, arith}
use Rattle.std.specs.Prelude.{slice_index}
use Rattle.std.proofs.lemmas.List.{get_or_read}
use Rattle.daachorse_search.specs.Views.{Steps}
use Rattle.daachorse_search.proofs.LookLaws.{StepEnds-link}
use Rattle.daachorse_rows.proofs.MakingLaws.{stands_read}
use Rattle.daachorse_rows.proofs.making.Maker.linked_row.Goals as goal

pub returns-then-index-row : goal.returns-then-index-row
returns-then-index-row g c =
    let number = g.A.Label.RowLabel.number in let s = c.self.inside in let view = g.A.Automaton.sees s.automaton.now in
    let order = c.args.chosen.now.order.items in let homes = c.args.chosen.now.homes.items in let link = c.in-Fail.link in
    let within : link < length homes = omega (arith, c.if-index-len.true, c.len.ensures, c.args.chosen.now.homes.ok.0) in
    let tested = get_or_read homes link c.index-then-index-len.result.now within c.index-then-index-len.ensures 0 in
    let home = get_or_read homes link c.index-then-index-row.result.now within c.index-then-index-row.ensures 0 in
    let before : slice_index homes link < c.args.row = omega (arith, tested, c.if-index-row.true) in
    let row = c.requires.chosen.homes link within (λ none. omega (arith, none, before, (c.requires.chosen.own c.args.row c.requires.row).2)) in
    let same = get_or_read order c.args.row c.index.result.now c.requires.row c.index.ensures 0 in
    let listed = rw (← c.self.view_is) at c.requires.k in
    rw (← c.self.view_is) (
      omega (arith, home, before),
      λ unit t coded ends.
          let look = c.in-Fail.ensures.look unit (stands_read number g.met.A.Label.RowLabel.exact (g.A.Automaton.labels s.automaton.now) s.labels.now c.args.k c.index-self-k.result listed unit coded) in
          let P : ℕ → Type 0 = λ x. Steps view x unit t in
          subst P same (StepEnds-link view (view.text c.index.result.now) (view.text link) (view.text t) unit look.1 look.2 look.3 (subst P (ap (slice_index order) home ∙ row.1) ends)),
    )
