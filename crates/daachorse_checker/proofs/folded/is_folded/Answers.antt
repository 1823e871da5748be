-- The labels are the units of the edges.
use Rattle.std.proofs.Common.{sym, subst}
use Rattle.std.proofs.lemmas.Bool.{false≢true}
use Rattle.daachorse_checker.specs.Folded.{AreFolded}
use Rattle.daachorse_checker.proofs.FoldedLaws.{folded_ranks, ranks_folded}
use Rattle.daachorse_checker.proofs.folded.is_folded.Goals as goal

pub returns-in_default-clause-ok : goal.returns-in_default-clause-ok
returns-in_default-clause-ok g c =
    let none = rw c.in_default.is at c.in_ok-ranks.ensures.no in
    (λ is. absurd (false≢true is), λ all. absurd (none c.requires.tree))

pub returns-clause-ok : goal.returns-clause-ok
returns-clause-ok g c =
    let view = g.E.Array.sees c.args.array.now in
    let both = rw c.in-Some.is at c.in_ok-ranks.ensures.yes in (
      λ is. folded_ranks view.edge both.1 view.group c.requires.edges.tell
          (subst AreFolded c.deref.ensures.value (c.are_folded.ensures.0 is)),
      λ all. c.are_folded.ensures.1 (subst AreFolded (sym c.deref.ensures.value) (ranks_folded view.edge both.1 all)),
    )
