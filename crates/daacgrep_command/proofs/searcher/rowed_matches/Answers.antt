-- The search is that of the kind.
use Rattle.std.proofs.Common.{◌∙◌, ap, sym}
use Rattle.daachorse_model.specs.Folding.{as_read}
use Rattle.daachorse.specs.bytewise.Automata.{dictionary_of, kind_of}
use Rattle.daacgrep_command.specs.Sought.{matches_by}
use Rattle.daacgrep_command.proofs.Selected.{leftmost_named}
use Rattle.daacgrep_command.proofs.searcher.rowed_matches.Goals as goal

pub returns-in-Standard : goal.returns-in-Standard
returns-in-Standard g c =
    let a = c.args.searcher.now.automaton in
    c.find_overlapping_iter.ensures.begins.left ∙ ap (λ k. matches_by k (dictionary_of a) (as_read a.folds c.args.line.now)) (sym c.in-Standard.is ∙ c.match_kind.ensures)

pub returns-in-LeftmostLongest : goal.returns-in-LeftmostLongest
returns-in-LeftmostLongest g c =
    let a = c.args.searcher.now.automaton in
    c.leftmost_find_iter.ensures.begins.left ∙ leftmost_named c.match_kind.result (kind_of a) (dictionary_of a) (as_read a.folds c.args.line.now) c.in-LeftmostLongest.is c.match_kind.ensures
