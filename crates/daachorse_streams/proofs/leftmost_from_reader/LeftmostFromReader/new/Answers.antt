-- Nothing was read of the source.
use Rattle.std.proofs.Common.{ℕ, List, sym, subst}
use Rattle.daachorse_haystack.specs.Readings.{MayReadAsRead}
use Rattle.daachorse_search.proofs.ReaderLaws.{may_read_first}
use Rattle.daachorse_streams.proofs.leftmost_from_reader.LeftmostFromReader.new.Goals as goal

pub invariant_of-result : goal.invariant_of-result
invariant_of-result g c =
    let may_read = g.S.Source.may_read in let folds = c.args.stream.folds in
    let P : List ℕ → Type 0 = λ w. MayReadAsRead may_read folds c.args.source w in
    (λ _. (c.requires.open, subst P (sym c.requires.read) (may_read_first may_read folds c.args.source c.requires.may)), c.requires.sound)
