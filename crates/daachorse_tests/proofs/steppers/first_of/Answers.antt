-- Nothing of the source was read.
use Rattle.std.proofs.Common.{rules}
use Rattle.daachorse_search.proofs.ReaderLaws.{may_read_first}
use Rattle.daachorse_tests.proofs.steppers.first_of.Goals as goal

pub next-first-requires : goal.next-first-requires
next-first-requires c =
    let begun = c.find_iter_from_iter in
    rw begun.ensures.read (may_read_first _ begun.result.folds begun.result.source (search rules))
