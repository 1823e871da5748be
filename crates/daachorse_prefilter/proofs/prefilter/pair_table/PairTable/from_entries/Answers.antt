-- What is transposed once on the way in stands in the written order again when it is looked at.
use Rattle.daachorse_prefilter.proofs.PairTables.{length-transposed_table, transposed_table_twice}
use Rattle.daachorse_prefilter.proofs.prefilter.pair_table.PairTable.from_entries.Goals as goal

pub invariant_of-result : goal.invariant_of-result
invariant_of-result g c = rw (c.in_ok-push_transposed.ensures.appends, c.in_ok-items.ensures.items)
    (length-transposed_table c.args.entries.now)

pub returns-clause-same : goal.returns-clause-same
returns-clause-same g c = rw (c.in_ok-push_transposed.ensures.appends, c.in_ok-items.ensures.items)
    (transposed_table_twice c.args.entries.now c.requires)
