-- One entry more with each first byte.
use Rattle.std.proofs.Common.{get_or, ◌*◌, ◌+◌, ◌∙◌, arith}
use Rattle.std.proofs.lemmas.List.{length-set}
use Rattle.daachorse_prefilter.proofs.PairTables.{row_more}
use Rattle.daachorse_prefilter.proofs.prefilter.pair_table.entries_behind.Goals as goal

pub loop-first-preserved : goal.loop-first-preserved
loop-first-preserved c = record {
  size = length-set c.loop-first.row c.loop-first.first (get_or c.args.entries.now (c.loop-first.first * 256 + c.args.byte) 0) ∙ c.loop-first.invariant.size;
  read = row_more c.args.entries.now c.loop-first.row c.args.byte c.loop-first.first c.requires.byte (omega arith) c.loop-first.invariant.size c.loop-first.invariant.read;
}
