-- The elements of the new block are linked one by one.
use Rattle.std.proofs.Common.{arith}
use Rattle.std.proofs.lemmas.Grind.{common_steps}
use Rattle.daachorse_placement.proofs.build_helper.free_list.FreeList.add_block.Goals as goal

pub loop-vacant-preserved : goal.loop-vacant-preserved
loop-vacant-preserved g c = grind (arith, common_steps)
