-- What the filter leaves is the end of the block.
use Rattle.std.proofs.Common.{ap, arith}
use Rattle.daachorse_model.specs.Units.{byte_width, size}
use Rattle.daachorse_model.proofs.Suffixes.{size-append}
use Rattle.daachorse_streams.proofs.block_source.pass_over.Goals as goal

pub overflow_sub-result : goal.overflow_sub-result
overflow_sub-result g c =
    let goes = c.skip.ensures.goes in omega (arith, c.left.ensures, c.left-all.ensures, ap (size byte_width) goes.parts, size-append byte_width goes.front (g.H.Haystack.rest c.skip.new.rest))
