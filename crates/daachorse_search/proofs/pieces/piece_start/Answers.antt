-- The piece carries the longest key's bytes less one, or all that stands before it.
use Rattle.std.proofs.Common.{arith}
use Rattle.daachorse_search.proofs.PieceLaws.{cut_at_place}
use Rattle.daachorse_search.proofs.pieces.piece_start.Goals as goal

pub returns-clause-matches : goal.returns-clause-matches
returns-clause-matches g c K h none within = cut_at_place K h c.args.at c.args.longest c.saturating_sub-2.result none within (omega (arith, c.saturating_sub.ensures, c.saturating_sub-2.ensures))
