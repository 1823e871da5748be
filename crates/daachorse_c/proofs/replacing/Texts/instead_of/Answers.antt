-- A text begins where the one before it ends.
use Rattle.std.proofs.Common.{length, arith}
use Rattle.daachorse_c.proofs.Ends.{in_order}
use Rattle.daachorse_c.proofs.replacing.Texts.instead_of.Goals as goal

pub slice_bounds-result-count : goal.slice_bounds-result-count
slice_bounds-result-count c = (in_order c.args.self.ends.now (length c.args.self.bytes.now) c.args.number c.requires c.if-number-eq0.false c.if-number-self.false).0

pub slice_bounds-result-start : goal.slice_bounds-result-start
slice_bounds-result-start c = omega (arith, in_order c.args.self.ends.now (length c.args.self.bytes.now) c.args.number c.requires c.if-number-eq0.false c.if-number-self.false)

pub slice_bounds-result-end-2 : goal.slice_bounds-result-end-2
slice_bounds-result-end-2 c = omega (arith, in_order c.args.self.ends.now (length c.args.self.bytes.now) c.args.number c.requires c.if-number-eq0.false c.if-number-self.false)
