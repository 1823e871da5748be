-- One more pattern adds its value to those of the part just where its text is the part, and then its match is pushed.
use Rattle.std.proofs.Common.{true, false}
use Rattle.std.proofs.lemmas.List.{append-nil}
use Rattle.daachorse_model.proofs.SlowLaws.{matches_of-step}
use Rattle.daachorse_model.proofs.slow.push_values.Goals as goal
use Rattle.daachorse_model.proofs.slow.push_values.Goals.{then-eq+in_ok-push, else-eq}

pub loop-text-preserved : goal.loop-text-preserved
loop-text-preserved g c = elim c.if-eq.branch [
  | then-eq+in_ok-push w ↦
      let step = matches_of-step c.args.patterns.now c.loop-text.text-index c.loop-text-item.result c.args.start c.args.end c.args.part.now
      c.loop-text.found.items c.args.found.now.items true c.loop-text-test.true c.loop-text-item.is w.if-eq.ensures c.loop-text.invariant in
      cc (w.in_ok-push.ensures.items, step)
  | else-eq w ↦
      let step = matches_of-step c.args.patterns.now c.loop-text.text-index c.loop-text-item.result c.args.start c.args.end c.args.part.now
      c.loop-text.found.items c.args.found.now.items false c.loop-text-test.true c.loop-text-item.is w.if-eq.ensures c.loop-text.invariant in
      cc (append-nil c.loop-text.found.items, step)
]
