-- One more pattern stays just where no earlier pattern is a proper prefix of it, and that is what the definition asks.
use Rattle.std.proofs.Common.{[], ap, ◌∙◌, inl, inr}
use Rattle.daachorse_model.specs.Dictionary.{without_extensions, registrations_of}
use Rattle.daachorse_model.proofs.SlowLeftmost.{without_extensions-step}
use Rattle.daachorse_model.proofs.slow.leftmost.drop_extensions.Goals as goal
use Rattle.daachorse_model.proofs.slow.leftmost.drop_extensions.Goals.{then-not-extends_any+in_ok-push, else-not-extends_any}

pub loop-index-preserved : goal.loop-index-preserved
loop-index-preserved g c =
    without_extensions-step c.args.patterns.now c.loop-index.index c.index-patterns-index.result c.extends_any.result
    c.loop-index.rest.items c.if-not-extends_any.rest.items (without_extensions [] (registrations_of c.args.patterns.now))
    c.loop-index-test.true c.index-patterns-index.is c.extends_any.ensures
    (elim c.if-not-extends_any.branch [
      | then-not-extends_any+in_ok-push w ↦ inr (w.if-not-extends_any.true, ap (λ v. v.items) w.rest-is ∙ w.in_ok-push.ensures.items)
      | else-not-extends_any w ↦ inl (w.if-not-extends_any.false, ap (λ v. v.items) w.rest-is)
    ])
    c.loop-index.invariant
