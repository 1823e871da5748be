-- A place inside the last match gives nothing, and any other gives the longest key there as the definition does, the end of the haystack too.
use Rattle.std.proofs.Common.{ap, ◌∙◌, arith, inl, inr}
use Rattle.daachorse_model.specs.Dictionary.{values_of, registrations_of}
use Rattle.daachorse_model.specs.Leftmost.{leftmost}
use Rattle.daachorse_model.specs.Slow.{width_of}
use Rattle.daachorse_model.proofs.SlowLeftmost.{leftmost_left-next, leftmost_left-last}
use Rattle.daachorse_model.proofs.slow.leftmost.search_starts.Goals as goal
use Rattle.daachorse_model.proofs.slow.leftmost.search_starts.Goals.{then-skip-gt0, else-skip-gt0+in_ok-push_given, then-skip-eq0+in_ok-push_given-2, else-skip-eq0}

pub loop-read-preserved : goal.loop-read-preserved
loop-read-preserved g c =
    let width = width_of c.args.width in
    let K = values_of (registrations_of c.args.patterns.now) in
    leftmost_left-next width K c.args.haystack.now c.loop-read.read c.loop-read.skip c.if-skip-gt0.skip c.loop-read.after c.if-skip-gt0.after
    c.loop-read.found.items c.if-skip-gt0.found.items (leftmost width K c.args.haystack.now) c.loop-read-test.true
    (elim c.if-skip-gt0.branch [
      | then-skip-gt0 w ↦ inl (w.if-skip-gt0.true, ap (λ v. v.items) w.found-is, w.skip-is, w.after-is)
      | else-skip-gt0+in_ok-push_given w ↦ inr (
        w.longest_at-best.result,
        omega (arith, w.if-skip-gt0.false),
        record { key = w.longest_at-best.ensures.key; within = w.longest_at-best.ensures.within },
        ap (λ v. v.items) w.found-is ∙ w.in_ok-push_given.ensures,
        w.skip-is ∙ w.units_after_first-skip.ensures,
        w.after-is ∙ w.is_after_match-after.ensures,
      )
    ])
    c.loop-read.invariant

pub returns : goal.returns
returns g c =
    let width = width_of c.args.width in
    let K = values_of (registrations_of c.args.patterns.now) in
    leftmost_left-last width K c.args.haystack.now c.loop-read.read c.loop-read.skip c.loop-read.after
    c.loop-read.found.items c.if-skip-eq0.found.items (leftmost width K c.args.haystack.now) c.loop-read-test.false
    (elim c.if-skip-eq0.branch [
      | then-skip-eq0+in_ok-push_given-2 w ↦ inl (
        w.longest_at-best-then-skip-eq0.result,
        w.if-skip-eq0.true,
        w.longest_at-best-then-skip-eq0.ensures.key,
        ap (λ v. v.items) w.found-is ∙ w.in_ok-push_given-2.ensures,
      )
      | else-skip-eq0 w ↦ inr (omega (arith, w.if-skip-eq0.false), ap (λ v. v.items) w.found-is)
    ])
    c.loop-read.invariant
