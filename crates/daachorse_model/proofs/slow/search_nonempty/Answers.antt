-- Of the matches that end with one more unit and start behind the last match the definition takes the first and goes on behind it, and where there is none it reads on; the loop does just that.
use Rattle.std.proofs.Common.{◌≡◌, ◌+◌, ◌-◌, [], arith, ap, ◌∙◌, inl, inr}
use Rattle.daachorse_model.specs.Dictionary.{values_of, registrations_of}
use Rattle.daachorse_model.specs.Matches.{standard_from}
use Rattle.daachorse_model.specs.Slow.{width_of}
use Rattle.daachorse_model.proofs.SlowLaws.{size-join, standard_left-next}
use Rattle.daachorse_model.proofs.slow.search_nonempty.Goals as goal
use Rattle.daachorse_model.proofs.slow.search_nonempty.Goals.{in-Some+in_ok-push, in_default}

pub first_ending_at-requires : goal.first_ending_at-requires
first_ending_at-requires g c =
    let sum : c.loop-read.resume + (c.loop-read.read + 1 - c.loop-read.resume) ≡ c.loop-read.read + 1 = omega (arith, c.loop-read.invariant.0) in
    omega (arith, c.size_of-start.ensures, c.size_of-end.ensures, size-join (width_of c.args.width) c.args.haystack.now c.loop-read.resume (c.loop-read.read + 1 - c.loop-read.resume) (c.loop-read.read + 1) sum)

pub loop-read-preserved : goal.loop-read-preserved
loop-read-preserved g c =
    let width = width_of c.args.width in
    let K = values_of (registrations_of c.args.patterns.now) in
    standard_left-next width K c.args.haystack.now c.loop-read.resume c.match-branch-2.resume c.loop-read.read c.size_of-start.result c.size_of-end.result c.in_ok-first.field-0
    c.loop-read.found.items c.match-branch-2.found.items (standard_from width K 0 [] c.args.haystack.now)
    c.loop-read.invariant.0 c.loop-read-test.true c.size_of-start.ensures c.size_of-end.ensures c.in_ok-first.ensures
    (elim c.match-branch-2.branch [
      | in-Some+in_ok-push w ↦ inr (w.in-Some.first, w.in-Some.is, ap (λ v. v.items) w.found-is ∙ w.in_ok-push.ensures.items, w.resume-is)
      | in_default w ↦ inl (w.in_default.is, ap (λ v. v.items) w.found-is, w.resume-is)
    ])
    c.loop-read.invariant.1
