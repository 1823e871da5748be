-- A match that is pushed is nonempty or does not come right behind a nonempty one, so the definition gives it too, and its places are the sizes of what comes before its start and before its end.
use Rattle.std.proofs.Common.{◌≡◌, ◌+◌, ◌<◌, ◌≤◌, ◌⊎◌, false, length, inl, inr, arith}
use Rattle.daachorse_model.specs.Slow.{width_of}
use Rattle.daachorse_model.proofs.SlowLeftmost.{match_at-found}
use Rattle.daachorse_model.proofs.slow.leftmost.push_given.Goals as goal
use Rattle.daachorse_model.proofs.slow.leftmost.push_given.Goals.{else-best-eq0-via-then-best-eq0+else-after, else-best-eq0-via-else-best-eq0}

pub returns : goal.returns
returns g c =
    let shown : (c.args.after ≡ false) ⊎ (0 < c.in-Some.best.units) =
    elim c.else-best-eq0.branch [ else-best-eq0-via-then-best-eq0+else-after w ↦ inl w.if-after.false | else-best-eq0-via-else-best-eq0 w ↦ inr (omega (arith, w.if-best-eq0.false)) ] in
    let inside : c.args.read + c.in-Some.best.units ≤ length c.args.haystack.now = rw c.in-Some.is at c.requires in
    let given = match_at-found (width_of c.args.width) c.args.haystack.now c.args.read c.size_of.result c.size_of-2.result c.args.after c.in-Some.best inside shown c.size_of.ensures c.size_of-2.ensures in
    rw (c.in-Some.is, given) c.in_ok-push.ensures.items
