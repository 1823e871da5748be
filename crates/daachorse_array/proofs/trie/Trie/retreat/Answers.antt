-- The rank to come to is above this one, so there is a link to go up by, and leaving this rank puts into the array what is near its link.
use Rattle.std.proofs.Common.{suc, ◌<◌, ◌≤◌, length, ◌∙◌, inl, inr, arith}
use Rattle.daachorse_array.specs.Near.{up}
use Rattle.daachorse_array.proofs.NearLaws.{ups_fall}
use Rattle.daachorse_array.proofs.TouringLaws.{not_top, above_next, shorter}
use Rattle.daachorse_array.proofs.trie.Trie.retreat.Goals as goal

pub leave-requires-clause-within : goal.leave-requires-clause-within
leave-requires-clause-within g c =
    let inv = c.loop-here.invariant in
    let lt = not_top c.args.self.now.fails.items c.loop-here.here c.args.to
    (omega (arith, inv.within, c.requires.each)) inv.above c.loop-here-test.true in
    omega (arith, lt, c.requires.each)

pub above-here-requires-clause-within : goal.above-here-requires-clause-within
above-here-requires-clause-within g c =
    let inv = c.loop-here.invariant in
    not_top c.args.self.now.fails.items c.loop-here.here c.args.to
    (omega (arith, inv.within, c.requires.each)) inv.above c.loop-here-test.true

pub loop-here-smaller : goal.loop-here-smaller
loop-here-smaller g c =
    let fs = c.args.self.now.fails.items in
    let inv = c.loop-here.invariant in
    let here = c.loop-here.here in
    let lt : here < length fs = not_top fs here c.args.to (omega (arith, inv.within, c.requires.each)) inv.above c.loop-here-test.true in
    let ups = ups_fall fs here (λ q low _ high. c.requires.fall q low high) here (omega arith) lt in
    shorter (length c.args.self.now.parents.items) here c.above-here.result (omega (arith, lt, c.requires.each))
    (rw (c.above-here.ensures, ← c.requires.each) ups)

pub loop-here-preserved : goal.loop-here-preserved
loop-here-preserved g c =
    let t = c.args.self.now in
    let fs = t.fails.items in
    let inv = c.loop-here.invariant in
    let here = c.loop-here.here in
    let lt : here < length fs = not_top fs here c.args.to (omega (arith, inv.within, c.requires.each)) inv.above c.loop-here-test.true in
    let ups = ups_fall fs here (λ q low _ high. c.requires.fall q low high) here (omega arith) lt in
    let most : up fs here ≤ length t.parents.items = elim ups [
      | inl a ↦ omega (arith, a, lt, c.requires.each)
      | inr b ↦
          omega (arith, b, c.requires.each)
    ] in
    record {
      same = c.leave.ensures.same ∙ inv.same;
      within = rw c.above-here.ensures most;
      kept = λ j. rw c.above-here.ensures (inv.kept (suc j));
      above = rw c.above-here.ensures (above_next (up fs) here c.args.to inv.above c.loop-here-test.true);
      near = rw c.above-here.ensures c.leave.ensures.near;
    }

pub leave-requires-clause-saved : goal.leave-requires-clause-saved
leave-requires-clause-saved g c = c.loop-here.invariant.kept 0
