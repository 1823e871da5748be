-- What was saved at a child is what is near above the rank by the child's label, and by a label of no child the same is near the rank and
-- above it.
use Rattle.std.proofs.Common.{length, arith}
use Rattle.std.proofs.lemmas.Grind.{elements}
use Rattle.daachorse_array.proofs.SettingLaws.{left}
use Rattle.daachorse_array.proofs.trie.Trie.leave.Goals as goal

pub returns-clause-near : goal.returns-clause-near
returns-clause-near g c =
    let t = c.args.self.now in
    let r = c.requires in
    let inv = c.loop-m.invariant in
    left t.parents.items t.labels.items t.stops.items t.fails.items
    (length c.args.near.now.items) r.trie r.each r.fall c.args.starts.now r.starts c.args.p r.within c.loop-m.near.items c.loop-m.m
    (omega (arith, inv.end, c.loop-m-test.false)) inv.is

pub loop-m-preserved : goal.loop-m-preserved
loop-m-preserved g c = grind (arith, elements)
