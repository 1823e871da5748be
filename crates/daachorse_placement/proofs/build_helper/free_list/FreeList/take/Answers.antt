-- A label leads to an element, and one child more has its own.
use Rattle.std.proofs.Common.{◌<◌, bit_xor, arith}
use Rattle.daachorse_placement.specs.FreeLists.{element_count}
use Rattle.daachorse_placement.specs.Placement.{label_of}
use Rattle.daachorse_placement.proofs.FreeListLaws.{child_inside, taken_more, map_more}
use Rattle.daachorse_placement.proofs.build_helper.free_list.FreeList.take.Goals as goal

pub use_index-requires-clause-inside : goal.use_index-requires-clause-inside
use_index-requires-clause-inside g c =
    let inv = c.loop-label.invariant in
    let i = c.loop-label.label-index in
    let inside : bit_xor c.args.base (label_of c.args.children.now i) < element_count c.args.self.now = child_inside c.args.self.now c.args.base _ c.requires.whole c.requires.inside (c.requires.labels i (omega arith)) in
    omega (arith, inv.taken.count, inside)

pub loop-label-preserved : goal.loop-label-preserved
loop-label-preserved g c =
    let inv = c.loop-label.invariant in
    let i = c.loop-label.label-index in
    let inside : bit_xor c.args.base (label_of c.args.children.now i) < element_count c.args.self.now = child_inside c.args.self.now c.args.base _ c.requires.whole c.requires.inside (c.requires.labels i (omega arith)) in
    let e = c.use_index.ensures in
    record {
      whole = e.whole;
      taken = taken_more c.args.self.now c.loop-label.self c.args.children.now i c.args.base c.use_index.new.self (omega (arith, inv.taken.count, inside)) e.used e.bases e.block e.blocks e.windowed inv.taken;
      map = map_more c.args.idx_map.now c.loop-label.idx_map c.args.children.now i c.args.base c.requires.apart (omega arith) (let w = c.requires.ids i (omega arith) in omega (arith, inv.map.same)) inv.map;
    }
