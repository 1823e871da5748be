-- The search among the edges ends at the label's edge, or where it has none.
use Rattle.std.proofs.Common.{sym}
use Rattle.daachorse_build.proofs.EdgeLists.{found_at, none_at}
use Rattle.daachorse_build.proofs.edge_map.get_among.Goals as goal

pub returns-in-Ok : goal.returns-in-Ok
returns-in-Ok g c =
    let hit = c.in-Ok.ensures in
    let found = found_at g.L.Ord.cmp g.met.L.Ord.total c.args.edges.now c.in-Ok.place c.args.label.now c.index-edges-place.result c.requires hit.within (hit.place c.index-edges-place.result) in
    sym found

pub returns-in-Err : goal.returns-in-Err
returns-in-Err g c =
    let miss = c.in-Err.ensures in
    sym (none_at g.L.Ord.cmp g.met.L.Ord.total c.args.edges.now c.in-Err.field-0 c.args.label.now miss.within miss.place)
