-- Where the search hits, the id is written; where it misses, the edge goes to the place at which it ended.
use Rattle.std.proofs.Common.{set, Result, Ok, Err, OnErr, ◌∙◌, ap}
use Rattle.daachorse_build.proofs.EdgeLists.{none_at, put_at, put_between}
use Rattle.daachorse_build.proofs.edge_map.put_among.Goals as goal

on_err : {T E P : Type 0} (r : Result T E) → P → OnErr r P
on_err (Ok _) p = tt
on_err (Err _) p = p

pub returns-in-Ok-clause-edges : goal.returns-in-Ok-clause-edges
returns-in-Ok-clause-edges g c =
    let es = c.args.edges.now.items in
    let hit = rw c.deref.ensures.value at c.in-Ok.ensures in
    let d = c.index_mut.result.now in
    ap (λ x. set es c.in-Ok.place (x.0, c.args.edge.1)) c.index_mut.ensures.value ∙ put_at g.L.Ord.cmp g.met.L.Ord.total es c.in-Ok.place c.args.edge.0 c.args.edge.1 d c.requires hit.within (hit.place d)

pub returns-in_ok-insert-in-Err-clause-edges : goal.returns-in_ok-insert-in-Err-clause-edges
returns-in_ok-insert-in-Err-clause-edges g c =
    let miss = rw c.deref.ensures.value at c.in-Err.ensures in
    c.in_ok-insert-in-Err.ensures.items ∙ put_between g.L.Ord.cmp g.met.L.Ord.total c.args.edges.now.items c.in-Err.place c.args.edge.0 c.args.edge.1 miss.within miss.place

pub returns-in_err-insert-in-Err-clause-absent : goal.returns-in_err-insert-in-Err-clause-absent
returns-in_err-insert-in-Err-clause-absent g c =
    let miss = rw c.deref.ensures.value at c.in-Err.ensures in
    on_err c.from_residual.result (none_at g.L.Ord.cmp g.met.L.Ord.total c.args.edges.now.items c.in-Err.place c.args.edge.0 miss.within miss.place)
