-- An edge that goes to its place leaves the labels in order, and is found there.
use Rattle.std.proofs.Common.{ℕ, List, sym, subst, Result, Ok, Err, OnOk, OnErr}
use Rattle.std.proofs.lemmas.Result.{on_ok_weaker}
use Rattle.daachorse_build.specs.EdgeMaps.{IsOrdered, Updates}
use Rattle.daachorse_build.specs.Few.{items_of}
use Rattle.daachorse_build.proofs.EdgeLists.{ordered_put, updates_put}
use Rattle.daachorse_build.proofs.edge_map.EdgeMap.insert.Goals as goal

by_result : {T E P Q R : Type 0} (r : Result T E) → OnOk r P → OnErr r Q → (P → R) → (Q → R) → R
by_result (Ok _) p q f h = f p
by_result (Err _) p q f h = h q

ordered_new : goal.returns-clause-ordered
ordered_new g c =
    let cmp = g.L.Ord.cmp in
    let old = items_of c.self.inside.edges in
    let P : List (g.row.L.Denot × ℕ) → Type 0 = IsOrdered cmp in
    by_result c.put.result c.put.ensures.edges c.put.ensures.unchanged
    (λ e. subst P (sym e) (ordered_put cmp g.met.L.Ord.total old c.args.label c.args.id c.self.invariant.0))
    (λ e. subst P (sym e) c.self.invariant.0)

pub invariant_of-self : goal.invariant_of-self
invariant_of-self g c = (ordered_new g c, c.put.ensures.spills)

pub returns-clause-updates : goal.returns-clause-updates
returns-clause-updates g c =
    let cmp = g.L.Ord.cmp in
    let old = items_of c.self.inside.edges in
    let P : List (g.row.L.Denot × ℕ) → Type 0 = λ m. Updates cmp old m c.args.label c.args.id in
    let Q : List (g.row.L.Denot × ℕ) → Type 0 = λ m. Updates cmp m (items_of c.put.new.edges) c.args.label c.args.id in
    on_ok_weaker c.put.result
    (λ e. subst Q c.self.view_is (subst P (sym e) (updates_put cmp g.met.L.Ord.total old c.args.label c.args.id)))
    c.put.ensures.edges

pub returns-clause-ordered : goal.returns-clause-ordered
returns-clause-ordered g c = ordered_new g c
