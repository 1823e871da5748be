-- One child more goes into the queue, with the link that following the links found.
use Rattle.std.proofs.Common.{◌≡◌, ℕ, ◌<◌, List, [], ◌∷◌, ◌++◌, length, take, get_or, Contains, refl, sym, ◌∙◌, subst, arith}
use Rattle.std.proofs.lemmas.List.{length-map, get_or_read, length_push, get_or_append_left, take-append-le}
use Rattle.std.proofs.lemmas.List.Elements.{Contains-get_or}
use Rattle.std.specs.declared.cmp.Ordering.{Ordering}
use Rattle.daachorse_build.specs.Tables.{edges_of, stops_of}
use Rattle.daachorse_build.specs.Orders.{IsLinkAmong}
use Rattle.daachorse_build.specs.declared.nfa_builder.NfaBuilderState.{NfaBuilderState}
use Rattle.daachorse_build.specs.declared.nfa_builder.links.BreadthFirstTraversal.{BreadthFirstTraversal}
use Rattle.daachorse_build.specs.Traversals.{Traverses}
use Rattle.daachorse_build.proofs.EdgeTurns.{edge_read, all_read}
use Rattle.daachorse_build.proofs.Queue.{traversal_push, traversal_next, child_at_place}
use Rattle.daachorse_build.proofs.nfa_builder.links.BreadthFirstTraversal.expand.Goals as goal

-- the state that is left, and that it is in the queue
left_is : {L V A : Type 0} (cmp : L → L → Ordering) (states : List (NfaBuilderState L V A)) (s : BreadthFirstTraversal A) (pending : List ℕ) (id : ℕ) → Traverses cmp states s pending → s.next < length s.order.items → id ≡ get_or s.order.items s.next id → (get_or s.order.items s.next 0 ≡ id) × Contains s.order.items id × (1 < id) × (id < length states) × (id < length s.links.items)
left_is cmp states s pending id traversal l is =
    let e = get_or_read s.order.items s.next id l is 0 in
    let in' = subst (Contains s.order.items) (sym e) (Contains-get_or s.order.items s.next 0 l) in
    let b = traversal.states id in' in
    (sym e, in', b.0, omega (arith, b.1, length-map states (λ x. x.edges)), omega (arith, b.1, traversal.one_each))

pub index-start-requires : goal.index-start-requires
index-start-requires g c =
    let left = left_is g.L.Ord.cmp c.args.states.now c.args.self.now [] c.index-id.result.now c.requires.traversal (omega arith) c.index-id.ensures in
    omega (arith, left.4)

pub bounds-states-id : goal.bounds-states-id
bounds-states-id g c =
    let left = left_is g.L.Ord.cmp c.args.states.now c.args.self.now [] c.index-id.result.now c.requires.traversal (omega arith) c.index-id.ensures in
    left.3

pub loop-label-init : goal.loop-label-init
loop-label-init g c =
    let s = c.args.self.now in
    let id = c.index-id.result.now in
    let left = left_is g.L.Ord.cmp c.args.states.now c.args.self.now [] c.index-id.result.now c.requires.traversal (omega arith) c.index-id.ensures in
    let start = get_or_read s.links.items id c.index-start.result.now left.4 c.index-start.ensures 0 in
    let P : ℕ → Type 0 = λ i. IsLinkAmong (take s.next s.order.items) (get_or s.links.items i 0) in
    let more : s.next < length s.order.items = omega arith in
    record {
      traversal = c.requires.traversal;
      next = refl;
      more = more;
      here = left.0;
      known = rw start (subst P left.0 (c.requires.traversal.earlier s.next more));
      link = rw start (c.requires.traversal.linked id left.1);
      kind = refl;
      root = refl;
    }

pub link-fail-requires-clause-parent : goal.link-fail-requires-clause-parent
link-fail-requires-clause-parent g c =
    let left = left_is g.L.Ord.cmp c.args.states.now c.args.self.now [] c.index-id.result.now c.requires.traversal (omega arith) c.index-id.ensures in
    let at = edge_read c.args.states.now c.index-id.result.now c.index-states-id.result left.3 c.index-states-id.is
    c.loop-label.yielded c.into_iter-label-iterator.result c.loop-label.label-iterator c.next.new.self c.next.result (cc) c.loop-label.yielded_by c.next.ensures.steps
    (c.in-Some.label, c.in-Some.child) c.in-Some.is in
    let edge = child_at_place g.L.Ord.cmp g.met.L.Ord.total (edges_of c.args.states.now) c.requires.table c.index-id.result.now (length c.loop-label.yielded) c.in-Some.label.now c.in-Some.child.now at in
    (c.index-id.result.now, left.2, edge, c.loop-label.invariant.link)

pub index_mut-requires : goal.index_mut-requires
index_mut-requires g c =
    let left = left_is g.L.Ord.cmp c.args.states.now c.args.self.now [] c.index-id.result.now c.requires.traversal (omega arith) c.index-id.ensures in
    let at = edge_read c.args.states.now c.index-id.result.now c.index-states-id.result left.3 c.index-states-id.is
    c.loop-label.yielded c.into_iter-label-iterator.result c.loop-label.label-iterator c.next.new.self c.next.result (cc) c.loop-label.yielded_by c.next.ensures.steps
    (c.in-Some.label, c.in-Some.child) c.in-Some.is in
    let edge = child_at_place g.L.Ord.cmp g.met.L.Ord.total (edges_of c.args.states.now) c.requires.table c.index-id.result.now (length c.loop-label.yielded) c.in-Some.label.now c.in-Some.child.now at in
    let b = c.requires.table.trie.bounds c.index-id.result.now c.in-Some.label.now c.in-Some.child.now edge in
    omega (arith, b.3, c.loop-label.invariant.traversal.one_each)

pub loop-label-preserved : goal.loop-label-preserved
loop-label-preserved g c =
    let s = c.loop-label.self in
    let states = c.args.states.now in
    let t = c.in-Some.child.now in
    let i = c.loop-label.invariant in
    let left = left_is g.L.Ord.cmp c.args.states.now c.args.self.now [] c.index-id.result.now c.requires.traversal (omega arith) c.index-id.ensures in
    let at = edge_read c.args.states.now c.index-id.result.now c.index-states-id.result left.3 c.index-states-id.is
    c.loop-label.yielded c.into_iter-label-iterator.result c.loop-label.label-iterator c.next.new.self c.next.result (cc) c.loop-label.yielded_by c.next.ensures.steps
    (c.in-Some.label, c.in-Some.child) c.in-Some.is in
    let pushed = c.in_ok-push.ensures.items in
    let more = traversal_push g.L.Ord.cmp g.met.L.Ord.total (edges_of states) c.requires.table (stops_of c.loop-label.self.leftmost states) s.links.items s.order.items s.next (length c.loop-label.yielded) c.in-Some.label.now t c.index-id.result.now c.link-fail.result i.traversal i.more i.here at c.link-fail.ensures.link c.link-fail.ensures.from in
    let count = length_push c.loop-label.yielded (c.in-Some.label, c.in-Some.child) in
    let front : take s.next (s.order.items ++ t ∷ []) ≡ take s.next s.order.items = take-append-le s.next s.order.items (t ∷ []) (omega (arith, i.more)) in
    record {
      traversal = rw (pushed, count) more;
      next = i.next;
      more = rw pushed (omega (arith, i.more, length_push s.order.items t));
      here = rw pushed (get_or_append_left s.order.items (t ∷ []) 0 s.next i.more ∙ i.here);
      known = rw (pushed, front) i.known;
      link = i.link;
      kind = i.kind;
      root = i.root;
    }

pub returns-clause-traversal : goal.returns-clause-traversal
returns-clause-traversal g c =
    let s = c.loop-label.self in
    let states = c.args.states.now in
    let i = c.loop-label.invariant in
    let left = left_is g.L.Ord.cmp c.args.states.now c.args.self.now [] c.index-id.result.now c.requires.traversal (omega arith) c.index-id.ensures in
    let whole = all_read states c.index-id.result.now c.index-states-id.result left.3 c.index-states-id.is
    c.loop-label.yielded c.into_iter-label-iterator.result c.loop-label.label-iterator c.next.new.self c.next.result (cc) c.loop-label.yielded_by c.next.ensures.steps
    c.in-None.is in
    traversal_next g.L.Ord.cmp g.met.L.Ord.total (edges_of states) c.requires.table (stops_of c.loop-label.self.leftmost states) s.links.items s.order.items s.next c.index-id.result.now (rw whole at i.traversal) i.more i.here

pub offset_bounds-states-id : goal.offset_bounds-states-id
offset_bounds-states-id g c =
    let left = left_is g.L.Ord.cmp c.args.states.now c.args.self.now [] c.index-id.result.now c.requires.traversal (omega arith) c.index-id.ensures in
    omega (arith, left.3)
