-- One child of the root more is in the queue, with its link.
use Rattle.std.proofs.Common.{◌≡◌, ◌<◌, length, replicate, sym, inl, inr, arith}
use Rattle.std.proofs.lemmas.List.{length-map, length_push}
use Rattle.daachorse_build.specs.Tables.{edges_of, stops_of}
use Rattle.daachorse_build.proofs.EdgeTurns.{edge_read, all_read}
use Rattle.daachorse_build.proofs.Queue.{traversal_start, traversal_first, child_at_place}
use Rattle.daachorse_build.proofs.nfa_builder.links.BreadthFirstTraversal.new.Goals as goal

pub loop-child-init : goal.loop-child-init
loop-child-init g c =
    let states = c.args.states.now in
    let zeros : c.in_ok-links.links.items ≡ replicate (length states) 0 = c.in_ok-links.ensures.items_if_clones_equal (λ _ e. e) in
    let start = traversal_start g.L.Ord.cmp g.met.L.Ord.total (edges_of states) c.requires (stops_of c.args.leftmost states) (length states) (sym (length-map states (λ s. s.edges))) in
    rw (zeros, c.in_ok-order.ensures.items) start

pub first_link-requires-clause-edge : goal.first_link-requires-clause-edge
first_link-requires-clause-edge g c =
    let states = c.args.states.now in
    let two : 0 < length states = omega (arith, c.requires.trie.two, length-map states (λ s. s.edges)) in
    let at = edge_read states 0 c.index-states-root.result two c.index-states-root.is
    c.loop-child.yielded c.into_iter-child-iterator.result c.loop-child.child-iterator c.next.new.self c.next.result (cc) c.loop-child.yielded_by c.next.ensures.steps
    (c.in-Some.field-0-0, c.in-Some.child) c.in-Some.is in
    (c.in-Some.field-0-0.now, child_at_place g.L.Ord.cmp g.met.L.Ord.total (edges_of states) c.requires 0 (length c.loop-child.yielded) c.in-Some.field-0-0.now c.in-Some.child.now at)

pub index_mut-requires : goal.index_mut-requires
index_mut-requires g c =
    let states = c.args.states.now in
    let two : 0 < length states = omega (arith, c.requires.trie.two, length-map states (λ s. s.edges)) in
    let at = edge_read states 0 c.index-states-root.result two c.index-states-root.is
    c.loop-child.yielded c.into_iter-child-iterator.result c.loop-child.child-iterator c.next.new.self c.next.result (cc) c.loop-child.yielded_by c.next.ensures.steps
    (c.in-Some.field-0-0, c.in-Some.child) c.in-Some.is in
    let edge = child_at_place g.L.Ord.cmp g.met.L.Ord.total (edges_of states) c.requires 0 (length c.loop-child.yielded) c.in-Some.field-0-0.now c.in-Some.child.now at in
    let b = c.requires.trie.bounds 0 c.in-Some.field-0-0.now c.in-Some.child.now edge in
    omega (arith, b.3, c.loop-child.invariant.one_each)

pub loop-child-preserved : goal.loop-child-preserved
loop-child-preserved g c =
    let states = c.args.states.now in
    let two : 0 < length states = omega (arith, c.requires.trie.two, length-map states (λ s. s.edges)) in
    let at = edge_read states 0 c.index-states-root.result two c.index-states-root.is
    c.loop-child.yielded c.into_iter-child-iterator.result c.loop-child.child-iterator c.next.new.self c.next.result (cc) c.loop-child.yielded_by c.next.ensures.steps
    (c.in-Some.field-0-0, c.in-Some.child) c.in-Some.is in
    let more = traversal_first g.L.Ord.cmp g.met.L.Ord.total (edges_of states) c.requires (stops_of c.args.leftmost states) c.loop-child.links.items c.loop-child.order.items (length c.loop-child.yielded) c.in-Some.field-0-0.now c.in-Some.child.now c.first_link.result c.loop-child.invariant at c.first_link.ensures.link
    (elim c.first_link.ensures.among [ inl dead ↦ inl dead | inr known ↦ inr (elim known [ inl root ↦ inl root | inr none ↦ absurd (omega (arith, none.1)) ]) ]) in
    rw (c.in_ok-push.ensures.items, length_push c.loop-child.yielded (c.in-Some.field-0-0, c.in-Some.child)) more

pub returns-clause-traversal : goal.returns-clause-traversal
returns-clause-traversal g c =
    let states = c.args.states.now in
    let two : 0 < length states = omega (arith, c.requires.trie.two, length-map states (λ s. s.edges)) in
    let whole = all_read states 0 c.index-states-root.result two c.index-states-root.is
    c.loop-child.yielded c.into_iter-child-iterator.result c.loop-child.child-iterator c.next.new.self c.next.result (cc) c.loop-child.yielded_by c.next.ensures.steps
    c.in-None.is in
    rw whole at c.loop-child.invariant

pub bounds-states-root : goal.bounds-states-root
bounds-states-root g c = omega (arith, c.requires.trie.two, length-map c.args.states.now (λ s. s.edges))
