-- A state with an edge ends the traversal, and so do the root and a dead link; else the link goes on.
use Rattle.std.proofs.Common.{rules, refl, List, take, Option, unwrap_or, ◌≡◌, ◌≢◌, ℕ, ◌<◌, length, get_or, Contains, Some, None, sym, ◌∙◌, subst, inl, inr, arith}
use Rattle.std.proofs.lemmas.List.{length-map, get_or_read}
use Rattle.std.specs.declared.cmp.Ordering.{Ordering}
use Rattle.daachorse_build.specs.Traversals.{ComesFrom, LeadsTo}
use Rattle.daachorse_build.specs.Tables.{child_in, edges_of, stops_of}
use Rattle.daachorse_build.proofs.LeftLinks.{leads_hit, leads_from_root, leads_dead, leads_next, LeadsAs}
use Rattle.daachorse_build.proofs.Queue.{known_bounds, known_link, Contains-take, known_but_root, link_before}
use Rattle.daachorse_build.proofs.nfa_builder.links.BreadthFirstTraversal.follow.Goals as goal

comes_from_root : {L : Type 0} (cmp : L → L → Ordering) (edges : List (List (L × ℕ))) (done : List ℕ) (c : L) (o : Option ℕ) → child_in cmp edges 0 c ≡ o → ComesFrom cmp edges done c (unwrap_or o 0)
comes_from_root cmp edges done c None e = inr (inl refl)
comes_from_root cmp edges done c (Some t) e = inr (inr (0, inl refl, e))

pub child-requires : goal.child-requires
child-requires g c =
    let s = c.args.self.now in
    let states = c.args.states.now in
    let b = known_bounds g.L.Ord.cmp g.met.L.Ord.total (edges_of states) c.requires.table (stops_of s.leftmost states) s.links.items s.order.items c.requires.traversal.0 s.next c.loop-id.id c.requires.traversal.1 c.loop-id.invariant.known in
    omega (arith, b, length-map states (λ s. s.edges))

pub returns-in-Some-clause-link : goal.returns-in-Some-clause-link
returns-in-Some-clause-link g c =
    let states = c.args.states.now in
    let child = child_in g.L.Ord.cmp (edges_of states) in
    let hit : child c.loop-id.id c.args.label ≡ Some c.in-Some.found = search rules in
    leads_hit child (stops_of c.args.self.now.leftmost states) (length (edges_of states)) c.requires.table.trie c.args.start c.args.label c.loop-id.id c.in-Some.found c.loop-id.invariant.same hit

pub returns-then-id-eq-ROOT_STATE_ID-clause-link : goal.returns-then-id-eq-ROOT_STATE_ID-clause-link
returns-then-id-eq-ROOT_STATE_ID-clause-link g c =
    let states = c.args.states.now in
    let child = child_in g.L.Ord.cmp (edges_of states) in
    let stops = stops_of c.args.self.now.leftmost states in
    let P : ℕ → Type 0 = λ i. LeadsAs child stops (length (edges_of states)) c.requires.table.trie c.args.start c.args.label i in
    let Q : ℕ → Type 0 = LeadsTo g.L.Ord.cmp stops (edges_of states) c.args.start c.args.label in
    subst Q (sym c.child_or_root.ensures) (leads_from_root child stops (length (edges_of states)) c.requires.table.trie c.args.start c.args.label (child 0 c.args.label) refl (subst P c.if-id-eq-ROOT_STATE_ID.true c.loop-id.invariant.same) c.requires.goes)

pub returns-then-id-eq-ROOT_STATE_ID-clause-from : goal.returns-then-id-eq-ROOT_STATE_ID-clause-from
returns-then-id-eq-ROOT_STATE_ID-clause-from g c =
    let s = c.args.self.now in
    let edges = edges_of c.args.states.now in
    let done = take s.next s.order.items in
    let P : ℕ → Type 0 = ComesFrom g.L.Ord.cmp edges done c.args.label in
    subst P (sym c.child_or_root.ensures) (comes_from_root g.L.Ord.cmp edges done c.args.label (child_in g.L.Ord.cmp edges 0 c.args.label) refl)

pub returns-then-id-eq-DEAD_STATE_ID-clause-link : goal.returns-then-id-eq-DEAD_STATE_ID-clause-link
returns-then-id-eq-DEAD_STATE_ID-clause-link g c =
    let s = c.args.self.now in
    let states = c.args.states.now in
    let child = child_in g.L.Ord.cmp (edges_of states) in
    let stops = stops_of s.leftmost states in
    let known = known_but_root _ c.loop-id.id c.if-id-eq-ROOT_STATE_ID.false c.loop-id.invariant.known in
    let in' : Contains s.order.items c.loop-id.id = Contains-take s.next s.order.items _ known in
    let b = c.requires.traversal.1.states c.loop-id.id in' in
    let low : c.loop-id.id < length s.links.items = omega (arith, b.1, c.requires.traversal.1.one_each) in
    let fail = get_or_read s.links.items c.loop-id.id c.index-id.result.now low c.index-id.ensures 0 in
    let link = c.requires.traversal.1.linked c.loop-id.id in' in
    let none : child c.loop-id.id c.args.label ≡ None = search rules in
    leads_dead child stops (length (edges_of states)) c.requires.table.trie c.args.start c.args.label c.loop-id.id (get_or s.links.items c.loop-id.id 0) c.loop-id.invariant.same c.if-id-eq-ROOT_STATE_ID.false none link (sym fail ∙ c.if-id-eq-DEAD_STATE_ID.true)

pub index-id-requires : goal.index-id-requires
index-id-requires g c =
    let s = c.args.self.now in
    let states = c.args.states.now in
    let b = known_bounds g.L.Ord.cmp g.met.L.Ord.total (edges_of states) c.requires.table (stops_of s.leftmost states) s.links.items s.order.items c.requires.traversal.0 s.next c.loop-id.id c.requires.traversal.1 c.loop-id.invariant.known in
    omega (arith, b, c.requires.traversal.1.one_each)

pub loop-id-smaller : goal.loop-id-smaller
loop-id-smaller g c =
    let s = c.args.self.now in
    let known = known_but_root _ c.loop-id.id c.if-id-eq-ROOT_STATE_ID.false c.loop-id.invariant.known in
    let in' : Contains s.order.items c.loop-id.id = Contains-take s.next s.order.items _ known in
    let b = c.requires.traversal.1.states c.loop-id.id in' in
    let low : c.loop-id.id < length s.links.items = omega (arith, b.1, c.requires.traversal.1.one_each) in
    let fail = get_or_read s.links.items c.loop-id.id c.index-id.result.now low c.index-id.ensures 0 in
    let alive : get_or s.links.items c.loop-id.id 0 ≢ 1 = λ e. c.if-id-eq-DEAD_STATE_ID.false (fail ∙ e) in
    rw fail (link_before s.links.items s.order.items c.loop-id.id c.requires.traversal.1.earlier in' c.if-id-eq-ROOT_STATE_ID.false alive)

pub loop-id-preserved : goal.loop-id-preserved
loop-id-preserved g c =
    let s = c.args.self.now in
    let states = c.args.states.now in
    let child = child_in g.L.Ord.cmp (edges_of states) in
    let stops = stops_of s.leftmost states in
    let known = known_but_root _ c.loop-id.id c.if-id-eq-ROOT_STATE_ID.false c.loop-id.invariant.known in
    let in' : Contains s.order.items c.loop-id.id = Contains-take s.next s.order.items _ known in
    let b = c.requires.traversal.1.states c.loop-id.id in' in
    let low : c.loop-id.id < length s.links.items = omega (arith, b.1, c.requires.traversal.1.one_each) in
    let fail = get_or_read s.links.items c.loop-id.id c.index-id.result.now low c.index-id.ensures 0 in
    let link = c.requires.traversal.1.linked c.loop-id.id in' in
    let none : child c.loop-id.id c.args.label ≡ None = search rules in
    let alive : get_or s.links.items c.loop-id.id 0 ≢ 1 = λ e. c.if-id-eq-DEAD_STATE_ID.false (fail ∙ e) in
    let among = known_link g.L.Ord.cmp g.met.L.Ord.total (edges_of states) c.requires.table stops s.links.items s.order.items c.requires.traversal.0 s.next c.loop-id.id c.requires.traversal.1 known in
    record {
      known = rw fail (elim among [ inl dead ↦ absurd (alive dead) | inr k ↦ k ]);
      same = rw fail (leads_next child stops (length (edges_of states)) c.requires.table.trie c.args.start c.args.label c.loop-id.id (get_or s.links.items c.loop-id.id 0) c.loop-id.invariant.same c.if-id-eq-ROOT_STATE_ID.false none link alive);
    }

pub returns-in-Some-clause-from : goal.returns-in-Some-clause-from
returns-in-Some-clause-from g c =
    let hit : child_in g.L.Ord.cmp (edges_of c.args.states.now) c.loop-id.id c.args.label ≡ Some c.in-Some.found = search rules in
    inr (inr (c.loop-id.id, c.loop-id.invariant.known, hit))
