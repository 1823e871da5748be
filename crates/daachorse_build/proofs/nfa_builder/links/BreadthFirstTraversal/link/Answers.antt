-- A child is dead where its parent's link is, or where it stops; else the links of its parent are followed.
use Rattle.std.proofs.Common.{◌≡◌, ◌⊎◌, true, length, sym, ◌∙◌, inl, inr, arith}
use Rattle.std.proofs.lemmas.List.{length-map}
use Rattle.daachorse_build.specs.Tables.{child_in, edges_of, stops_of}
use Rattle.daachorse_build.proofs.LeftLinks.{link_dead, link_alive, root_goes}
use Rattle.daachorse_build.proofs.nfa_builder.links.BreadthFirstTraversal.link.Goals as goal
use Rattle.daachorse_build.proofs.nfa_builder.links.BreadthFirstTraversal.link.Goals.{then-start-eq-DEAD_STATE_ID-via-then-start-eq-DEAD_STATE_ID, then-start-eq-DEAD_STATE_ID-via-else-start-eq-DEAD_STATE_ID+then-stops}

pub returns-then-start-eq-DEAD_STATE_ID-clause-link : goal.returns-then-start-eq-DEAD_STATE_ID-clause-link
returns-then-start-eq-DEAD_STATE_ID-clause-link g c =
    let states = c.args.states.now in
    let stops = stops_of c.args.self.now.leftmost states in
    let p = c.requires.parent in
    let why : (c.args.start ≡ 1) ⊎ (stops c.args.child ≡ true) =
    elim c.then-start-eq-DEAD_STATE_ID.branch [ then-start-eq-DEAD_STATE_ID-via-then-start-eq-DEAD_STATE_ID w ↦ inl w.if-start-eq-DEAD_STATE_ID.true | then-start-eq-DEAD_STATE_ID-via-else-start-eq-DEAD_STATE_ID+then-stops w ↦ inr (sym w.stops.ensures ∙ w.if-stops.true) ] in
    link_dead (child_in g.L.Ord.cmp (edges_of states)) stops (length (edges_of states)) c.requires.table.trie p.0 c.args.label c.args.child c.args.start p.1 p.2 p.3 why

pub follow-requires-clause-goes : goal.follow-requires-clause-goes
follow-requires-clause-goes g c =
    let states = c.args.states.now in
    let p = c.requires.parent in
    let b = c.requires.table.trie.bounds p.0 c.args.label c.args.child p.2 in
    root_goes (child_in g.L.Ord.cmp (edges_of states)) (stops_of c.args.self.now.leftmost states) (length (edges_of states)) c.requires.table.trie p.0 c.args.start p.1 (omega (arith, b.0, b.3)) c.if-start-eq-DEAD_STATE_ID.false p.3

pub returns-clause-link : goal.returns-clause-link
returns-clause-link g c =
    let states = c.args.states.now in
    let stops = stops_of c.args.self.now.leftmost states in
    let p = c.requires.parent in
    link_alive (child_in g.L.Ord.cmp (edges_of states)) stops (length (edges_of states)) c.requires.table.trie p.0 c.args.label c.args.child c.args.start c.follow.result p.1 p.2 c.if-start-eq-DEAD_STATE_ID.false (sym c.stops.ensures ∙ c.if-stops.false) p.3 c.follow.ensures.link

pub stops-requires : goal.stops-requires
stops-requires g c =
    let p = c.requires.parent in
    let b = c.requires.table.trie.bounds p.0 c.args.label c.args.child p.2 in
    omega (arith, b.3, length-map c.args.states.now (λ s. s.edges))

pub follow-requires-clause-known : goal.follow-requires-clause-known
follow-requires-clause-known g c =
    elim c.requires.known [ inl dead ↦ absurd (c.if-start-eq-DEAD_STATE_ID.false dead) | inr known ↦ known ]
