-- A child of the root is dead where the root or the child stops, and else its link is the root.
use Rattle.std.proofs.Common.{◌≡◌, true, false, length, refl, sym, ◌∙◌, arith}
use Rattle.std.specs.Prelude.{◌||◌}
use Rattle.std.proofs.lemmas.List.{length-map}
use Rattle.std.proofs.lemmas.Bool.{false≢true, or_from, or_left, or_right}
use Rattle.daachorse_build.specs.Tables.{child_in, edges_of, stops_of}
use Rattle.daachorse_build.proofs.LeftLinks.{link_of_first}
use Rattle.daachorse_build.proofs.nfa_builder.links.first_link.Goals.{then-stops-via-then-stops, then-stops-via-else-stops+then-stops-2}
use Rattle.daachorse_build.proofs.nfa_builder.links.first_link.Goals as goal

pub stops-requires-else-stops : goal.stops-requires-else-stops
stops-requires-else-stops g c =
    let e = c.requires.edge in
    let b = c.requires.table.trie.bounds 0 e.0 c.args.child e.1 in
    omega (arith, b.3, length-map c.args.states.now (λ s. s.edges))

pub returns-then-stops-clause-link : goal.returns-then-stops-clause-link
returns-then-stops-clause-link g c =
    let states = c.args.states.now in
    let stops = stops_of c.args.leftmost states in
    let t = c.args.child in
    let e = c.requires.edge in
    let some : (stops 0 || stops t) ≡ true =
    elim c.then-stops.branch [
      | then-stops-via-then-stops w ↦ or_left (stops 0) (stops t) (sym c.stops.ensures ∙ w.if-stops.true)
      | then-stops-via-else-stops+then-stops-2 w ↦ or_right (stops 0) (stops t) (sym w.stops-else-stops.ensures ∙ w.if-stops-2.true)
    ] in
    link_of_first (child_in g.L.Ord.cmp (edges_of states)) stops (length (edges_of states)) c.requires.table.trie e.0 t 1 e.1
    (λ h. refl) (λ h. absurd (false≢true (sym h ∙ some)))

pub returns-clause-link : goal.returns-clause-link
returns-clause-link g c =
    let states = c.args.states.now in
    let stops = stops_of c.args.leftmost states in
    let t = c.args.child in
    let e = c.requires.edge in
    let none : (stops 0 || stops t) ≡ false = or_from (stops 0) (stops t) (sym c.stops.ensures ∙ c.if-stops.false) (sym c.stops-else-stops.ensures ∙ c.if-stops-2.false) in
    link_of_first (child_in g.L.Ord.cmp (edges_of states)) stops (length (edges_of states)) c.requires.table.trie e.0 t 0 e.1
    (λ h. absurd (false≢true (sym none ∙ h))) (λ h. refl)
