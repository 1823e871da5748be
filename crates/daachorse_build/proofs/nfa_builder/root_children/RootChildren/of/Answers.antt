-- One edge of the root more has been entered, or passed since its label has a large number.
use Rattle.std.proofs.Common.{◌<◌, ◌≤◌, length, arith}
use Rattle.std.proofs.lemmas.List.{length-map, length_push}
use Rattle.daachorse_build.specs.Tables.{edges_of}
use Rattle.daachorse_build.proofs.EdgeTurns.{edge_read, all_passed}
use Rattle.daachorse_build.proofs.Labels.{label_exact}
use Rattle.daachorse_build.proofs.RootEdges.{entered_start, entered_past, entered_more, entered_all}
use Rattle.daachorse_build.proofs.nfa_builder.root_children.RootChildren.of.Goals as goal

pub loop-label-init : goal.loop-label-init
loop-label-init g c = entered_start g.L.Ord.cmp g.L.EdgeLabel.unit (edges_of c.args.states.now)

pub loop-label-preserved : goal.loop-label-preserved
loop-label-preserved g c =
    let states = c.args.states.now in
    let two : 0 < length states = omega (arith, c.requires.trie.two, length-map states (λ s. s.edges)) in
    let at = edge_read states 0 c.index-states.result two c.index-states.is
    c.loop-label.yielded c.into_iter-label-iterator.result c.loop-label.label-iterator c.next.new.self c.next.result (cc) c.loop-label.yielded_by c.next.ensures.steps
    (c.in-Some.label, c.in-Some.child) c.in-Some.is in
    let large : 256 ≤ g.L.EdgeLabel.unit c.in-Some.label.now = omega (arith, c.if-code-lt256.false, c.code-code.ensures) in
    let more = entered_past g.L.Ord.cmp g.L.EdgeLabel.unit (edges_of states) c.loop-label.ids (length c.loop-label.yielded) c.in-Some.label.now c.in-Some.child.now c.loop-label.invariant at large in
    rw (length_push c.loop-label.yielded (c.in-Some.label, c.in-Some.child)) more

pub loop-label-preserved-then-code-lt256 : goal.loop-label-preserved-then-code-lt256
loop-label-preserved-then-code-lt256 g c =
    let states = c.args.states.now in
    let two : 0 < length states = omega (arith, c.requires.trie.two, length-map states (λ s. s.edges)) in
    let at = edge_read states 0 c.index-states.result two c.index-states.is
    c.loop-label.yielded c.into_iter-label-iterator.result c.loop-label.label-iterator c.next.new.self c.next.result (cc) c.loop-label.yielded_by c.next.ensures.steps
    (c.in-Some.label, c.in-Some.child) c.in-Some.is in
    let small : g.L.EdgeLabel.unit c.in-Some.label.now < 256 = omega (arith, c.if-code-lt256.true, c.code-code.ensures) in
    let more = entered_more g.L.Ord.cmp g.L.EdgeLabel.unit (edges_of states) g.met.L.Ord.total g.met.L.EdgeLabel.exact c.requires c.loop-label.ids (length c.loop-label.yielded) c.in-Some.label.now c.in-Some.child.now c.loop-label.invariant at small in
    rw (c.code-code.ensures, length_push c.loop-label.yielded (c.in-Some.label, c.in-Some.child)) more

pub returns : goal.returns
returns g c =
    let states = c.args.states.now in
    let two : 0 < length states = omega (arith, c.requires.trie.two, length-map states (λ s. s.edges)) in
    let all = all_passed states 0 c.index-states.result two c.index-states.is
    c.loop-label.yielded c.into_iter-label-iterator.result c.loop-label.label-iterator c.next.new.self c.next.result (cc) c.loop-label.yielded_by c.next.ensures.steps
    c.in-None.is in
    entered_all g.L.Ord.cmp g.L.EdgeLabel.unit (edges_of states) (label_exact g.L.EdgeLabel.unit g.L.Ord.cmp g.met.L.EdgeLabel.exact g.met.L.EdgeLabel.by_unit) c.loop-label.ids (length c.loop-label.yielded) c.loop-label.invariant all
