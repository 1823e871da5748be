-- A new state is the one child of its parent by the label. Where the edge is refused, the states keep theirs.
use Rattle.std.proofs.Common.{rules, ◌≡◌, ◌<◌, List, [], ◌∷◌, ◌++◌, get_or, length, set, None, ap, ◌∙◌, subst, arith}
use Rattle.std.proofs.lemmas.Result.{err_from_is_err_and}
use Rattle.std.proofs.lemmas.Grind.{common_steps}
use Rattle.daachorse_build.specs.declared.nfa_builder.NfaBuilderState.{NfaBuilderState}
use Rattle.daachorse_build.specs.Tables.{child_of, edges_of}
use Rattle.daachorse_build.proofs.States.{extends_new, map_stays}
use Rattle.daachorse_build.proofs.Labels.{label_exact}
use Rattle.daachorse_build.proofs.nfa_builder.adding.child_or_new.Goals as goal

pub returns-clause-ok : goal.returns-clause-ok
returns-clause-ok g c =
    let states = c.args.states.now.items in
    let same : c.reserve.new.self.items ≡ states = search rules in
    let low : c.args.id < length states = omega arith in
    let none : child_of g.L.Ord.cmp states c.args.id c.args.label ≡ None = search rules in
    let count : c.in-Ok.fresh ≡ length states = search rules in
    let parent = c.index_mut.result.now in
    let P : List (NfaBuilderState g.row.L.Denot g.row.V.Denot g.row.A.Denot) → Type 0 = λ ss. parent ≡ get_or ss c.args.id parent in
    let Q : List (NfaBuilderState g.row.L.Denot g.row.V.Denot g.row.A.Denot) → Type 0 = λ ss. c.push.new.self.items ≡ set ss c.args.id (record parent { edges = c.insert.new.self }) ++ c.new.result ∷ [] in
    rw count (extends_new g.L.Ord.cmp g.met.L.Ord.total (label_exact g.L.EdgeLabel.unit g.L.Ord.cmp g.met.L.EdgeLabel.exact g.met.L.EdgeLabel.by_unit) states c.push.new.self.items c.args.id c.args.label parent c.insert.new.self _ c.requires.trie low c.requires.alive none (subst P same c.index_mut.ensures.value) c.in_ok-insert.ensures.ordered (rw count at c.in_ok-insert.ensures.updates) c.new.ensures.edges c.new.ensures.outputs (subst Q same c.in_ok-push.ensures.items))

pub returns-in_err-insert-clause-kept : goal.returns-in_err-insert-clause-kept
returns-in_err-insert-clause-kept g c =
    let states = c.args.states.now.items in
    let same : c.reserve.new.self.items ≡ states = search rules in
    let low : c.args.id < length c.reserve.new.self.items = omega (arith, ap length same) in
    let parent = c.index_mut.result.now in
    let p = err_from_is_err_and c.from_residual-in_err-insert.result c.from_residual-in_err-insert.ensures.1 in
    rw p.1 (map_stays (λ s. s.edges) c.reserve.new.self.items c.args.id parent (record parent { edges = c.insert.new.self }) low c.index_mut.ensures.value c.in_err-insert.ensures.unchanged ∙ ap edges_of same)

pub returns-in-Some-clause-ok : goal.returns-in-Some-clause-ok
returns-in-Some-clause-ok g c = grind (arith, common_steps)
