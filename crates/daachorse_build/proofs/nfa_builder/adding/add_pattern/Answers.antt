-- One label more is one state more on the way; the output goes to the last.
use Rattle.std.proofs.Common.{get_or, ◌≡◌, ◌+◌, ◌<◌, ℕ, List, [], ◌∷◌, ◌++◌, length, take, drop, set, vec_len, None, refl, sym, ap, ◌∙◌, arith}
use Rattle.std.proofs.lemmas.List.{take_more, take_all, drop_more, take-append-drop}
use Rattle.daachorse_build.specs.Tables.{child_of, edges_of}
use Rattle.daachorse_build.proofs.States.{adding_start, adding_more, added, leads_low, output_pushed, map_stays}
use Rattle.daachorse_build.proofs.Labels.{label_exact}
use Rattle.std.proofs.lemmas.Result.{err_from_is_err_and}
use Rattle.daachorse_core.specs.declared.errors.Limit.TheVariants.{StateId}
use Rattle.std.specs.declared.cmp.Ordering.{Ordering}
use Rattle.daachorse_build.specs.declared.nfa_builder.NfaBuilderState.{NfaBuilderState}
use Rattle.daachorse_build.specs.Growth.{IsAdding, Overflows}
use Rattle.daachorse_core.proofs.Refusals.{IsRefusal-weaker}
use Rattle.daachorse_build.proofs.nfa_builder.adding.add_pattern.Goals as goal

pub loop-label-init : goal.loop-label-init
loop-label-init g c = (adding_start g.L.Ord.cmp g.met.L.Ord.total (label_exact g.L.EdgeLabel.unit g.L.Ord.cmp g.met.L.EdgeLabel.exact g.met.L.EdgeLabel.by_unit) c.args.states.now.items c.requires, λ fits. fits)

pub child_or_new-requires-clause-in_range : goal.child_or_new-requires-clause-in_range
child_or_new-requires-clause-in_range g c = omega (arith, (leads_low g.L.Ord.cmp c.loop-label.states.items c.loop-label.invariant.0.trie _ c.loop-label.id c.loop-label.invariant.0.here).0)

pub child_or_new-requires-clause-alive : goal.child_or_new-requires-clause-alive
child_or_new-requires-clause-alive g c = (leads_low g.L.Ord.cmp c.loop-label.states.items c.loop-label.invariant.0.trie _ c.loop-label.id c.loop-label.invariant.0.here).1

pub loop-label-preserved : goal.loop-label-preserved
loop-label-preserved g c =
    let pattern = c.args.pattern.now in
    let i = c.loop-label.label-index in
    let low : i < length pattern = omega arith in
    let more = adding_more g.L.Ord.cmp g.met.L.Ord.total (label_exact g.L.EdgeLabel.unit g.L.Ord.cmp g.met.L.EdgeLabel.exact g.met.L.EdgeLabel.by_unit) c.args.states.now.items c.loop-label.states.items c.child_or_new.new.states.items (take i pattern) c.loop-label.id c.label-item.result c.in_ok-id.id c.loop-label.invariant.0 c.in_ok-id.ensures.ok in
    let front : take (i + 1) pattern ≡ take i pattern ++ c.label-item.result ∷ [] = take_more pattern i c.label-item.result low ∙ ap (λ x. take i pattern ++ x ∷ []) (sym c.label-item.is) in
    (rw front more, λ fits. c.in_ok-id.ensures.fits (c.loop-label.invariant.1 fits))

pub index_mut-requires : goal.index_mut-requires
index_mut-requires g c = omega (arith, (leads_low g.L.Ord.cmp c.loop-label.states.items c.loop-label.invariant.0.trie _ c.loop-label.id c.loop-label.invariant.0.here).0)

-- a change of the own outputs keeps the edges
edges_stay : {L V A : Type 0} (cmp : L → L → Ordering) (old states : List (NfaBuilderState L V A)) (p : List L) (id : ℕ) → IsAdding cmp old states p id → (x y : NfaBuilderState L V A) → x ≡ get_or states id x → y.edges ≡ x.edges → edges_of (set states id y) ≡ edges_of states
edges_stay cmp old states p id adding x y is same = map_stays (λ s. s.edges) states id x y (leads_low cmp states adding.trie p id adding.here).0 is same

pub returns-clause-ok : goal.returns-clause-ok
returns-clause-ok g c =
    let states = c.loop-label.states.items in
    let id = c.loop-label.id in
    let x = c.index_mut.result.now in
    let y = record x { output = c.push.new.self } in
    let i = c.loop-label.invariant.0 in
    let p = take c.loop-label.label-index c.args.pattern.now in
    let low = (leads_low g.L.Ord.cmp states i.trie p id i.here).0 in
    let whole : p ≡ c.args.pattern.now = take_all c.loop-label.label-index c.args.pattern.now (omega arith) in
    let out = output_pushed states id x y (c.args.value, c.args.size) low c.index_mut.ensures.value c.in_ok-push.ensures.items in
    let edges = edges_stay g.L.Ord.cmp c.args.states.now.items states p id i x y c.index_mut.ensures.value refl in
    let done = added g.L.Ord.cmp g.met.L.Ord.total (label_exact g.L.EdgeLabel.unit g.L.Ord.cmp g.met.L.EdgeLabel.exact g.met.L.EdgeLabel.by_unit) c.args.states.now.items states (set states id y) p id (c.args.value, c.args.size) c.requires i edges out in
    rw whole at done

pub returns-in_err-id-clause-err : goal.returns-in_err-id-clause-err
returns-in_err-id-clause-err g c =
    let p = err_from_is_err_and c.from_residual.result c.from_residual.ensures.1 in
    let pattern = c.args.pattern.now in
    let i = c.loop-label.label-index in
    let x = c.label-item.result in
    let low : i < length pattern = c.loop-label-test.true in
    let rest : x ∷ drop (i + 1) pattern ≡ drop i pattern = ap (λ y. y ∷ drop (i + 1) pattern) c.label-item.is ∙ sym (drop_more pattern i x low) in
    let splits : take i pattern ++ x ∷ drop (i + 1) pattern ≡ pattern = ap (λ z. take i pattern ++ z) rest ∙ take-append-drop i pattern in
    rw (p.1, p.2) (IsRefusal-weaker ⊥ ⊥ StateId ((4294967295 < vec_len c.loop-label.states) × (child_of g.L.Ord.cmp c.loop-label.states.items c.loop-label.id x ≡ None)) (Overflows g.L.Ord.cmp c.args.states.now.items pattern 4294967295) (λ none. none)
    (λ h. record { mid = c.loop-label.states.items; front = take i pattern; label = x; rest = drop (i + 1) pattern; splits = splits; id = c.loop-label.id; adding = c.loop-label.invariant.0; full = omega (arith, h.0); none = h.1 })
    _ c.in_err-id.ensures.err)

pub returns-in_err-id-clause-trie : goal.returns-in_err-id-clause-trie
returns-in_err-id-clause-trie g c =
    rw c.in_err-id.ensures.kept c.loop-label.invariant.0.trie

pub returns-clause-trie : goal.returns-clause-trie
returns-clause-trie g c =
    let x = c.index_mut.result.now in
    let i = c.loop-label.invariant.0 in
    rw (edges_stay g.L.Ord.cmp c.args.states.now.items c.loop-label.states.items _ c.loop-label.id i x (record x { output = c.push.new.self }) c.index_mut.ensures.value refl) i.trie

pub returns-in_err-push-clause-trie : goal.returns-in_err-push-clause-trie
returns-in_err-push-clause-trie g c =
    let x = c.index_mut.result.now in
    let i = c.loop-label.invariant.0 in
    rw (edges_stay g.L.Ord.cmp c.args.states.now.items c.loop-label.states.items _ c.loop-label.id i x (record x { output = c.push.new.self }) c.index_mut.ensures.value refl) i.trie
