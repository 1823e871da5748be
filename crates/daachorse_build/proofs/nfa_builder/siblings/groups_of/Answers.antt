-- A state comes off the stack, and it has its group, if it has an edge.
use Rattle.std.proofs.Common.{◌≡◌, ◌<◌, ℕ, not, List, [], ◌∷◌, ◌++◌, length, get_or, refl, sym, ap, ◌∙◌, subst, arith}
use Rattle.std.proofs.lemmas.List.{length-map, append-nil}
use Rattle.std.proofs.lemmas.List.Elements.{All-push}
use Rattle.std.specs.Map.{values_of}
use Rattle.daachorse_build.specs.declared.nfa_builder.NfaBuilderState.{NfaBuilderState}
use Rattle.std.specs.declared.cmp.Ordering.{Ordering}
use Rattle.std.specs.Cmp.{IsTotalOrder}
use Rattle.daachorse_build.specs.Orders.{children}
use Rattle.daachorse_build.specs.Tables.{edges_of, HoldTrie}
use Rattle.daachorse_build.specs.Groups.{edges_at, is_some_edge, IsStackWalk, AreGiven, weight_at}
use Rattle.daachorse_build.proofs.EdgeTurns.{edges_read}
use Rattle.daachorse_build.proofs.Families.{has_edges_if, parents_more, parents_same}
use Rattle.daachorse_build.proofs.StackWalk.{work, walk_start, walk_step, walk_end, top_bounds, less_work}
use Rattle.daachorse_build.proofs.nfa_builder.siblings.groups_of.Goals as goal

module _ {L V A : Type 0} (cmp : L → L → Ordering) (total : IsTotalOrder cmp) (states : List (NfaBuilderState L V A)) (table : HoldTrie cmp states) (order stack rest : List ℕ) (t : ℕ) (popped : stack ≡ rest ++ t ∷ []) (before : IsStackWalk (edges_of states) order stack) where
  abbrev edges : List (List (L × ℕ))
  edges = edges_of states

  walking : IsStackWalk edges order (rest ++ t ∷ [])
  walking = let P : List ℕ → Type 0 = λ xs. IsStackWalk edges order xs in subst P popped before

  -- what comes off the stack is a state
  top_low : t < length states
  top_low = omega (arith, (top_bounds cmp total edges table order rest t walking).0, length-map states (λ s. s.edges))

  -- its edges are read, and its children put on the stack
  module _ (x : NfaBuilderState L V A) (es : List (L × ℕ)) (is : x ≡ get_or states t x) (read : es ≡ x.edges) where
    edges_here : edges_at edges t ≡ es
    edges_here = edges_read states t x top_low is ∙ sym read

    module _ (next : List ℕ) (put : next ≡ rest ++ values_of es) where
      next_is : rest ++ children edges t ≡ next
      next_is = ap (λ fs. rest ++ values_of fs) edges_here ∙ sym put

      step : IsStackWalk edges (order ++ t ∷ []) next
      step = let W : List ℕ → Type 0 = λ xs. IsStackWalk edges (order ++ t ∷ []) xs in subst W next_is (walk_step cmp total edges table order rest t walking)

      less : work edges next < work edges stack
      less = rw (popped, ← next_is) (less_work cmp total edges table order rest t walking)

nothing : (xs : List ℕ) → length xs ≡ 0 → xs ≡ []
nothing [] h = refl
nothing (x ∷ xs) h = absurd (omega arith)

pub loop-id-init : goal.loop-id-init
loop-id-init g c =
    let start = walk_start g.L.Ord.cmp g.met.L.Ord.total (edges_of c.args.states.now) c.requires.trie in
    rw (c.in_ok-push.ensures.items, c.new-stack.ensures.items, c.new-groups.ensures.items) (record { walk = ([], start, refl); families = λ k d l. absurd (omega (arith, l)); weights = λ k d l. absurd (omega (arith, l)) })

pub bounds-states-id : goal.bounds-states-id
bounds-states-id g c =
    let walk = c.loop-id.invariant.walk in
    top_low g.L.Ord.cmp g.met.L.Ord.total c.args.states.now c.requires.trie walk.0 c.loop-id.stack.items c.pop.new.self.items c.in-Some.id c.in-Some.ensures.items walk.1

pub offset_bounds-states-id : goal.offset_bounds-states-id
offset_bounds-states-id g c = omega (arith, bounds-states-id g c)

pub weight_of-weight-requires-clause-parent : goal.weight_of-weight-requires-clause-parent
weight_of-weight-requires-clause-parent g c =
    let walk = c.loop-id.invariant.walk in
    top_low g.L.Ord.cmp g.met.L.Ord.total c.args.states.now c.requires.trie walk.0 c.loop-id.stack.items c.pop.new.self.items c.in-Some.id c.in-Some.ensures.items walk.1

pub loop-id-smaller-in_ok-push-2 : goal.loop-id-smaller-in_ok-push-2
loop-id-smaller-in_ok-push-2 g c =
    let walk = c.loop-id.invariant.walk in
    less g.L.Ord.cmp g.met.L.Ord.total c.args.states.now c.requires.trie walk.0 c.loop-id.stack.items c.pop.new.self.items c.in-Some.id c.in-Some.ensures.items walk.1
    c.index-states-id.result c.edges-edges.result.now c.index-states-id.is c.edges-edges.ensures c.put_children.new.stack.items c.in_ok-put_children.ensures.children

-- where there is no edge, the stack stays
no_children : {L : Type 0} (rest : List ℕ) (es : List (L × ℕ)) → es ≡ [] → rest ≡ rest ++ values_of es
no_children rest es none = sym (ap (λ fs. rest ++ values_of fs) none ∙ append-nil rest)

pub loop-id-smaller : goal.loop-id-smaller
loop-id-smaller g c =
    let walk = c.loop-id.invariant.walk in
    let rest = c.pop.new.self.items in
    less g.L.Ord.cmp g.met.L.Ord.total c.args.states.now c.requires.trie walk.0 c.loop-id.stack.items c.pop.new.self.items c.in-Some.id c.in-Some.ensures.items walk.1
    c.index-states-id.result c.edges-edges.result.now c.index-states-id.is c.edges-edges.ensures rest (no_children rest c.edges-edges.result.now (c.is_empty.ensures.0 c.if-not-is_empty.false))

pub loop-id-preserved-in_ok-push-2 : goal.loop-id-preserved-in_ok-push-2
loop-id-preserved-in_ok-push-2 g c =
    let i = c.loop-id.invariant in
    let walk = i.walk in
    let edges = edges_of c.args.states.now in
    let t = c.in-Some.id in
    let here = edges_here g.L.Ord.cmp g.met.L.Ord.total c.args.states.now c.requires.trie walk.0 c.loop-id.stack.items c.pop.new.self.items c.in-Some.id c.in-Some.ensures.items walk.1
    c.index-states-id.result c.edges-edges.result.now c.index-states-id.is c.edges-edges.ensures in
    let some = ap is_some_edge here ∙ has_edges_if c.edges-edges.result.now c.is_empty.result c.is_empty.ensures ∙ ap not c.if-not-is_empty.true in
    let gives = λ (l : g.row.L.Denot) (r : ℕ). g.F.Fn.post c.args.map_label.now (l, tt) r in
    let group = c.in_ok-group_of.field-0 in
    let e = c.in_ok-group_of.ensures in
    let items = c.in_ok-push-2.ensures.items in
    let Given : List (g.row.L.Denot × ℕ) → Type 0 = λ es. AreGiven gives es group.children.items in
    let children = subst Given (sym (ap (edges_at edges) e.parent ∙ here)) e.children in
    let weight = e.weight ∙ c.weight_of-weight.ensures ∙ ap (weight_at edges c.args.profile.now) (sym e.parent) in
    record {
      walk = (
        walk.0 ++ t ∷ [],
        step g.L.Ord.cmp g.met.L.Ord.total c.args.states.now c.requires.trie walk.0 c.loop-id.stack.items c.pop.new.self.items c.in-Some.id c.in-Some.ensures.items walk.1
            c.index-states-id.result c.edges-edges.result.now c.index-states-id.is c.edges-edges.ensures c.put_children.new.stack.items c.in_ok-put_children.ensures.children,
        rw items (parents_more edges walk.0 t c.loop-id.groups.items group walk.2 e.parent some),
      );
      families = rw items (All-push (λ x. AreGiven gives (edges_at edges x.parent) x.children.items) c.loop-id.groups.items group i.families children);
      weights = rw items (All-push (λ x. x.weight ≡ weight_at edges c.args.profile.now x.parent) c.loop-id.groups.items group i.weights weight);
    }

pub loop-id-preserved : goal.loop-id-preserved
loop-id-preserved g c =
    let i = c.loop-id.invariant in
    let walk = i.walk in
    let rest = c.pop.new.self.items in
    let t = c.in-Some.id in
    let none = c.is_empty.ensures.0 c.if-not-is_empty.false in
    let here = edges_here g.L.Ord.cmp g.met.L.Ord.total c.args.states.now c.requires.trie walk.0 c.loop-id.stack.items c.pop.new.self.items c.in-Some.id c.in-Some.ensures.items walk.1
    c.index-states-id.result c.edges-edges.result.now c.index-states-id.is c.edges-edges.ensures in
    record {
      walk = (
        walk.0 ++ t ∷ [],
        step g.L.Ord.cmp g.met.L.Ord.total c.args.states.now c.requires.trie walk.0 c.loop-id.stack.items c.pop.new.self.items c.in-Some.id c.in-Some.ensures.items walk.1
            c.index-states-id.result c.edges-edges.result.now c.index-states-id.is c.edges-edges.ensures rest (no_children rest c.edges-edges.result.now none),
        parents_same (edges_of c.args.states.now) walk.0 t c.loop-id.groups.items walk.2 (ap is_some_edge (here ∙ none)),
      );
      families = i.families;
      weights = i.weights;
    }

pub returns-clause-parents : goal.returns-clause-parents
returns-clause-parents g c =
    let edges = edges_of c.args.states.now in
    let walk = c.loop-id.invariant.walk in
    let P : List ℕ → Type 0 = λ xs. IsStackWalk edges walk.0 xs in
    let zero' : length c.loop-id.stack.items ≡ 0 = omega (arith, c.in_default.ensures.cases.0) in
    let none = nothing c.loop-id.stack.items zero' in
    (walk.0, walk_end g.L.Ord.cmp g.met.L.Ord.total edges c.requires.trie walk.0 (subst P none walk.1), walk.2)
