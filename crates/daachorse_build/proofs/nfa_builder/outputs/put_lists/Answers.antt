-- One state more has its list: its own outputs, and then the list of its link, which is done before it.
use Rattle.std.proofs.Common.{◌≡◌, ◌<◌, ◌≤◌, ◌+◌, ℕ, Bool, List, [], ◌∷◌, ◌++◌, length, get_or, take, Contains, inl, inr, refl, sym, ap, ◌∙◌, subst, vec_len, arith}
use Rattle.std.proofs.lemmas.List.{length-map, take_more, take_all}
use Rattle.std.proofs.lemmas.List.Elements.{Contains-get_or}
use Rattle.std.proofs.lemmas.Map.Made.{Contains-tail}
use Rattle.std.proofs.lemmas.Result.{err_from_is_err_and}
use Rattle.std.specs.declared.cmp.Ordering.{Ordering}
use Rattle.std.specs.declared.cmp.Ordering.TheVariants.{Equal}
use Rattle.std.specs.Cmp.{IsTotalOrder}
use Rattle.daachorse_core.specs.declared.errors.Limit.TheVariants.{Outputs}
use Rattle.daachorse_core.specs.Outputs.{outputs_at}
use Rattle.daachorse_build.specs.declared.nfa_builder.NfaBuilderState.{NfaBuilderState}
use Rattle.daachorse_build.specs.Tables.{edges_of, fails_of, own_of, own_at, positions_of, output_count, stops_of, HoldTrie}
use Rattle.daachorse_build.specs.Orders.{IsKnown, IsLinkAmong, IsLeftLinked}
use Rattle.daachorse_build.specs.Growth.{HasTrieOf}
use Rattle.daachorse_build.specs.Lists.{PositionsFit, IsParent}
use Rattle.daachorse_core.specs.declared.outputs.Output.{Output}
use Rattle.daachorse_build.proofs.Labels.{label_exact}
use Rattle.daachorse_build.proofs.Queue.{Contains-take}
use Rattle.daachorse_build.proofs.Cleared.{cleared, count-cleared}
use Rattle.daachorse_build.proofs.Passes.{chained_start, chained_more}
use Rattle.daachorse_build.proofs.OutputChains.{ParentsFall-nil}
use Rattle.daachorse_build.proofs.OutputLists.{listed_start, listed_more, fits_more, fail_known, none_left, order-bounds}
use Rattle.daachorse_core.proofs.Refusals.{IsRefusal-weaker}
use Rattle.daachorse_core.specs.Chains.{Passes}
use Rattle.daachorse_build.specs.Few.{items_of}
use Rattle.daachorse_build.proofs.nfa_builder.outputs.put_lists.Goals as goal

module _ {L V A : Type 0} (cmp : L → L → Ordering) (total : IsTotalOrder cmp) (exact : (x y : L) → cmp x y ≡ Equal → x ≡ y) (old new : List (NfaBuilderState L V A)) (order : List ℕ) (table : HoldTrie cmp old) (stops : ℕ → Bool) (links : IsLeftLinked cmp stops (edges_of old) (fails_of old) order) (kept : HasTrieOf old new) (i : ℕ) (l : i < length order) where
  -- a state of the order, and its link, are within the states
  state_bounds : (get_or order i 0 < length new) × (get_or (fails_of old) (get_or order i 0) 0 < length new)
  state_bounds =
      let count : length new ≡ length old = sym (length-map new (λ s. s.edges)) ∙ ap length kept.edges ∙ length-map old (λ s. s.edges) in
      let edges = length-map old (λ s. s.edges) in
      let within = order-bounds cmp total exact stops old table order (fails_of old) links in
      let at = within (get_or order i 0) (Contains-get_or order i 0 l) in
      let known_link : (f : ℕ) → IsKnown (take i order) f → f < length (edges_of old) = λ f known.
      elim known [ inl e ↦ omega (arith, e, table.trie.two) | inr h ↦ (within f (Contains-take i order f h)).1 ] in
      let link : (f : ℕ) → IsLinkAmong (take i order) f → f < length (edges_of old) = λ f among.
      elim among [ inl e ↦ omega (arith, e, table.trie.two) | inr known ↦ known_link f known ] in
      (omega (arith, at.1), omega (arith, link _ (links.earlier i l)))

  -- the own outputs that are left, with those of the next state taken away
  count_next : output_count (cleared (own_of old) (0 ∷ take (i + 1) order)) + length (own_at (own_of old) (get_or order i 0)) ≡ output_count (cleared (own_of old) (0 ∷ take i order))
  count_next =
      let t = get_or order i 0 in
      let b = order-bounds cmp total exact stops old table order (fails_of old) links t (Contains-get_or order i 0 l) in
      let low : t < length (own_of old) = omega (arith, b.1, length-map old (λ s. s.edges), length-map old (λ s. items_of s.output)) in
      let apart : Contains (0 ∷ take i order) t → ⊥ = λ h. links.once i l (Contains-tail 0 (take i order) t (λ e. omega (arith, e, b.0)) h) in
      ap (λ ts. output_count (cleared (own_of old) (0 ∷ ts)) + length (own_at (own_of old) t)) (take_more order i 0 l)
      ∙ count-cleared (own_of old) (0 ∷ take i order) t low apart

pub loop-id-init : goal.loop-id-init
loop-id-init g c =
    let e = c.in_ok-put_list.ensures in
    let states = c.args.states.now in
    let two : 0 < length (own_of states) = omega (arith, c.requires.trie.trie.two, length-map states (λ s. s.edges), length-map states (λ s. items_of s.output)) in
    record {
      kept = e.kept;
      fails = e.fails;
      parents = e.parents;
      fits = λ t h. elim h [ inl root ↦ omega (arith, ap (λ u. get_or (positions_of c.put_list.new.states) u 0) root, e.chain.fits) | inr none ↦ absurd (omega (arith, none.1)) ];
      lists = λ leftmost links. listed_start g.L.Ord.cmp g.met.L.Ord.total (label_exact g.L.EdgeLabel.unit g.L.Ord.cmp g.met.L.EdgeLabel.exact g.met.L.EdgeLabel.by_unit) (stops_of leftmost states) states c.put_list.new.outputs.items (positions_of c.put_list.new.states) c.requires.trie e.chain.list;
      chained = λ leftmost links. chained_start (own_of states) (fails_of states) c.put_list.new.outputs.items (positions_of c.put_list.new.states) e.chain.passes;
      few = omega (arith, e.chain.few (omega (arith, ap length c.requires.unbuilt)));
      count = omega (arith, e.chain.count, count-cleared (own_of states) [] 0 two (λ h. omega (arith, h.1)), ap length c.requires.unbuilt);
    }

pub fail_position-parent-requires : goal.fail_position-parent-requires
fail_position-parent-requires g c = record {
  id = (state_bounds g.L.Ord.cmp g.met.L.Ord.total (label_exact g.L.EdgeLabel.unit g.L.Ord.cmp g.met.L.EdgeLabel.exact g.met.L.EdgeLabel.by_unit) c.args.states.now c.loop-id.states c.args.order.now c.requires.trie (stops_of c.requires.links.0 c.args.states.now) c.requires.links.1 c.loop-id.invariant.kept c.loop-id.id-index c.loop-id-test.true).0;
  fail = rw c.loop-id.invariant.fails (state_bounds g.L.Ord.cmp g.met.L.Ord.total (label_exact g.L.EdgeLabel.unit g.L.Ord.cmp g.met.L.EdgeLabel.exact g.met.L.EdgeLabel.by_unit) c.args.states.now c.loop-id.states c.args.order.now c.requires.trie (stops_of c.requires.links.0 c.args.states.now) c.requires.links.1 c.loop-id.invariant.kept c.loop-id.id-index c.loop-id-test.true).1;
}

-- where the list of the link begins
parent_is : (fails fails' positions : List ℕ) (t p : ℕ) → fails' ≡ fails → IsParent positions (get_or fails' t 0) p → IsParent positions (get_or fails t 0) p
parent_is fails fails' positions t p e h = let P : List ℕ → Type 0 = λ fs. IsParent positions (get_or fs t 0) p in subst P e h

-- it is no further than the outputs
parent_fits : {V : Type 0} (done : List ℕ) (outputs : List (Output V)) (positions : List ℕ) (f p : ℕ) → PositionsFit done outputs positions → IsLinkAmong done f → IsParent positions f p → p ≤ length outputs
parent_fits done outputs positions f p fits among (inl dead) = omega (arith, dead.1)
parent_fits done outputs positions f p fits (inl dead) (inr alive) = absurd (alive.0 dead)
parent_fits done outputs positions f p fits (inr known) (inr alive) = omega (arith, alive.1, fits f known)

pub put_list-requires-in-loop-id : goal.put_list-requires-in-loop-id
put_list-requires-in-loop-id g c = record {
  id = (state_bounds g.L.Ord.cmp g.met.L.Ord.total (label_exact g.L.EdgeLabel.unit g.L.Ord.cmp g.met.L.EdgeLabel.exact g.met.L.EdgeLabel.by_unit) c.args.states.now c.loop-id.states c.args.order.now c.requires.trie (stops_of c.requires.links.0 c.args.states.now) c.requires.links.1 c.loop-id.invariant.kept c.loop-id.id-index c.loop-id-test.true).0;
  parents = c.loop-id.invariant.parents;
  parent =
      let i = c.loop-id.invariant in
      let t = get_or c.args.order.now c.loop-id.id-index 0 in
      let known = fail_known g.L.Ord.cmp g.met.L.Ord.total (label_exact g.L.EdgeLabel.unit g.L.Ord.cmp g.met.L.EdgeLabel.exact g.met.L.EdgeLabel.by_unit) (stops_of c.requires.links.0 c.args.states.now) c.args.states.now c.requires.trie c.args.order.now (fails_of c.args.states.now) c.requires.links.1 c.loop-id.id-index (get_or c.args.order.now c.loop-id.id-index 0) (get_or (fails_of c.args.states.now) (get_or c.args.order.now c.loop-id.id-index 0) 0) c.loop-id-test.true refl refl in
      let at = parent_is (fails_of c.args.states.now) (fails_of c.loop-id.states) (positions_of c.loop-id.states) t c.fail_position-parent.result i.fails c.fail_position-parent.ensures in
      let fits = parent_fits (take c.loop-id.id-index c.args.order.now) c.loop-id.outputs.items (positions_of c.loop-id.states) (get_or (fails_of c.args.states.now) t 0) c.fail_position-parent.result i.fits known at in
      omega (arith, fits);
}

pub loop-id-preserved : goal.loop-id-preserved
loop-id-preserved g c =
    let i = c.loop-id.invariant in
    let states = c.args.states.now in
    let t = get_or c.args.order.now c.loop-id.id-index 0 in
    let e = c.in_ok-put_list-2.ensures in
    let now = c.put_list-in-loop-id.new in
    let known = fail_known g.L.Ord.cmp g.met.L.Ord.total (label_exact g.L.EdgeLabel.unit g.L.Ord.cmp g.met.L.EdgeLabel.exact g.met.L.EdgeLabel.by_unit) (stops_of c.requires.links.0 c.args.states.now) c.args.states.now c.requires.trie c.args.order.now (fails_of c.args.states.now) c.requires.links.1 c.loop-id.id-index (get_or c.args.order.now c.loop-id.id-index 0) (get_or (fails_of c.args.states.now) (get_or c.args.order.now c.loop-id.id-index 0) 0) c.loop-id-test.true refl refl in
    let at = parent_is (fails_of states) (fails_of c.loop-id.states) (positions_of c.loop-id.states) t c.fail_position-parent.result i.fails c.fail_position-parent.ensures in
    let list : outputs_at now.outputs.items (get_or (positions_of now.states) t 0) ≡ own_at (own_of states) t ++ outputs_at c.loop-id.outputs.items c.fail_position-parent.result =
    e.chain.list ∙ ap (λ os. own_at os t ++ outputs_at c.loop-id.outputs.items c.fail_position-parent.result) i.kept.outputs in
    let own : length (own_at (own_of c.loop-id.states) t) ≡ length (own_at (own_of states) t) = ap (λ os. length (own_at os t)) i.kept.outputs in
    let P : List (List (g.row.V.Denot × ℕ)) → Type 0 = λ os. Passes now.outputs.items (get_or (positions_of now.states) t 0) (own_at os t) c.fail_position-parent.result in
    let passes = subst P i.kept.outputs e.chain.passes in
    record {
      kept = record { edges = e.kept.edges ∙ i.kept.edges; outputs = e.kept.outputs ∙ i.kept.outputs };
      fails = e.fails ∙ i.fails;
      parents = e.parents;
      fits = fits_more g.L.Ord.cmp g.met.L.Ord.total (label_exact g.L.EdgeLabel.unit g.L.Ord.cmp g.met.L.EdgeLabel.exact g.met.L.EdgeLabel.by_unit) (stops_of c.requires.links.0 c.args.states.now) c.args.states.now c.requires.trie c.args.order.now (fails_of c.args.states.now) c.requires.links.1 c.loop-id.id-index (get_or c.args.order.now c.loop-id.id-index 0) (get_or (fails_of c.args.states.now) (get_or c.args.order.now c.loop-id.id-index 0) 0) c.loop-id-test.true refl refl c.loop-id.outputs.items now.outputs.items e.longer.0 (positions_of c.loop-id.states) (positions_of now.states) e.longer.1 e.others i.fits (omega (arith, e.chain.fits));
      lists = λ leftmost links. listed_more g.L.Ord.cmp g.met.L.Ord.total (label_exact g.L.EdgeLabel.unit g.L.Ord.cmp g.met.L.EdgeLabel.exact g.met.L.EdgeLabel.by_unit) (stops_of leftmost c.args.states.now) c.args.states.now c.requires.trie c.args.order.now (fails_of c.args.states.now) links c.loop-id.id-index (get_or c.args.order.now c.loop-id.id-index 0) (get_or (fails_of c.args.states.now) (get_or c.args.order.now c.loop-id.id-index 0) 0) c.loop-id-test.true refl refl c.loop-id.outputs.items now.outputs.items e.longer.0 (positions_of c.loop-id.states) (positions_of now.states) e.longer.1 e.others i.fits c.fail_position-parent.result at i.parents (i.lists leftmost links) list;
      chained = λ leftmost links. chained_more g.L.Ord.cmp g.met.L.Ord.total (label_exact g.L.EdgeLabel.unit g.L.Ord.cmp g.met.L.EdgeLabel.exact g.met.L.EdgeLabel.by_unit) (stops_of leftmost states) states c.requires.trie c.args.order.now (fails_of states) links c.loop-id.id-index c.loop-id-test.true c.loop-id.outputs.items now.outputs.items e.longer.0 (positions_of c.loop-id.states) (positions_of now.states) e.longer.1 e.others (own_of states) c.fail_position-parent.result at (i.chained leftmost links) passes;
      few = omega (arith, e.chain.few (omega (arith, i.few)));
      count = omega (arith, e.chain.count, own, i.count, count_next g.L.Ord.cmp g.met.L.Ord.total (label_exact g.L.EdgeLabel.unit g.L.Ord.cmp g.met.L.EdgeLabel.exact g.met.L.EdgeLabel.by_unit) c.args.states.now c.loop-id.states c.args.order.now c.requires.trie (stops_of c.requires.links.0 c.args.states.now) c.requires.links.1 c.loop-id.invariant.kept c.loop-id.id-index c.loop-id-test.true);
    }

pub put_list-requires : goal.put_list-requires
put_list-requires g c = record {
  parents = rw c.requires.unbuilt ParentsFall-nil;
  parent = omega arith;
  id = omega (arith, c.requires.trie.trie.two, length-map c.args.states.now (λ s. s.edges));
}

pub returns-clause-lists : goal.returns-clause-lists
returns-clause-lists g c =
    let i = c.loop-id.invariant in
    let states = c.args.states.now in
    let exact = label_exact g.L.EdgeLabel.unit g.L.Ord.cmp g.met.L.EdgeLabel.exact g.met.L.EdgeLabel.by_unit in
    let all = take_all c.loop-id.id-index c.args.order.now c.loop-id-test.false in
    record {
      positions = rw all at i.fits;
      lists = λ leftmost links. (let lists = i.lists leftmost links in rw all at lists);
      chained = λ leftmost links. (let chained = i.chained leftmost links in rw all at chained);
      bound = omega (arith, i.count);
      whole = λ dead.
          let none = none_left g.L.Ord.cmp g.met.L.Ord.total exact (stops_of c.requires.links.0 states) states c.requires.trie c.args.order.now (fails_of states) c.requires.links.1 dead in
          omega (arith, none, i.count, ap (λ ts. output_count (cleared (own_of states) (0 ∷ ts))) all);
      few = i.few;
    }

pub returns-in_err-put_list-clause-err : goal.returns-in_err-put_list-clause-err
returns-in_err-put_list-clause-err g c =
    let p = err_from_is_err_and c.from_residual.result c.from_residual.ensures.1 in
    let states = c.args.states.now in
    let two : 0 < length (own_of states) = omega (arith, c.requires.trie.trie.two, length-map states (λ s. s.edges), length-map states (λ s. items_of s.output)) in
    let count = count-cleared (own_of states) [] 0 two (λ h. omega (arith, h.1)) in
    let none = ap length c.requires.unbuilt in
    let fewer : 4294967295 < vec_len c.args.outputs.now + length (own_at (own_of states) 0) → 4294967295 < output_count (own_of states) = λ h. omega (arith, h, count, none) in
    rw (p.1, p.2) (IsRefusal-weaker ⊥ ⊥ Outputs _ (4294967295 < output_count (own_of states)) (λ x. x) fewer _ c.in_err-put_list.ensures.err)

pub returns-in_err-put_list-2-clause-err : goal.returns-in_err-put_list-2-clause-err
returns-in_err-put_list-2-clause-err g c =
    let p = err_from_is_err_and c.from_residual-in_err-put_list-2.result c.from_residual-in_err-put_list-2.ensures.1 in
    let states = c.args.states.now in
    let i = c.loop-id.invariant in
    let t = get_or c.args.order.now c.loop-id.id-index 0 in
    let own : length (own_at (own_of c.loop-id.states) t) ≡ length (own_at (own_of states) t) = ap (λ os. length (own_at os t)) i.kept.outputs in
    let next = count_next g.L.Ord.cmp g.met.L.Ord.total (label_exact g.L.EdgeLabel.unit g.L.Ord.cmp g.met.L.EdgeLabel.exact g.met.L.EdgeLabel.by_unit) c.args.states.now c.loop-id.states c.args.order.now c.requires.trie (stops_of c.requires.links.0 c.args.states.now) c.requires.links.1 c.loop-id.invariant.kept c.loop-id.id-index c.loop-id-test.true in
    let fewer : 4294967295 < vec_len c.loop-id.outputs + length (own_at (own_of c.loop-id.states) t) → 4294967295 < output_count (own_of states) = λ h. omega (arith, h, own, next, i.count) in
    rw (p.1, p.2) (IsRefusal-weaker ⊥ ⊥ Outputs _ (4294967295 < output_count (own_of states)) (λ x. x) fewer _ c.in_err-put_list-2.ensures.err)

pub returns-in_err-put_list-2-clause-kept : goal.returns-in_err-put_list-2-clause-kept
returns-in_err-put_list-2-clause-kept g c =
    let e = c.in_err-put_list-2.ensures in
    record { edges = e.kept.edges ∙ c.loop-id.invariant.kept.edges; outputs = e.kept.outputs ∙ c.loop-id.invariant.kept.outputs }
