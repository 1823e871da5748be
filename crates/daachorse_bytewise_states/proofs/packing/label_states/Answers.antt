-- Each state has one parent, so that its label is set once.
use Rattle.std.proofs.Common.{◌≡◌, ◌≢◌, ◌<◌, ℕ, Some, List, length, ◌∙◌, subst, sym, arith}
use Rattle.std.specs.Prelude.{slice_index}
use Rattle.std.specs.Ordering.{nat_cmp}
use Rattle.std.proofs.lemmas.List.{length-map}
use Rattle.daachorse_build.specs.EdgeMaps.{id_at}
use Rattle.daachorse_build.specs.Tables.{child_in, edge_map, edges_of}
use Rattle.daachorse_bytewise_states.proofs.WritingLaws.{apart-all, children-more, edges_at, inside-all, root-kept}
use Rattle.daachorse_bytewise_states.proofs.packing.label_states.Goals as goal

pub label_children-requires : goal.label_children-requires
label_children-requires g c =
    let states = c.args.states.now in let m = c.loop-state.state-index in
    let same = edges_at states m c.state-item.result c.loop-state-test.true c.state-item.is ∙ sym c.edges.ensures in
    record {
      inside =
          let P : List (ℕ × ℕ) → Type 0 = λ es. (d t : ℕ) → id_at nat_cmp es d ≡ Some t → t < length c.loop-state.labels in
          subst P same (λ d t e. let high : t < length (edges_of states) = inside-all (edges_of states) c.requires.trie m d t e in omega (arith, high, length-map states edge_map, c.loop-state.invariant.size));
      apart =
          let P : List (ℕ × ℕ) → Type 0 = λ es. (c d t : ℕ) → id_at nat_cmp es c ≡ Some t → id_at nat_cmp es d ≡ Some t → c ≡ d in
          subst P same (apart-all (edges_of states) c.requires.trie m);
    }

pub loop-state-preserved : goal.loop-state-preserved
loop-state-preserved g c =
    let states = c.args.states.now in let m = c.loop-state.state-index in
    let old = c.loop-state.labels in let new = c.label_children.new.labels in let was = c.loop-state.invariant in
    let same = edges_at states m c.state-item.result c.loop-state-test.true c.state-item.is ∙ sym c.edges.ensures in
    let S : List (ℕ × ℕ) → Type 0 = λ es. (c t : ℕ) → id_at nat_cmp es c ≡ Some t → slice_index new t ≡ c in
    let K : List (ℕ × ℕ) → Type 0 = λ es. (t : ℕ) → ((c : ℕ) → id_at nat_cmp es c ≢ Some t) → slice_index new t ≡ slice_index old t in
    let set_to = subst S (sym same) c.label_children.ensures.set in
    let kept = subst K (sym same) c.label_children.ensures.kept in
    record {
      size = c.label_children.ensures.size ∙ was.size;
      root = root-kept (edges_of states) c.requires.trie m old new set_to kept was.root;
      children = children-more (edges_of states) c.requires.trie m old new set_to kept was.children;
    }

pub returns : goal.returns
returns g c =
    let states = c.args.states.now in let was = c.loop-state.invariant in
    record {
      size = was.size ∙ sym (length-map states edge_map);
      root = was.root;
      children = λ s d t e. was.children s d t (below s d t e) e;
    }
  where
    below : (s d t : ℕ) → child_in nat_cmp (edges_of c.args.states.now) s d ≡ Some t → s < c.loop-state.state-index
    below s d t e =
        let bounds = c.requires.trie.trie.bounds s d t e in
        let low : s < t = bounds.0 in let high : t < length (edges_of c.args.states.now) = bounds.3 in
        omega (arith, low, high, length-map c.args.states.now edge_map, c.loop-state-test.false)
