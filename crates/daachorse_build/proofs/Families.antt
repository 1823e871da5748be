-- Groups as families: the parents are the states with an edge, each once, and that outlasts a sort.
use Rattle.std.proofs.Common.{◌≡◌, ◌≢◌, ℕ, zero, suc, ◌<◌, Bool, true, false, not, cond, eqb, List, [], ◌∷◌, ◌++◌, length, get_or, Some, refl, sym, ap, ◌∙◌, subst, inl, inr, arith}
use Rattle.std.proofs.lemmas.Bool.{cases_order, false≢true}
use Rattle.std.proofs.lemmas.Bool.Decides.{Decides-eqb}
use Rattle.std.proofs.lemmas.Option.{same_Some}
use Rattle.std.proofs.lemmas.List.{append-nil, map-append, length-map, get_or_default}
use Rattle.std.proofs.lemmas.List.Elements.{All-filter, All-head, All-tail, Contains-get_or, filter-append, filter_passes}
use Rattle.std.proofs.lemmas.List.Sorted.{All-permutation, Contains-permutation, IsPermutation-map, length_permutation}
use Rattle.std.proofs.lemmas.List.Sums.{count_by-le-length, length-filter}
use Rattle.std.proofs.lemmas.List.Kept.{AllPairs-filter}
use Rattle.std.proofs.lemmas.Slice.Zip.{all_zipped_more}
use Rattle.std.proofs.lemmas.Cmp.{nat_eq_equiv}
use Rattle.std.proofs.lemmas.Map.Made.{AllPairs-from_IsDistinct, IsDistinct-from_AllPairs}
use Rattle.std.proofs.lemmas.Map.Keys.{IsDistinct-IsPermutation}
use Rattle.std.specs.Bool.{IsTrue}
use Rattle.std.specs.List.{All, Contains, IsDistinct, filter, slice_get}
use Rattle.std.specs.List.Sorted.{IsPermutation}
use Rattle.std.specs.Map.{values_of}
use Rattle.std.specs.declared.cmp.Ordering.{Ordering}
use Rattle.std.specs.Cmp.{IsTotalOrder}
use Rattle.daachorse_placement.specs.declared.build_helper.SiblingGroup.{SiblingGroup}
use Rattle.daachorse_placement.specs.Placement.{children_of, group_parent, label_of, child_id, AreGroups}
use Rattle.daachorse_build.specs.declared.nfa_builder.NfaBuilderState.{NfaBuilderState}
use Rattle.daachorse_build.specs.Tables.{edges_of, child_in, HoldTrie}
use Rattle.daachorse_build.specs.Orders.{children}
use Rattle.daachorse_build.specs.Groups.{edges_at, with_codes, GivesCodes, AreCodes, AreTrieGroups, is_some_edge, has_edges, VisitsEachState, AreGiven, AreFamilies, parents_of, if_counted}
use Rattle.daachorse_build.proofs.Queue.{Contains-filter, distinct_once, child_at_place, listed_of_child, value_at, children_once}
use Rattle.daachorse_build.proofs.StackWalk.{length-walk}
use Rattle.daachorse_build.proofs.Walks.{text_of, walk-bounds}

-- ---- one child more
pub given_push : {L : Type 0} (gives : L → ℕ → Type 0) (es : List (L × ℕ)) (cs : List (ℕ × ℕ)) (c : L) (t r : ℕ) → AreGiven gives es cs → gives c r → AreGiven gives (es ++ (c, t) ∷ []) (cs ++ (r, t) ∷ [])
given_push gives es cs c t r h k = all_zipped_more (λ e d. gives e.0 d.0 × (d.1 ≡ e.1)) es cs (c, t) (r, t) h (k, refl)

-- ---- weights
-- without a profile nothing is counted
pub if_counted-none : (xs : List ℕ) (n : ℕ) → xs ≡ [] → if_counted xs n ≡ 0
if_counted-none xs n e = ap (λ ys. if_counted ys n) e

-- ---- one group more
pub has_edges_if : {L : Type 0} (es : List (L × ℕ)) (r : Bool) → (IsTrue r → es ≡ []) × (es ≡ [] → IsTrue r) → is_some_edge es ≡ not r
has_edges_if [] true h = refl
has_edges_if [] false h = absurd (false≢true (h.1 refl))
has_edges_if (e ∷ es) true h = let k : e ∷ es ≡ [] = h.0 refl in cc
has_edges_if (e ∷ es) false h = refl

pub parents_more : {L A : Type 0} (edges : List (List (L × ℕ))) (order : List ℕ) (t : ℕ) (gs : List (SiblingGroup A)) (g : SiblingGroup A) → parents_of gs ≡ filter (has_edges edges) order → g.parent ≡ t → has_edges edges t ≡ true → parents_of (gs ++ g ∷ []) ≡ filter (has_edges edges) (order ++ t ∷ [])
parents_more edges order t gs g before parent some =
    map-append (λ x. x.parent) gs (g ∷ [])
    ∙ ap (λ ps. ps ++ g.parent ∷ []) before
    ∙ ap (λ p. filter (has_edges edges) order ++ p ∷ []) parent
    ∙ sym (filter-append (has_edges edges) order (t ∷ []) ∙ ap (λ b. filter (has_edges edges) order ++ cond b (t ∷ []) []) some)

pub parents_same : {L A : Type 0} (edges : List (List (L × ℕ))) (order : List ℕ) (t : ℕ) (gs : List (SiblingGroup A)) → parents_of gs ≡ filter (has_edges edges) order → has_edges edges t ≡ false → parents_of gs ≡ filter (has_edges edges) (order ++ t ∷ [])
parents_same edges order t gs before none =
    before
    ∙ sym (append-nil _)
    ∙ sym (filter-append (has_edges edges) order (t ∷ []) ∙ ap (λ b. filter (has_edges edges) order ++ cond b (t ∷ []) []) none)

-- ---- groups by their places
-- the group at a place
group_at : {A : Type 0} (P : SiblingGroup A → Type 0) (gs : List (SiblingGroup A)) (k : ℕ) → k < length gs → All P gs → (g : SiblingGroup A) × P g × (group_parent gs k ≡ g.parent) × (children_of gs k ≡ g.children.items)
group_at P [] k l all = absurd (omega arith)
group_at P (g ∷ gs) zero l all = (g, All-head P g gs all, refl, refl)
group_at P (g ∷ gs) (suc k) l all = group_at P gs k (omega arith) (All-tail P g gs all)

coded_given : {L : Type 0} (gives : L → ℕ → Type 0) (code : L → ℕ) (es : List (L × ℕ)) (cs : List (ℕ × ℕ)) → ((i : ℕ) (c : L) (t : ℕ) → slice_get es i ≡ Some (c, t) → (r : ℕ) → gives c r → r ≡ code c) → AreGiven gives es cs → cs ≡ with_codes code es
coded_given gives code [] [] says h = refl
coded_given gives code [] (d ∷ cs) says h = absurd h
coded_given gives code (e ∷ es) [] says h = absurd h
coded_given gives code (e ∷ es) (d ∷ cs) says h =
    let label : d.0 ≡ code e.0 = says 0 e.0 e.1 refl d.0 h.0.0 in
    let id : d.1 ≡ e.1 = h.0.1 in
    let rest = coded_given gives code es cs (λ i c t at r k. says (suc i) c t at r k) h.1 in
    ap (λ (v : ℕ). (v, d.1) ∷ cs) label ∙ ap (λ (v : ℕ). (code e.0, v) ∷ cs) id ∙ ap (λ xs. (code e.0, e.1) ∷ xs) rest

-- what is given for each label of edges is below a bound
given_below : {L : Type 0} (gives : L → ℕ → Type 0) (block : ℕ) → ((c : L) (r : ℕ) → gives c r → r < block) → (es : List (L × ℕ)) (cs : List (ℕ × ℕ)) → AreGiven gives es cs → (j : ℕ) → j < length cs → label_of cs j < block
given_below gives block below [] [] h j l = absurd (omega arith)
given_below gives block below [] (d ∷ cs) h j l = absurd h
given_below gives block below (e ∷ es) [] h j l = absurd h
given_below gives block below (e ∷ es) (d ∷ cs) h zero l = below e.0 d.0 h.0.0
given_below gives block below (e ∷ es) (d ∷ cs) h (suc j) l = given_below gives block below es cs h.1 j (omega arith)

-- the labels of each group are below what bounds those that are given
pub labels_below : {L A : Type 0} (gives : L → ℕ → Type 0) (edges : List (List (L × ℕ))) (gs : List (SiblingGroup A)) (block : ℕ) → AreFamilies gives edges gs → ((c : L) (r : ℕ) → gives c r → r < block)
    → (k j : ℕ) → k < length gs → j < length (children_of gs k) → label_of (children_of gs k) j < block
labels_below gives edges gs block families below k j l h =
    let at = group_at (λ g. AreGiven gives (edges_at edges g.parent) g.children.items) gs k l families in
    let P : List (ℕ × ℕ) → Type 0 = λ cs. j < length cs → label_of cs j < block in
    subst P (sym at.3) (given_below gives block below (edges_at edges at.0.parent) at.0.children.items at.1 j) h

some_edge : {L : Type 0} (es : List (L × ℕ)) → is_some_edge es ≡ true → 0 < length es
some_edge [] h = absurd (false≢true h)
some_edge (e ∷ es) h = omega arith

edge_of_child : {L : Type 0} (es : List (L × ℕ)) (t : ℕ) → Contains (values_of es) t → is_some_edge es ≡ true
edge_of_child [] t h = absurd (omega (arith, h.1))
edge_of_child (e ∷ es) t h = refl

-- two places of the same number
one_place : (xs : List ℕ) (k l : ℕ) → IsDistinct eqb xs → k < length xs → l < length xs → get_or xs k 0 ≡ get_or xs l 0 → k ≡ l
one_place xs k l distinct hk hl same =
    let apart = λ (i j : ℕ). AllPairs-from_IsDistinct Decides-eqb xs distinct i j 0 in
    elim (cases_order k l) [
      | inl e ↦ e
      | inr other ↦ elim other [ inl less ↦ absurd (apart k l less hl same) | inr less ↦ absurd (apart l k less hk (sym same)) ]
    ]

module _ {L V A : Type 0} (cmp : L → L → Ordering) (total : IsTotalOrder cmp) (states : List (NfaBuilderState L V A)) (table : HoldTrie cmp states) (order : List ℕ) (walk : VisitsEachState (edges_of states) order) (gives : L → ℕ → Type 0) (first gs : List (SiblingGroup A)) (parents : parents_of first ≡ filter (has_edges (edges_of states)) order) (families : AreFamilies gives (edges_of states) first) (moved : IsPermutation first gs) where
  abbrev edges : List (List (L × ℕ))
  edges = edges_of states

  moved_parents : IsPermutation (parents_of first) (parents_of gs)
  moved_parents = IsPermutation-map (λ g. g.parent) first gs moved

  -- each family outlasts the sort
  all_families : AreFamilies gives edges gs
  all_families = All-permutation (λ g. AreGiven gives (edges_at edges g.parent) g.children.items) first gs moved families

  -- no parent stands twice
  distinct : IsDistinct eqb (parents_of gs)
  distinct =
      let P : List ℕ → Type 0 = λ ps. IsDistinct eqb ps in
      let once = AllPairs-filter (λ x y. x ≢ y) (has_edges edges) order (AllPairs-from_IsDistinct Decides-eqb order (distinct_once order walk.once)) in
      let start = subst P (sym parents) (IsDistinct-from_AllPairs Decides-eqb (filter (has_edges edges) order) once) in
      IsDistinct-IsPermutation eqb nat_eq_equiv.symm (parents_of first) (parents_of gs) moved_parents start

  -- each parent is a state with an edge
  parent_is : All (λ p. (p < length edges) × (p ≢ 1) × (has_edges edges p ≡ true)) (parents_of gs)
  parent_is =
      let Q : ℕ → Type 0 = λ p. (p < length edges) × (p ≢ 1) × (has_edges edges p ≡ true) in
      let P : List ℕ → Type 0 = λ ps. All Q ps in
      let start = subst P (sym parents)
      (λ k d l. (
      let at = All-filter (has_edges edges) (λ p. (p < length edges) × (p ≢ 1)) order (λ i e h. walk.states _ (Contains-get_or order i e h)) k d l in
      (at.0, at.1, filter_passes (has_edges edges) order k d l))) in
      All-permutation Q (parents_of first) (parents_of gs) moved_parents start

  -- each state with an edge is a parent
  is_parent : (s : ℕ) → s < length edges → s ≢ 1 → has_edges edges s ≡ true → Contains (parents_of gs) s
  is_parent s l ne some =
      let P : List ℕ → Type 0 = λ ps. Contains ps s in
      let start = subst P (sym parents) (Contains-filter (has_edges edges) order s (walk.all s l ne) some) in
      Contains-permutation (parents_of first) (parents_of gs) s moved_parents start

  parent_at : (k : ℕ) → k < length gs → (group_parent gs k < length edges) × (group_parent gs k ≢ 1) × (has_edges edges (group_parent gs k) ≡ true)
  parent_at k l = parent_is k 0 (omega (arith, l, length-map gs (λ g. g.parent)))

  -- there are fewer than states
  pub few_groups : length gs < length states
  few_groups =
      omega (arith, length-walk cmp total edges table order walk, length-filter (has_edges edges) order, count_by-le-length (has_edges edges) order, ap length parents, length-map first (λ g. g.parent), length_permutation first gs moved, length-map states (λ s. s.edges))

  -- the groups are those of the trie
  pub trie_groups : (code : L → ℕ) → GivesCodes cmp edges gives code → AreTrieGroups cmp code states gs
  trie_groups code says = record {
    children = λ k l.
        let at = group_at (λ g. AreGiven gives (edges_at edges g.parent) g.children.items) gs k l all_families in
        at.3
        ∙ coded_given gives code (edges_at edges at.0.parent) at.0.children.items
        (λ i c t here r h. says at.0.parent c t (child_at_place cmp total edges table at.0.parent i c t here) r h)
        at.1
        ∙ ap (λ p. with_codes code (edges_at edges p)) (sym at.2);
    some = λ k l. some_edge (edges_at edges (group_parent gs k)) (parent_at k l).2;
    reached = λ k l. let p = parent_at k l in text_of (child_in cmp edges) (length edges) table.trie (group_parent gs k) p.0 p.1;
    one_each = λ k l hk hl same. one_place (parents_of gs) k l distinct (omega (arith, hk, length-map gs (λ g. g.parent))) (omega (arith, hl, length-map gs (λ g. g.parent))) same;
    all = λ s c t at.
        let b = table.trie.bounds s c t at in
        let some = edge_of_child (edges_at edges s) t (listed_of_child cmp total edges table s c t at) in
        let p = is_parent s (omega (arith, b.0, b.3)) b.1 some in
        (p.0, omega (arith, p.1, length-map gs (λ g. g.parent)), get_or_default (parents_of gs) p.0 0 s p.1 ∙ p.2);
  }

-- ---- codes that tell the children of a state apart
-- the child at a place: an edge of the parent, by its code
module _ {L : Type 0} (code : L → ℕ) where
  coded_at : (es : List (L × ℕ)) (j : ℕ) → j < length (with_codes code es) → (e : L × ℕ) × (slice_get es j ≡ Some e) × (get_or (with_codes code es) j (0, 0) ≡ (code e.0, e.1))
  coded_at [] j l = absurd (omega arith)
  coded_at (e ∷ es) zero l = (e, refl, refl)
  coded_at (e ∷ es) (suc j) l = coded_at es j (omega arith)

module _ {L V A : Type 0} (cmp : L → L → Ordering) (total : IsTotalOrder cmp) (states : List (NfaBuilderState L V A)) (table : HoldTrie cmp states) (gives : L → ℕ → Type 0) (code : L → ℕ) (block : ℕ) (codes : AreCodes cmp (edges_of states) gives code block) (gs : List (SiblingGroup A)) (trie : AreTrieGroups cmp code states gs) (below : (k j : ℕ) → k < length gs → j < length (children_of gs k) → label_of (children_of gs k) j < block) where
  -- the edge to child j of group k
  edge_at : (k j : ℕ) → k < length gs → j < length (children_of gs k) → (c : L) × (child_in cmp (edges_of states) (group_parent gs k) c ≡ Some (child_id (children_of gs k) j)) × (label_of (children_of gs k) j ≡ code c) × (j < length (children (edges_of states) (group_parent gs k))) × (get_or (children (edges_of states) (group_parent gs k)) j 0 ≡ child_id (children_of gs k) j)
  edge_at k j hk hj =
      let s = group_parent gs k in
      let es = edges_at (edges_of states) s in
      let same = trie.children k hk in
      let at = coded_at code es j (omega (arith, hj, ap length same)) in
      let child : get_or (children_of gs k) j (0, 0) ≡ (code at.0.0, at.0.1) = ap (λ cs. get_or cs j (0, 0)) same ∙ at.2 in
      let id : at.0.1 ≡ child_id (children_of gs k) j = sym (ap (λ (p : ℕ × ℕ). p.1) child) in
      let edge = child_at_place cmp total (edges_of states) table s j at.0.0 at.0.1 at.1 in
      let place = value_at es j at.0.0 at.0.1 at.1 in
      (at.0.0, edge ∙ ap Some id, ap (λ (p : ℕ × ℕ). p.0) child, place.0, place.1 ∙ id)

  -- children of one state are apart
  child_places : (k i j : ℕ) → k < length gs → i < length (children_of gs k) → j < length (children_of gs k) → child_id (children_of gs k) i ≡ child_id (children_of gs k) j → i ≡ j
  child_places k i j hk hi hj same =
      let a = edge_at k i hk hi in
      let b = edge_at k j hk hj in
      let cs = children (edges_of states) (group_parent gs k) in
      one_place cs i j (distinct_once cs (children_once cmp total (edges_of states) table (group_parent gs k))) a.3 b.3 (a.4 ∙ same ∙ sym b.4)

  pub placed_groups : AreGroups gs (length states) block
  placed_groups = record {
    some = λ k l. omega (arith, trie.some k l, ap length (trie.children k l), length-map {B = ℕ × ℕ} (edges_at (edges_of states) (group_parent gs k)) (λ e. (code e.0, e.1)));
    labels = λ k l j h. below k j l h;
    distinct = λ k i j l hi hj same.
        let a = edge_at k i l hi in
        let b = edge_at k j l hj in
        let c = codes.apart (group_parent gs k) a.0 b.0 (child_id (children_of gs k) i) (child_id (children_of gs k) j) a.1 b.1 (sym a.2 ∙ same ∙ b.2) in
        child_places k i j l hi hj (same_Some _ _ (sym a.1 ∙ ap (child_in cmp (edges_of states) (group_parent gs k)) c ∙ b.1));
    parents = λ k l. let r = trie.reached k l in omega (arith, (walk-bounds (child_in cmp (edges_of states)) (length (edges_of states)) table.trie r.0 (group_parent gs k) r.1).0, length-map states (λ s. s.edges));
    one_parent = trie.one_each;
    ids = λ k l j h. let a = edge_at k j l h in let b = table.trie.bounds (group_parent gs k) a.0 (child_id (children_of gs k) j) a.1 in omega (arith, b.3, length-map states (λ s. s.edges));
    above = λ k j l h. let a = edge_at k j l h in let b = table.trie.bounds (group_parent gs k) a.0 (child_id (children_of gs k) j) a.1 in b.2;
    one_group = λ k l i j hk hl hi hj same.
        let a = edge_at k i hk hi in
        let b = edge_at l j hl hj in
        trie.one_each k l hk hl (table.trie.one_parent (group_parent gs k) a.0 (group_parent gs l) b.0 (child_id (children_of gs k) i) a.1 (b.1 ∙ ap Some (sym same))).0;
    one_child = λ k l i j hi hj same. child_places k i j l hi hj same;
  }
