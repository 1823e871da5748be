-- The states of a trie whose groups were placed have elements of their own: a child's is led to from its parent's base, by the code of its unit.
use Rattle.std.proofs.Common.{◌≡◌, ◌≢◌, ℕ, ◌<◌, ◌≤◌, ◌⊎◌, inl, inr, Bool, true, false, List, [], ◌∷◌, length, get_or, Option, Some, sym, ap, ◌∙◌, subst, arith}
use Rattle.std.specs.Prelude.{bit_xor}
use Rattle.std.specs.Ordering.{nat_cmp}
use Rattle.std.specs.Cmp.{Equal-is}
use Rattle.std.specs.BTreeMap.{is_at}
use Rattle.std.proofs.lemmas.Bool.{cases_eq, cases_lt, false≢true}
use Rattle.std.proofs.lemmas.Option.{get_or_from_slice_get, slice_get_within}
use Rattle.std.proofs.lemmas.Map.Entries.{place_from_lookup}
use Rattle.std.proofs.lemmas.List.{get_or_past, get_or-map, length-map}
use Rattle.std.proofs.lemmas.Map.Lookups.{exact_unsigned}
use Rattle.daachorse_core.proofs.Xor.{xor_inside}
use Rattle.daachorse_model.specs.Paths.{Leads}
use Rattle.daachorse_placement.specs.declared.build_helper.SiblingGroup.{SiblingGroup}
use Rattle.daachorse_placement.specs.Layout.{Layout}
use Rattle.daachorse_placement.specs.Placement.{IsGroupAt, children_of, group_parent, label_of, child_id}
use Rattle.daachorse_build.specs.EdgeMaps.{id_at}
use Rattle.daachorse_build.specs.Groups.{with_codes}
use Rattle.daachorse_build.specs.Tables.{child_in}
use Rattle.daachorse_build.proofs.Walks.{walk-above, walk-bounds}
use Rattle.daachorse_array.proofs.PathLaws.{search_below}
use Rattle.daachorse_patterns.specs.Settled.{HavePlaces, AreSettled, IsVacantAt}

-- ---- an edge stands in the list of its state's edges
same_label : (c k : ℕ) → is_at (nat_cmp c) k ≡ true → c ≡ k
same_label c k e = exact_unsigned c k ((Equal-is (nat_cmp c k)).0 e)

edge_place : (es : List (ℕ × ℕ)) (c t : ℕ) → id_at nat_cmp es c ≡ Some t → (i : ℕ) × (i < length es) × (get_or es i (0, 0) ≡ (c, t))
edge_place es c t e =
    let at = place_from_lookup (is_at (nat_cmp c)) es t e in
    let label : c ≡ at.1 = same_label c at.1 at.3 in
    (at.0, slice_get_within es at.0 (at.1, t) at.2, get_or_from_slice_get es at.0 (at.1, t) (0, 0) at.2 ∙ ap (λ k. (k, t)) (sym label))

with_codes-length : (code : ℕ → ℕ) (es : List (ℕ × ℕ)) → length (with_codes code es) ≡ length es
with_codes-length code es = length-map es (λ e. (code e.0, e.1))

with_codes-at : (code : ℕ → ℕ) (es : List (ℕ × ℕ)) (i c t : ℕ) → i < length es → get_or es i (0, 0) ≡ (c, t) → get_or (with_codes code es) i (0, 0) ≡ (code c, t)
with_codes-at code es i c t inside is =
    let f : ℕ × ℕ → ℕ × ℕ = λ e. (code e.0, e.1) in
    get_or-map f es i (0, 0) (0, 0) inside ∙ ap f is

-- ---- a trie whose groups were placed
module _ {A : Type 0} {code : ℕ → ℕ} {block : ℕ} {tracked : Bool} {gs : List (SiblingGroup A)} {l : Layout} {edges : List (List (ℕ × ℕ))} (q : AreSettled code block tracked gs l edges) where
  abbrev to : ℕ → ℕ → Option ℕ
  to s c = child_in nat_cmp edges s c

  abbrev place : ℕ → ℕ
  place t = get_or l.idx t 0

  abbrev base_at : ℕ → ℕ
  base_at s = get_or l.bases s 0

  -- the edge from s by c to t: where it leads
  pub record IsEdgeAt (s c t : ℕ) : Type 0 where
    pub group : ℕ
    pub inside : group < length gs
    pub parent : group_parent gs group ≡ s
    pub index : ℕ
    pub low : index < length (children_of gs group)
    pub child : child_id (children_of gs group) index ≡ t
    pub unit : code c < block
    pub nonzero : base_at s ≢ 0
    pub below : base_at s < length l.used
    pub at : place t ≡ bit_xor (base_at s) (code c)
    pub above : 1 < place t

  pub edge-at : (s c t : ℕ) → to s c ≡ Some t → IsEdgeAt s c t
  edge-at s c t e =
      let from = q.of_trie.all s c t e in
      let k = from.0 in
      let es : List (ℕ × ℕ) = get_or edges s [] in
      let found = edge_place es c t e in
      let j = found.0 in
      let list : children_of gs k ≡ with_codes code es = q.of_trie.children k from.1 ∙ ap (λ x. with_codes code (get_or edges x [])) from.2 in
      let less : j < length (children_of gs k) = (let same : length (children_of gs k) ≡ length es = ap length list ∙ with_codes-length code es in let h : j < length es = found.1 in omega (arith, same, h)) in
      let pair : get_or (children_of gs k) j (0, 0) ≡ (code c, t) = ap (λ x. get_or x j (0, 0)) list ∙ with_codes-at code es j c t found.1 found.2 in
      let label : label_of (children_of gs k) j ≡ code c = ap (λ (x : ℕ × ℕ). x.0) pair in
      let child : child_id (children_of gs k) j ≡ t = ap (λ (x : ℕ × ℕ). x.1) pair in
      let group : IsGroupAt (children_of gs k) (get_or l.bases (group_parent gs k) 0) l = q.placed.groups k from.1 in
      let base : get_or l.bases (group_parent gs k) 0 ≡ base_at s = ap (λ x. base_at x) from.2 in
      let moved : bit_xor (get_or l.bases (group_parent gs k) 0) (label_of (children_of gs k) j) ≡ bit_xor (base_at s) (code c) = ap (λ x. bit_xor x (label_of (children_of gs k) j)) base ∙ ap (λ x. bit_xor (base_at s) x) label in
      let at : place t ≡ bit_xor (base_at s) (code c) = ap (λ x. place x) (sym child) ∙ (group.at j less ∙ moved) in
      record {
        group = k;
        inside = from.1;
        parent = from.2;
        index = j;
        low = less;
        child = child;
        unit = subst (λ (x : ℕ). x < block) label (q.of_trie.groups.labels k from.1 j less);
        nonzero = subst (λ (x : ℕ). x ≢ 0) base group.nonzero;
        below = subst (λ (x : ℕ). x < length l.used) base group.inside;
        at = at;
        above = subst (λ (x : ℕ). 1 < x) (moved ∙ sym at) (group.above j less);
      }

  -- a state is the root, or has an edge to it
  pub state_from : (t : ℕ) → t < length edges → t ≢ 1 → (t ≡ 0) ⊎ ((s : ℕ) × (c : ℕ) × (to s c ≡ Some t))
  state_from t less other = elim (cases_eq t 0) [ inl e ↦ inl e | inr some ↦ inr (q.of_trie.table.trie.reached t (omega arith) less) ]

  -- an element is a state's, or no state's
  pub place_from : (j : ℕ) → ((t : ℕ) × (t < length edges) × (t ≢ 1) × (place t ≡ j)) ⊎ IsVacantAt l (length edges) j
  place_from j = elim (search_below (λ t. (t ≢ 1) × (place t ≡ j)) (λ t. t ≢ 1 → place t ≢ j) (length edges) (λ t less. one t)) [
    | inl found ↦ inl (found.0, found.1, found.2.0, found.2.1)
    | inr none ↦ inr none
  ]
    where
      one : (t : ℕ) → ((t ≢ 1) × (place t ≡ j)) ⊎ (t ≢ 1 → place t ≢ j)
      one t = elim (cases_eq t 1) [
        | inl e ↦ inr (λ other. absurd (other e))
        | inr other ↦ elim (cases_eq (place t) j) [ inl same ↦ inl (other, same) | inr not ↦ inr (λ _. not) ]
      ]

  -- a base is that of a group
  pub base_from : (s : ℕ) → s < length edges → base_at s ≢ 0 → (k : ℕ) × (k < length gs) × (group_parent gs k ≡ s)
  base_from s less some = elim (search_below (λ k. group_parent gs k ≡ s) (λ k. group_parent gs k ≢ s) (length gs) (λ k _. cases_eq (group_parent gs k) s)) [
    | inl found ↦ found
    | inr none ↦ absurd (some (q.placed.parents s (let same_size : length l.bases ≡ length edges = q.sizes.bases in omega arith) (λ k low same. none k low (sym same))))
  ]

  -- a base is an element's number
  pub base_inside : (s : ℕ) → s < length edges → base_at s ≢ 0 → base_at s < length l.used
  base_inside s less some =
      let from = base_from s less some in
      let inside : get_or l.bases (group_parent gs from.0) 0 < length l.used = (q.placed.groups from.0 from.1).inside in
      let base : get_or l.bases (group_parent gs from.0) 0 ≡ base_at s = ap (λ x. base_at x) from.2 in
      omega (arith, inside, base)

  -- a code leads from a base to an element
  pub xor_below : (b c : ℕ) → c < block → b < length l.used → bit_xor b c < length l.used
  xor_below b c unit below = subst (λ (x : ℕ). bit_xor b c < x) (sym q.sizes.elements) (xor_inside block l.blocks b c q.power unit (subst (λ (x : ℕ). b < x) q.sizes.elements below))

  -- the states that texts lead to
  pub Leads-above : (u s : ℕ) (w : List ℕ) → Leads to (u ∷ w) s → (1 < s) × (s < length edges)
  Leads-above u s w e =
      let trie = q.of_trie.table.trie in
      (walk-above to (length edges) trie u w s e, (walk-bounds to (length edges) trie (u ∷ w) s e).0)

  pub Leads-state : (s : ℕ) (w : List ℕ) → Leads to w s → (s < length edges) × (s ≢ 1)
  Leads-state s w e = walk-bounds to (length edges) q.of_trie.table.trie w s e

  -- ---- the places
  pub place-above : (t : ℕ) → 1 < t → t < length edges → 1 < place t
  place-above t high less = let from = q.of_trie.table.trie.reached t high less in (edge-at from.0 from.1 t from.2).above

  -- the root and the dead state have elements
  used_inside : (i : ℕ) → get_or l.used i false ≡ true → i < length l.used
  used_inside i used = elim (cases_lt i (length l.used)) [
    | inl low ↦ low
    | inr past ↦ absurd (false≢true (sym (get_or_past l.used i false past) ∙ used))
  ]

  pub some-elements : 0 < length l.used
  some-elements = used_inside 0 q.placed.root_used

  pub place-dead : place 1 ≡ 1
  place-dead =
      let two : 1 < length edges = q.of_trie.table.trie.two in
      let ids : length l.idx ≡ length edges = q.sizes.idx in
      q.placed.rest 1 (omega (arith, two, ids)) (λ e. omega (arith, e)) (λ k j inside low same. (let above : 1 < child_id (children_of gs k) j = q.of_trie.groups.above k j inside low in omega (arith, above, same)))

  -- no state but the dead one stands at element 1
  pub place-alive : (t : ℕ) → t < length edges → t ≢ 1 → place t ≢ 1
  place-alive t less alive same = elim (state_from t less alive) [
    | inl root ↦ (let zero_at : place t ≡ 0 = ap (λ x. place x) root ∙ q.placed.root in omega (arith, zero_at, same))
    | inr edge ↦ (let above : 1 < place t = (edge-at edge.0 edge.1 t edge.2).above in omega (arith, above, same))
  ]

  pub place-apart : (s t : ℕ) → s < length edges → s ≢ 1 → t < length edges → t ≢ 1 → place s ≡ place t → s ≡ t
  place-apart s t ls left lt right same = go (cases_lt 1 s) (cases_lt 1 t)
    where
      sizes : length l.idx ≡ length edges
      sizes = q.sizes.idx

      go : (1 < s) ⊎ (s ≤ 1) → (1 < t) ⊎ (t ≤ 1) → s ≡ t
      go (inl high) more = q.placed.apart s t (omega (arith, sizes, ls)) (omega (arith, sizes, lt)) (place-above s high ls) same
      go (inr low) (inl high) = sym (q.placed.apart t s (omega (arith, sizes, lt)) (omega (arith, sizes, ls)) (place-above t high lt) (sym same))
      go (inr low) (inr less) = omega (arith, low, less, left, right)

  pub place-inside : (t : ℕ) → t < length edges → place t < length l.used
  place-inside t less = elim (cases_eq t 1) [
    | inl dead ↦ subst (λ (x : ℕ). x < length l.used) (sym place-dead ∙ ap (λ x. place x) (sym dead)) (used_inside 1 q.placed.dead_used)
    | inr alive ↦ elim (state_from t less alive) [
      | inl root ↦ subst (λ (x : ℕ). x < length l.used) (sym q.placed.root ∙ ap (λ x. place x) (sym root)) some-elements
      | inr edge ↦ (
          let at = edge-at edge.0 edge.1 t edge.2 in
          subst (λ (x : ℕ). x < length l.used) (sym at.at) (xor_below (base_at edge.0) (code edge.1) at.unit at.below))
    ]
  ]

  -- each state was placed apart
  pub settled-places : HavePlaces l.idx (length edges) (length l.used)
  settled-places = record {
    size = q.sizes.idx;
    inside = place-inside;
    apart = λ s t ls lt left right same. place-apart s t ls left lt right same;
  }
