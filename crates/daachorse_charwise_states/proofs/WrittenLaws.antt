-- What was written one after another are the elements that hold the trie.
use Rattle.std.proofs.Common.{◌≡◌, ◌≢◌, ℕ, ◌<◌, false, List, ◌++◌, length, take, drop, replicate, ◌∙◌, ap, subst, sym, inl, inr, arith}
use Rattle.std.specs.Prelude.{slice_index}
use Rattle.std.proofs.lemmas.Bool.{cases_lt}
use Rattle.std.proofs.lemmas.List.{get_or-replicate, get_or_past, length-replicate}
use Rattle.daachorse_placement.specs.declared.build_helper.SiblingGroup.{SiblingGroup}
use Rattle.daachorse_placement.specs.Layout.{Layout}
use Rattle.daachorse_placement.specs.Placement.{AreIds, child_id, children_of, group_parent}
use Rattle.daachorse_patterns.specs.Settled.{AreSettled}
use Rattle.daachorse_patterns.proofs.Places.{edge-at, place-apart, place-inside}
use Rattle.daachorse_charwise_states.specs.declared.state.State.{State}
use Rattle.daachorse_charwise_states.specs.Elements.{base_in, check_in, fail_in, output_in, vacant}
use Rattle.daachorse_charwise_states.specs.Packing.{HoldElements, element_at}
use Rattle.daachorse_charwise_states.specs.Writing.{AreGroupsApart, HasWritten, HaveChecks, place_of}

-- new elements are vacant
pub fresh : (n : ℕ) (e : State) (es : List State) → e ≡ vacant → es ≡ replicate n e → (i : ℕ) → element_at es i ≡ vacant
fresh n e es is all i = elim (cases_lt i n) [
  | inl low ↦ ap (λ x. element_at x i) all ∙ (get_or-replicate n i e vacant low ∙ is)
  | inr past ↦ ap (λ x. element_at x i) all ∙ get_or_past (replicate n e) i vacant (omega (arith, past, length-replicate n e))
]

module _ {A : Type 0} {code : ℕ → ℕ} {block : ℕ} {gs : List (SiblingGroup A)} {l : Layout} {edges : List (List (ℕ × ℕ))} (q : AreSettled code block false gs l edges) where
  -- a child is a state, and not the dead one
  child_state : (k j : ℕ) → k < length gs → j < length (children_of gs k) → (child_id (children_of gs k) j < length edges) × (child_id (children_of gs k) j ≢ 1)
  child_state k j inside low =
      let above : 1 < child_id (children_of gs k) j = q.of_trie.groups.above k j inside low in
      (q.of_trie.groups.ids k inside j low, λ one. omega (arith, above, one))

  pub settled-parents : (k : ℕ) → k < length gs → group_parent gs k < length l.idx
  settled-parents k inside = let low : group_parent gs k < length edges = q.of_trie.groups.parents k inside in omega (arith, low, q.sizes.idx)

  pub settled-ids : (k : ℕ) → k < length gs → AreIds (length l.idx) (children_of gs k)
  settled-ids k inside j low = let fits = (child_state k j inside low).0 in omega (arith, fits, q.sizes.idx)

  pub settled-inside : (t : ℕ) → t < length l.idx → slice_index l.idx t < length l.used
  settled-inside t less = place-inside q t (omega (arith, less, q.sizes.idx))

  pub settled-apart : AreGroupsApart gs l.idx
  settled-apart k m i j inside fits low high same =
      let x = child_state k i inside low in
      let y = child_state m j fits high in
      q.of_trie.groups.one_group k m i j inside fits low high (place-apart q (child_id (children_of gs k) i) (child_id (children_of gs m) j) x.0 x.1 y.0 y.1 same)

  module _ (fails positions : List ℕ) (old mid new : List State) (size : length old ≡ length l.used) (vacants : (i : ℕ) → element_at old i ≡ vacant)
      (placed : HasWritten (length edges) l.idx l.bases fails positions old mid) (checks : HaveChecks gs (length gs) l.idx mid new) where
    two : 1 < length edges
    two = q.of_trie.table.trie.two

    child_above : (k j : ℕ) → k < length gs → j < length (children_of gs k) → 1 < place_of l.idx (children_of gs k) j
    child_above k j inside low =
        let group = q.placed.groups k inside in
        subst (λ (x : ℕ). 1 < x) (sym (group.at j low)) (group.above j low)

    pub written-held : HoldElements l edges fails positions new
    written-held = record {
      size = checks.parts.size ∙ (placed.size ∙ size);
      states = record {
        base = λ t less alive. checks.parts.base (slice_index l.idx t) ∙ placed.base t less alive;
        fail = λ t less alive. checks.parts.fail (slice_index l.idx t) ∙ placed.fail t less alive;
        output = λ t less alive. checks.parts.output (slice_index l.idx t) ∙ placed.output t less alive;
        no_base = λ i inside none. checks.parts.base i ∙ ap base_in (placed.others i none ∙ vacants i);
        no_fail = λ i inside none. checks.parts.fail i ∙ ap fail_in (placed.others i none ∙ vacants i);
        no_output = λ i inside none. checks.parts.output i ∙ ap output_in (placed.others i none ∙ vacants i);
      };
      children = λ s c t e. (let edge = edge-at q s c t e in
          ap (λ x. check_in (element_at new (slice_index l.idx x))) (sym edge.child) ∙ (checks.set edge.group edge.index edge.inside edge.low ∙ ap (λ x. slice_index l.idx x) edge.parent));
      root = checks.kept (slice_index l.idx 0) (λ k j inside low same. (let above : 1 < place_of l.idx (children_of gs k) j = child_above k j inside low in let zero_at : slice_index l.idx 0 ≡ 0 = q.placed.root in omega (arith, above, same, zero_at)))
          ∙ placed.check 0 (omega (arith, two)) (λ bad. omega (arith, bad));
      others = λ i inside none.
          checks.kept i (λ k j fits low same. (let x = child_state k j fits low in none (child_id (children_of gs k) j) x.0 x.1 same))
          ∙ ap check_in (placed.others i none ∙ vacants i);
    }
