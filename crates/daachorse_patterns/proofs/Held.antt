-- An array that holds a trie at its places is a copy of it, and what its elements hold is in range: an element is a state's, or vacant.
use Rattle.std.proofs.Common.{◌≡◌, ◌≢◌, ℕ, ◌<◌, ◌≤◌, ◌==◌, Bool, cond, List, [], ◌∷◌, length, get_or, sym, ap, ◌∙◌, subst, inl, inr, arith}
use Rattle.std.specs.Prelude.{option_map}
use Rattle.std.specs.Ordering.{nat_cmp}
use Rattle.std.proofs.lemmas.Bool.{cases_eq, cond-true, cond-false, eq-eqb, ne_eqb}
use Rattle.std.proofs.lemmas.Option.{same_Some}
use Rattle.daachorse_core.specs.declared.outputs.Output.{Output}
use Rattle.daachorse_model.specs.Dictionary.{Dictionary}
use Rattle.daachorse_model.specs.Paths.{Leads}
use Rattle.daachorse_placement.specs.declared.build_helper.SiblingGroup.{SiblingGroup}
use Rattle.daachorse_placement.specs.Layout.{Layout}
use Rattle.daachorse_build.specs.Tables.{child_in}
use Rattle.daachorse_build.specs.Trie.{IsTrie}
use Rattle.daachorse_build.proofs.Walks.{text_of, walk-bounds}
use Rattle.daachorse_array.specs.Machines.{Machine}
use Rattle.daachorse_array.specs.Copies.{HasStates, HoldsDictionary, IsCopy}
use Rattle.daachorse_patterns.specs.Settled.{AreSettled, HoldStates, trie_of}
use Rattle.daachorse_patterns.proofs.Places.{Leads-above, Leads-state, base_inside, place-above, place-apart, place-dead, place-inside, place_from, some-elements}

-- a link leads to a state, or to the dead one
pub link-inside : {V : Type 0} (width : ℕ → ℕ) (leftmost : Bool) (K : Dictionary V) (edges : List (List (ℕ × ℕ))) (fails positions : List ℕ) (outputs : List (Output V)) → IsTrie (child_in nat_cmp edges) (length edges)
    → HoldsDictionary width K leftmost (trie_of edges fails positions) outputs → get_or fails 0 0 ≡ 0 → (s : ℕ) (w : List ℕ) → Leads (child_in nat_cmp edges) w s → get_or fails s 0 < length edges
link-inside width leftmost K edges fails positions outputs trie holds root_link s [] e =
    let link : get_or fails s 0 ≡ 0 = ap (λ x. get_or fails x 0) (sym (same_Some 0 s e)) ∙ root_link in
    omega (arith, trie.two, link)
link-inside width leftmost K edges fails positions outputs trie holds root_link s (u ∷ w) e = elim (holds.links u s w e) [
  | inl dead ↦ (let is : get_or fails s 0 ≡ 1 = dead.0 in omega (arith, is, trie.two))
  | inr alive ↦ (walk-bounds (child_in nat_cmp edges) (length edges) trie alive.2.0 (get_or fails s 0) alive.2.1).0
]

module _ {A : Type 0} {code : ℕ → ℕ} {block : ℕ} {tracked : Bool} {gs : List (SiblingGroup A)} {l : Layout} {edges : List (List (ℕ × ℕ))} (q : AreSettled code block tracked gs l edges) (fails positions : List ℕ) where
  -- a text leads to each state
  pub state-text : (s : ℕ) → s < length edges → s ≢ 1 → (w : List ℕ) × Leads (child_in nat_cmp edges) w s
  state-text s less alive = text_of (child_in nat_cmp edges) (length edges) q.of_trie.table.trie s less alive

  pub settled-states : HasStates (trie_of edges fails positions) (length edges)
  settled-states = record {
    two = q.of_trie.table.trie.two;
    reached = state-text;
    only = λ s w e. Leads-state q s w e;
  }

  module _ {none : ℕ} {base_of fail_of output_of : ℕ → ℕ} (held : HoldStates l (length edges) fails positions none base_of fail_of output_of) where
    -- a dead link leads to the dead state
    link_at : (f : ℕ) → get_or l.idx f 0 ≡ cond (f == 1) 1 (get_or l.idx f 0)
    link_at f = elim (cases_eq f 1) [
      | inl e ↦ ap (λ x. get_or l.idx x 0) e ∙ place-dead q ∙ sym (cond-true (f == 1) _ _ (eq-eqb f 1 e))
      | inr other ↦ sym (cond-false (f == 1) _ _ (ne_eqb f 1 other))
    ]

    -- a machine with these links and positions, in which a unit leads from a state's element to its child's alone, is a copy
    pub held-IsCopy : {V : Type 0} (a : Machine V) (outputs : List (Output V)) → a.fail ≡ fail_of → a.output ≡ output_of → a.outputs ≡ outputs
        → ((s c : ℕ) → s < length edges → s ≢ 1 → a.child (get_or l.idx s 0) c ≡ option_map (λ t. get_or l.idx t 0) (child_in nat_cmp edges s c))
        → IsCopy (trie_of edges fails positions) outputs a (λ t. get_or l.idx t 0)
    held-IsCopy a outputs links places same children = record {
      root = q.placed.root;
      above = λ u s w e. (let at = Leads-above q u s w e in place-above q s at.0 at.1);
      apart = λ r s v w d e one. (let x = Leads-state q r v d in let y = Leads-state q s w e in place-apart q r s x.0 x.1 y.0 y.1 one);
      children = λ s c w e. (let at = Leads-state q s w e in children s c at.0 at.1);
      links = λ u s w e. (let at = Leads-state q s (u ∷ w) e in ap (λ f. f (get_or l.idx s 0)) links ∙ held.fail s at.0 at.1 ∙ link_at (get_or fails s 0));
      positions = λ s w e. (let at = Leads-state q s w e in ap (λ f. f (get_or l.idx s 0)) places ∙ held.output s at.0 at.1);
      same_outputs = same;
    }

    -- ---- what the elements hold
    module _ {V : Type 0} (width : ℕ → ℕ) (leftmost : Bool) (K : Dictionary V) (outputs : List (Output V)) (holds : HoldsDictionary width K leftmost (trie_of edges fails positions) outputs)
        (root_link : get_or fails 0 0 ≡ 0) (fits : (w : List ℕ) (t : ℕ) → Leads (child_in nat_cmp edges) w t → get_or positions t 0 ≤ length outputs) where
      pub record IsInRange (i : ℕ) : Type 0 where
        pub base : base_of i < length l.used
        pub fail : fail_of i < length l.used
        pub output : output_of i ≤ length outputs

      state_in_range : (t : ℕ) → t < length edges → t ≢ 1 → IsInRange (get_or l.idx t 0)
      state_in_range t less alive =
          let text = state-text t less alive in
          record {
            base = subst (λ (x : ℕ). x < length l.used) (sym (held.base t less alive)) (elim (cases_eq (get_or l.bases t 0) 0) [
              | inl zero ↦ subst (λ (x : ℕ). x < length l.used) (sym zero) (some-elements q)
              | inr some ↦ base_inside q t less some
            ]);
            fail = subst (λ (x : ℕ). x < length l.used) (sym (held.fail t less alive)) (place-inside q (get_or fails t 0) (link-inside width leftmost K edges fails positions outputs q.of_trie.table.trie holds root_link t text.0 text.1));
            output = subst (λ (x : ℕ). x ≤ length outputs) (sym (held.output t less alive)) (fits text.0 t text.1);
          }

      pub held-in_range : none < length l.used → (i : ℕ) → i < length l.used → IsInRange i
      held-in_range low i inside = elim (place_from q i) [
        | inl t ↦ subst (λ (x : ℕ). IsInRange x) t.3 (state_in_range t.0 t.1 t.2)
        | inr vacant ↦ (
            let some : 0 < length l.used = some-elements q in
            let base : base_of i ≡ 0 = held.no_base i inside vacant in
            let fail : fail_of i ≡ none = held.no_fail i inside vacant in
            let output : output_of i ≡ 0 = held.no_output i inside vacant in
            record { base = omega (arith, some, base); fail = omega (arith, low, fail); output = omega (arith, output) })
      ]
