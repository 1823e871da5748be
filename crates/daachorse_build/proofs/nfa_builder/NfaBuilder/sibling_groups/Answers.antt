-- The groups of the walk over the stack, in another order where there is a profile.
use Rattle.std.proofs.Common.{◌≡◌, ◌+◌, ◌⊎◌, ℕ, List, [], sym, ap, ◌∙◌, subst, inl, inr, arith, rules}
use Rattle.std.specs.List.{filter}
use Rattle.std.specs.List.Sorted.{IsPermutation}
use Rattle.std.proofs.lemmas.List.Sorted.{IsPermutation-refl, All-permutation}
use Rattle.std.proofs.lemmas.List.Elements.{All-weaker}
use Rattle.std.proofs.lemmas.Fn.{always_returns_same}
use Rattle.std.proofs.lemmas.Map.Keys.{ge_from_not_lt}
use Rattle.std.proofs.lemmas.Grind.{common_steps}
use Rattle.std.specs.Cmp.{IsTotalOrder}
use Rattle.std.specs.declared.cmp.Ordering.{Ordering}
use Rattle.std.specs.declared.cmp.Reverse.{Reverse}
use Rattle.daachorse_placement.specs.declared.build_helper.profile.Profile.{Profile}
use Rattle.daachorse_placement.specs.declared.build_helper.SiblingGroup.{SiblingGroup}
use Rattle.daachorse_build.specs.declared.nfa_builder.NfaBuilderState.{NfaBuilderState}
use Rattle.daachorse_build.specs.Tables.{edges_of, HoldTrie}
use Rattle.daachorse_build.specs.Groups.{AreGiven, edges_at, has_edges, parents_of, weight_at, VisitsEachState, GivesCodes, AreTrieGroups, AreFamilies, AreWeighed, AreFalling, AreLight, AreSiblingGroups}
use Rattle.daachorse_build.proofs.Families.{few_groups, labels_below, trie_groups, placed_groups, if_counted-none}
use Rattle.daachorse_build.proofs.nfa_builder.NfaBuilder.sibling_groups.Goals as goal
use Rattle.daachorse_build.proofs.nfa_builder.NfaBuilder.sibling_groups.Goals.{then-not-is_empty+in_ok-sort_by_key, else-not-is_empty}

-- groups of a walk, in another order
module _ {L V A : Type 0} (cmp : L → L → Ordering) (total : IsTotalOrder cmp) (states : List (NfaBuilderState L V A)) (table : HoldTrie cmp states) (gives : L → ℕ → Type 0) (profile : Profile A) (first gs : List (SiblingGroup A)) (order : List ℕ)
    (walk : VisitsEachState (edges_of states) order) (parents : parents_of first ≡ filter (has_edges (edges_of states)) order) (families : AreFamilies gives (edges_of states) first) (weighed : AreWeighed (edges_of states) profile first) (moved : IsPermutation first gs) where
  of_trie : (code : L → ℕ) → GivesCodes cmp (edges_of states) gives code → AreTrieGroups cmp code states gs
  of_trie code says = trie_groups cmp total states table order walk gives first gs parents families moved code says

  given : AreFamilies gives (edges_of states) gs
  given = All-permutation (λ x. AreGiven gives (edges_at (edges_of states) x.parent) x.children.items) first gs moved families

  weights : AreWeighed (edges_of states) profile gs
  weights = All-permutation (λ x. x.weight ≡ weight_at (edges_of states) profile x.parent) first gs moved weighed

  light : profile.visits.items ≡ [] → AreLight gs
  light none = All-weaker (λ x. x.weight ≡ weight_at (edges_of states) profile x.parent) (λ x. x.weight ≡ 0) (λ x h. h ∙ if_counted-none profile.visits.items _ none) gs weights

  falling : (profile.visits.items ≡ []) ⊎ AreFalling gs → AreFalling gs
  falling (inl none) = λ k d l. omega (arith, light none k d (omega arith), light none (k + 1) d l)
  falling (inr falls) = falls

  groups-moved : (profile.visits.items ≡ []) ⊎ AreFalling gs → AreSiblingGroups cmp gives states profile gs
  groups-moved falls = record {
    trie = of_trie;
    groups = λ code block says codes. placed_groups cmp total states table gives code block codes gs (of_trie code says) (labels_below gives (edges_of states) gs block given codes.below);
    bound = few_groups cmp total states table order walk gives first gs parents families moved;
    weights = weights;
    falling = falling falls;
    light = light;
  }

pub returns-clause-groups : goal.returns-clause-groups
returns-clause-groups g c =
    let profile = c.args.profile.now in
    let gives = λ (l : g.row.L.Denot) (r : ℕ). g.F.Fn.post c.args.map_label (l, tt) r in
    let first = c.in_ok-groups.groups.items in
    let e = c.in_ok-groups.ensures in
    let M : List (SiblingGroup g.row.A.Denot) → Type 0 = λ gs. IsPermutation first gs × ((profile.visits.items ≡ []) ⊎ AreFalling gs) in
    let moved : M c.if-not-is_empty.groups.items = elim c.if-not-is_empty.branch [
      | then-not-is_empty+in_ok-sort_by_key w ↦
          let key : SiblingGroup g.row.A.Denot → Reverse ℕ = λ x. record { 0 = x.weight } in
          let sorted = w.in_ok-sort_by_key.ensures.sorted key (always_returns_same _ (λ a r. r ≡ key a.0.now) _ (λ a r q k. search rules)) in
          subst M (sym (ap (λ v. v.items) w.groups-is)) (w.in_ok-sort_by_key.ensures.permutation, inr (λ k d l. ge_from_not_lt _ _ (sorted k d (omega arith) l)))
      | else-not-is_empty w ↦ subst M (sym (ap (λ v. v.items) w.groups-is)) (IsPermutation-refl first, inl (c.is_empty.ensures.0 w.if-not-is_empty.false))
    ] in
    let lent : c.deref.result.now ≡ c.args.self.now.states = c.deref.ensures.value ∙ ap (λ b. b.states) c.self.view_is in
    let H : List (NfaBuilderState g.row.L.Denot g.row.V.Denot g.row.A.Denot) → Type 0 = λ ss. HoldTrie g.L.Ord.cmp ss in
    let S : List (NfaBuilderState g.row.L.Denot g.row.V.Denot g.row.A.Denot) → Type 0 = λ ss. AreSiblingGroups g.L.Ord.cmp gives ss profile c.if-not-is_empty.groups.items in
    subst S lent (groups-moved g.L.Ord.cmp g.met.L.Ord.total c.deref.result.now (subst H (sym c.deref.ensures.value) c.self.invariant) gives profile first c.if-not-is_empty.groups.items e.parents.0 e.parents.1 e.parents.2 e.families e.weights moved.0 moved.1)

pub groups_of-requires-clause-profile : goal.groups_of-requires-clause-profile
groups_of-requires-clause-profile g c = grind (arith, common_steps)
