-- How the walk goes over the children of the element at one rank.
use Rattle.std.proofs.Common.{◌≡◌, ℕ, ◌+◌, ◌<◌, ◌≤◌, List, [], ◌∷◌, ◌++◌, length, Option, Some, None, sym, ap, ◌∙◌, subst, inl, inr, arith}
use Rattle.std.proofs.Common.{get_or, set, ◌⊎◌}
use Rattle.std.proofs.lemmas.List.{length-set, length_push, get_or_push}
use Rattle.std.proofs.lemmas.Option.{none-some}
use Rattle.std.proofs.lemmas.Bool.{cases_lt, cases_eq}
use borrow.Author.Count.{below_more}
use Rattle.daachorse_array.specs.Edges.{TellChildren, is_in, members}
use Rattle.daachorse_checker.specs.Ranks.{AreRanks, HasOnePath, HasRanks, HasEntry, IsClosed, IsRankWalk}
use Rattle.daachorse_checker.proofs.MemberLaws.{IsLast, below-none, below-cons, label, one_unit, member_child, child_member}
use Rattle.daachorse_checker.proofs.RankLaws.{old_at, few, ranks_push, entry_push, entry_new, closed_push, parents_push}
use Rattle.daachorse_checker.proofs.TreeLaws.{no_root, no_second}
use Rattle.daachorse_checker.proofs.JoinLaws.{one_path_from}

module _ (child : ℕ → ℕ → Option ℕ) (edge : ℕ → Option (ℕ × ℕ)) (n : ℕ) where
  -- At rank k, with all before it done: its children from element r on have ranks, and none of its children before r has one under it.
  pub record IsExpanding (order parents labels marks : List ℕ) (k r : ℕ) : Type 0 where
    pub ranks : HasRanks child (label edge) order parents labels marks
    pub closed : IsClosed child order parents k
    pub marks_each : length marks ≡ n
    pub here : k < length order
    pub recent : (m : ℕ) → 0 < m → m < length order → get_or parents m 0 ≤ k
    pub latest : (m : ℕ) → 0 < m → m < length order → get_or parents m 0 ≡ k → r ≤ get_or order m 0
    pub seen : (c t : ℕ) → child (get_or order k 0) c ≡ Some t → r ≤ t → HasEntry order parents k t

  -- the members of group g below some element are left, at rank k
  pub record IsLeft (left order parents labels marks : List ℕ) (g k : ℕ) : Type 0 where
    pub bound : ℕ
    pub most : bound ≤ n
    pub is : left ≡ members edge g bound
    pub walk : IsExpanding order parents labels marks k bound

module _ {child : ℕ → ℕ → Option ℕ} {group : ℕ → Option ℕ} {edge : ℕ → Option (ℕ × ℕ)} {n : ℕ}
    (tell : TellChildren child group edge n) where
  module _ {order parents labels marks : List ℕ} where
    at_rank : HasRanks child (label edge) order parents labels marks → length marks ≡ n → (k : ℕ) → k < length order → get_or order k 0 < n
    at_rank ranks each k here = omega (arith, ranks.inside k here, each)

    -- an element with no group has no child
    pub expand_none : (k : ℕ) → IsRankWalk child (label edge) n order parents labels marks k → k < length order
        → group (get_or order k 0) ≡ None → IsRankWalk child (label edge) n order parents labels marks (k + 1)
    expand_none k walk here none = record {
      ranks = walk.ranks;
      closed = below_more (λ l. (c t : ℕ) → child (get_or order l 0) c ≡ Some t → HasEntry order parents l t) k walk.closed
          (λ c t e. absurd (none-some t (sym (tell.alone (get_or order k 0) c (at_rank walk.ranks walk.marks_each k here) none) ∙ e)));
      recent = λ m pos lt. omega (arith, walk.recent m pos lt);
      marks_each = walk.marks_each;
      within = omega (arith, here);
    }

    module _ {g k : ℕ} (is : group (get_or order k 0) ≡ Some g) where
      module _ {xs : List ℕ} {x : ℕ} {rest : List ℕ} (begins : xs ≡ x ∷ rest)
          (left : IsLeft child edge n xs order parents labels marks g k) where
        last : IsLast (λ j. is_in g (edge j)) left.bound x rest
        last = below-cons (λ j. is_in g (edge j)) left.bound x rest (sym left.is ∙ begins)

        pub next_in : x < n
        next_in = omega (arith, last.less, left.most)

        parent_in : get_or order k 0 < n
        parent_in = at_rank left.walk.ranks left.walk.marks_each k left.walk.here

        -- the walk is at a child
        edge_at : child (get_or order k 0) (label edge x) ≡ Some x
        edge_at = member_child tell (get_or order k 0) g parent_in is x next_in last.passes

        pub expand_next : 1 < x → get_or marks x 0 ≡ 0 → (u : ℕ) → u ≡ label edge x
            → IsLeft child edge n rest (order ++ x ∷ []) (parents ++ k ∷ []) (labels ++ u ∷ []) (set marks x (length order)) g k
        expand_next low none u same =
            let walk = left.walk in
            let high : x < length marks = omega (arith, next_in, walk.marks_each) in
            let here' : get_or (order ++ x ∷ []) k 0 ≡ get_or order k 0 = old_at order x k walk.here in
            record {
              bound = x;
              most = omega (arith, next_in);
              is = last.before;
              walk = record {
                ranks = ranks_push walk.ranks walk.here edge_at same low none high walk.recent;
                closed = closed_push walk.ranks walk.here edge_at same low none high walk.recent k (omega (arith, walk.here)) walk.closed;
                marks_each = length-set marks x (length order) ∙ walk.marks_each;
                here = omega (arith, walk.here, length_push order x);
                recent = parents_push walk.ranks walk.here edge_at same low none high walk.recent;
                latest = λ m pos less e. elim (cases_lt m (length order)) [
                  | inl a ↦ omega (
                    arith,
                    old_at order x m a,
                    walk.latest m pos a (sym (old_at parents k m (omega (arith, a, walk.ranks.one_each))) ∙ e),
                    last.less,
                  )
                  | inr b ↦ omega (arith, get_or_push order x 0 m (omega (arith, b, less, length_push order x)))
                ];
                seen = λ c t e less. elim (cases_eq t x) [
                  | inl one ↦
                      subst (λ i. HasEntry (order ++ x ∷ []) (parents ++ k ∷ []) k i) (sym one)
                      (entry_new walk.ranks walk.here edge_at same low none high walk.recent)
                  | inr other ↦
                      let e' : child (get_or order k 0) c ≡ Some t = ap (λ s. child s c) (sym here') ∙ e in
                      elim (cases_lt t left.bound) [
                        | inl a ↦ absurd (last.none t (omega (arith, less, other)) a
                            (child_member tell (get_or order k 0) g parent_in is c t e'))
                        | inr b ↦ entry_push walk.ranks walk.here edge_at same low none high walk.recent k t (walk.seen c t e' b)
                      ]
                ];
              };
            }

        pub refuse_low : x ≤ 1 → HasOnePath child → ⊥
        refuse_low low = no_root left.walk.ranks k (label edge x) x left.walk.here edge_at low

        pub refuse_marked : 0 < get_or marks x 0 → HasOnePath child → ⊥
        refuse_marked pos tree =
            let ranks = left.walk.ranks in
            let at = ranks.marked x pos in
            let m = get_or marks x 0 in
            let p = get_or parents m 0 in
            let up = ranks.earlier m pos at.0 in
            let e : child (get_or order p 0) (label edge (get_or order m 0)) ≡ Some x = ranks.edge m pos at.0 ∙ ap Some at.1 in
            no_second ranks k p (label edge x) (label edge (get_or order m 0)) x left.walk.here (omega (arith, up, at.0))
            (λ same. omega (arith, left.walk.latest m pos at.0 (sym same), at.1, last.less))
            edge_at e tree

      pub expand_done : {xs : List ℕ} → xs ≡ [] → IsLeft child edge n xs order parents labels marks g k
          → IsRankWalk child (label edge) n order parents labels marks (k + 1)
      expand_done none left = record {
        ranks = walk.ranks;
        closed = below_more (λ l. (c t : ℕ) → child (get_or order l 0) c ≡ Some t → HasEntry order parents l t) k walk.closed
            (λ c t e. at c t e (cases_lt t left.bound));
        recent = λ m pos lt. omega (arith, walk.recent m pos lt);
        marks_each = walk.marks_each;
        within = omega (arith, walk.here);
      }
        where
          walk : IsExpanding child edge n order parents labels marks k left.bound
          walk = left.walk

          at : (c t : ℕ) → child (get_or order k 0) c ≡ Some t → (t < left.bound) ⊎ (left.bound ≤ t) → HasEntry order parents k t
          at c t e (inl a) =
              let passes = child_member tell (get_or order k 0) g (at_rank walk.ranks walk.marks_each k walk.here) is c t e in
              absurd (below-none (λ j. is_in g (edge j)) left.bound t (sym left.is ∙ none) a passes)
          at c t e (inr b) = walk.seen c t e b

    pub few_ranks : HasRanks child (label edge) order parents labels marks → length marks ≡ n → length order ≤ n
    few_ranks ranks each = omega (arith, few ranks, each)

    pub all_ranked : {units : ℕ} → ((i c j : ℕ) → child i c ≡ Some j → c < units)
        → IsRankWalk child (label edge) n order parents labels marks (length order)
        → AreRanks child (label edge) n order parents labels marks × HasOnePath child
    all_ranked inside walk =
        let are : AreRanks child (label edge) n order parents labels marks =
        record { ranks = walk.ranks; closed = walk.closed; marks_each = walk.marks_each } in
        (are, one_path_from are inside (one_unit tell))
