-- What the checks of ranks, chains and links say of the machine, both ways.
use Rattle.std.proofs.Common.{◌≡◌, ◌↔◌, ℕ, ◌<◌, Bool, false, cond, List, [], length, Option, Some, ap, ◌∙◌, arith, get_or}
use Rattle.daachorse_model.specs.Paths.{is_reached}
use Rattle.daachorse_array.specs.Edges.{TellChildren}
use Rattle.daachorse_array.specs.Machines.{Machine, IsCounted, IsRight, own_from}
use Rattle.daachorse_array.specs.Ranks.{IsTrieOfRanks, HasLinks}
use Rattle.daachorse_checker.specs.Ranks.{HasOnePath, AreRanks}
use Rattle.daachorse_checker.specs.Runs.{has_values}
use Rattle.daachorse_checker.specs.Sizes.{AreSizes}
use Rattle.daachorse_checker.specs.Links.{AreLinkRanks, IsLinkRank, LeadsToNoRank, HasRightLinks}
use Rattle.daachorse_checker.specs.Chains.{HaveRightChains, AreLeavesOf, AreStopsAt}
use Rattle.daachorse_checker.proofs.MemberLaws.{label, one_unit}
use Rattle.daachorse_checker.proofs.TreeLaws.{text_at}
use Rattle.daachorse_checker.proofs.CountLaws.{ranks_counted, one_count}
use Rattle.daachorse_checker.proofs.JoinLaws.{ranks_trie}
use Rattle.daachorse_checker.proofs.RightLinks.{AreStops, right_links, links_right, lost_link}
use Rattle.daachorse_checker.proofs.ChainedLaws.{right_chains, right_leaves, chained_right}

module _ {V : Type 0} (width : ℕ → ℕ) (a : Machine V) {group : ℕ → Option ℕ} {edge : ℕ → Option (ℕ × ℕ)} {n : ℕ}
    (tell : TellChildren a.child group edge n)
    {order parents labels marks : List ℕ} (are : AreRanks a.child (label edge) n order parents labels marks) where
  pub unit_of_rank : (s c t : ℕ) → (m : ℕ) × (m < length order) × (get_or order m 0 ≡ s) → a.child s c ≡ Some t → c ≡ label edge t
  unit_of_rank s c t found e = one_unit tell s c t (omega (arith, are.ranks.inside found.0 found.1, are.marks_each, found.2)) e

  -- ---- chains
  module _ (tree : HasOnePath a.child) (sizes : List ℕ) (sized : AreSizes a.child width order sizes)
      (each : length sizes ≡ length order) {leaves : List Bool} (leafy : AreLeavesOf parents leaves (length parents))
      (leftmost : Bool) where
    pub right_from : HaveRightChains a order sizes leaves (length order) → HasRightLinks width a leftmost → IsRight width a leftmost
    right_from chained links = record {
      dead_no_child = tree.dead_no_child;
      one_path = tree.one_path;
      leaf_has_own = right_leaves width a are unit_of_rank sizes sized each leafy tree chained.others;
      links = links;
      chains = right_chains width a are unit_of_rank sizes sized each leafy tree chained.others;
      root_chain = chained.root;
    }

    pub chained_from : IsRight width a leftmost → HaveRightChains a order sizes leaves (length order)
    chained_from right = record {
      root = right.root_chain;
      others = chained_right width a are unit_of_rank sizes sized each leafy tree right.chains right.leaf_has_own;
    }

  -- ---- links
  module _ {units : ℕ} (inside : (i c j : ℕ) → a.child i c ≡ Some j → c < units) where
    pub trie_of_ranks : IsTrieOfRanks parents labels units
    trie_of_ranks = ranks_trie are inside (one_unit tell)

    -- a link that leads to no rank is not right
    pub no_rank : (leftmost : Bool) → LeadsToNoRank leftmost a.fail order → HasRightLinks width a leftmost → ⊥
    no_rank leftmost bad links =
        let text = text_at are.ranks bad.0 bad.2 in
        lost_link width a are inside (one_unit tell) [] leftmost bad.0 text.0 bad.1 bad.2 text.1 bad.3 links

    module _ (leftmost : Bool) (sizes : List ℕ) (sized : AreSizes a.child width order sizes) (each : length sizes ≡ length order)
        (stops : List Bool) (stops_at : AreStopsAt a leftmost order sizes stops) (stops_each : length stops ≡ length order)
        (fails : List ℕ) (fails_each : length fails ≡ length order) (linked : AreLinkRanks a.fail order fails) where
      are_stops : AreStops width a are inside (one_unit tell) stops leftmost
      are_stops m w lt e =
          stops_at m (omega (arith, lt, stops_each))
          ∙ ap (λ k. cond leftmost (has_values (own_from a.outputs (a.output (get_or order m 0)) k (a.output (get_or order m 0))).0) false)
          (sized m w (omega (arith, lt, each)) e)

      pub links_are_right : HasOnePath a.child → HasLinks parents labels stops fails ↔ HasRightLinks width a leftmost
      links_are_right tree =
          let at : (m : ℕ) → 0 < m → m < length order → IsLinkRank order (a.fail (get_or order m 0)) (get_or fails m 0) = λ m pos lt.
          linked m pos (omega (arith, lt, fails_each)) in (
            right_links width a are inside (one_unit tell) stops fails fails_each at leftmost are_stops,
            links_right width a are inside (one_unit tell) stops fails fails_each at leftmost are_stops tree,
          )

  -- ---- the count
  pub counted_ranks : HasOnePath a.child → IsCounted a (length order)
  counted_ranks tree = ranks_counted are tree unit_of_rank

  pub same_count : HasOnePath a.child → (m : ℕ) → IsCounted a m → length order ≡ m
  same_count tree m counted = one_count (is_reached a.child) (length order) m (counted_ranks tree) counted

-- a right machine has one path an element
pub path_of : {V : Type 0} (width : ℕ → ℕ) (a : Machine V) (leftmost : Bool) → IsRight width a leftmost → HasOnePath a.child
path_of width a leftmost right = record { dead_no_child = right.dead_no_child; one_path = right.one_path }
