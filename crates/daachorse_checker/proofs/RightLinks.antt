-- The links of the ranks are right where those of the array are: each text has one link in both, since both have the same texts and keys.
use Rattle.std.proofs.Common.{◌≡◌, ℕ, ◌<◌, Bool, true, false, cond, List, [], ◌∷◌, length, Option, Some, None, refl, sym, ap, ◌∙◌, inl, inr}
use Rattle.std.proofs.Common.{arith, get_or}
use Rattle.std.specs.Prelude.{option_map}
use Rattle.std.proofs.lemmas.Option.{same_Some}
use Rattle.daachorse_model.specs.Paths.{walk, is_reached, Leads}
use Rattle.daachorse_model.specs.Prefixes.{is_key, left_fail, long}
use Rattle.daachorse_array.specs.Machines.{Machine, content, element_of, own, right_fail, values_at}
use Rattle.daachorse_array.specs.Links.{IsRankOf, keys, left_link, value_at}
use Rattle.daachorse_array.specs.Ranks.{HasLinks, child as kid, stop}
use Rattle.daachorse_array.proofs.LeftLaws.{value_at-stops}
use Rattle.daachorse_array.proofs.StandardLaws.{left_fail-same, left_fail-none}
use Rattle.daachorse_array.proofs.TextLaws.{walk_later}
use Rattle.daachorse_checker.specs.Ranks.{HasOnePath, AreRanks}
use Rattle.daachorse_checker.specs.Links.{IsLinkRank, IsNoRank}
use Rattle.daachorse_checker.specs.Runs.{has_values}
use Rattle.daachorse_checker.proofs.RankLaws.{same_rank}
use Rattle.daachorse_checker.proofs.JoinLaws.{ranks_trie, walk_ranks, reached_ranks, to_element, to_rank, rank_in}

module _ {V : Type 0} (width : ℕ → ℕ) (a : Machine V) {label : ℕ → ℕ} {n units : ℕ} {order parents labels marks : List ℕ}
    (are : AreRanks a.child label n order parents labels marks)
    (inside : (i c j : ℕ) → a.child i c ≡ Some j → c < units) (one_unit : (i c j : ℕ) → i < n → a.child i c ≡ Some j → c ≡ label j)
    (stops : List Bool) where
  abbrev child_rank : ℕ → ℕ → Option ℕ
  child_rank = kid parents labels

  abbrev at : ℕ → ℕ
  at m = get_or order m 0

  -- a rank stops where its element has a value of its own, if the machine is leftmost; else none does
  abbrev pub AreStops : Bool → Type 0
  AreStops leftmost = (m : ℕ) (w : List ℕ) → m < length order → Leads a.child w (at m)
      → stop stops m ≡ cond leftmost (has_values (own width a w (at m)).0) false

  key_same : AreStops true → (w : List ℕ) → is_key (keys child_rank (stop stops)) w ≡ is_key (content width a) w
  key_same are_stops w = by (walk child_rank 0 w) refl ∙ sym
      (ap (λ o. has_values (values_at width a w o)) (walk_ranks are inside one_unit w))
    where
      by : (o : Option ℕ) → walk child_rank 0 w ≡ o → has_values (value_at child_rank (stop stops) o) ≡ has_values
          (values_at width a w (option_map at o))
      by None e = refl
      by (Some m) e = value_at-stops child_rank (stop stops) 0 (stop stops m)
          ∙ are_stops m w (rank_in are inside one_unit w m e) (to_element are inside one_unit w m e)

  key_none : AreStops false → (w : List ℕ) → is_key (keys child_rank (stop stops)) w ≡ false
  key_none are_stops w = by (walk child_rank 0 w) refl
    where
      by : (o : Option ℕ) → walk child_rank 0 w ≡ o → has_values (value_at child_rank (stop stops) o) ≡ false
      by None e = refl
      by (Some m) e = value_at-stops child_rank (stop stops) 0 (stop stops m)
          ∙ are_stops m w (rank_in are inside one_unit w m e) (to_element are inside one_unit w m e)

  known_same : is_reached a.child ≡ is_reached child_rank
  known_same = λ i. λ w. reached_ranks are inside one_unit w i

  -- the link of a text in the machine is that among the ranks
  right_is : (leftmost : Bool) → AreStops leftmost → (u : ℕ) (w : List ℕ)
      → right_fail width a leftmost (u ∷ w) ≡ element_of width a (left_link child_rank (stop stops) u w)
  right_is true are_stops u w =
      ap (λ known. element_of width a (left_fail (content width a) known (u ∷ w))) known_same
      ∙ ap (element_of width a) (sym
      (left_fail-same (keys child_rank (stop stops)) (content width a) (key_same are_stops) (is_reached child_rank) (u ∷ w)))
  right_is false are_stops u w =
      ap (λ known. walk a.child 0 (long known w)) known_same
      ∙ ap (element_of width a) (sym (left_fail-none (keys child_rank (stop stops)) (key_none are_stops) (is_reached child_rank) u w))

  module _ (fails : List ℕ) (each : length fails ≡ length order)
      (linked : (m : ℕ) → 0 < m → m < length order → IsLinkRank order (a.fail (at m)) (get_or fails m 0)) where
    goes : (o : Option (List ℕ)) (f r : ℕ) → IsRankOf child_rank (length fails) o r → IsLinkRank order f r → element_of width a o ≡ Some f
    goes None f r h (inl e) = ap Some (sym e.0)
    goes None f r h (inr e) = absurd (omega (arith, e.1, h, each))
    goes (Some l) f r h (inl e) = absurd (omega (arith, e.1, rank_in are inside one_unit l r h))
    goes (Some l) f r h (inr e) = to_element are inside one_unit l r h ∙ ap Some e.2

    comes : HasOnePath a.child → (o : Option (List ℕ)) (f r : ℕ) → element_of width a o ≡ Some f → IsLinkRank order f r
        → IsRankOf child_rank (length fails) o r
    comes tree None f r h (inl e) = e.1 ∙ sym each
    comes tree None f r h (inr e) = absurd (e.0 (sym (same_Some 1 f h)))
    comes tree (Some l) f r h (inl e) = absurd (tree.dead_no_child l (h ∙ ap Some e.0))
    comes tree (Some l) f r h (inr e) =
        let p = to_rank are inside one_unit l f h in
        let same : p.0 ≡ r = same_rank are.ranks p.0 r (rank_in are inside one_unit l p.0 p.1) e.1 (p.2 ∙ sym e.2) in
        p.1 ∙ ap Some same

    module _ (leftmost : Bool) (are_stops : AreStops leftmost) where
      pub right_links : HasLinks parents labels stops fails → (u i : ℕ) (w : List ℕ) → Leads a.child (u ∷ w) i
          → right_fail width a leftmost (u ∷ w) ≡ Some (a.fail i)
      right_links links u i w e =
          let p = to_rank are inside one_unit (u ∷ w) i e in
          let m = p.0 in
          let later = walk_later parents labels units (ranks_trie are inside one_unit) u w m p.1 in
          let lt = rank_in are inside one_unit (u ∷ w) m p.1 in
          right_is leftmost are_stops u w
          ∙ goes (left_link child_rank (stop stops) u w) (a.fail (at m)) (get_or fails m 0) (links m u w p.1) (linked m later.0 lt)
          ∙ ap (λ x. Some (a.fail x)) p.2

      pub links_right : HasOnePath a.child
          → ((u i : ℕ) (w : List ℕ) → Leads a.child (u ∷ w) i → right_fail width a leftmost (u ∷ w) ≡ Some (a.fail i))
          → HasLinks parents labels stops fails
      links_right tree links m u w e =
          let later = walk_later parents labels units (ranks_trie are inside one_unit) u w m e in
          let lt = rank_in are inside one_unit (u ∷ w) m e in
          comes tree (left_link child_rank (stop stops) u w) (a.fail (at m)) (get_or fails m 0)
          (sym (right_is leftmost are_stops u w) ∙ links u (at m) w (to_element are inside one_unit (u ∷ w) m e))
          (linked m later.0 lt)

  -- a link that is no rank is not right
  lost : (leftmost : Bool) (u : ℕ) (w : List ℕ) (f : ℕ) → right_fail width a leftmost (u ∷ w) ≡ Some f → IsNoRank leftmost order f → ⊥
  lost true u w f e none = by (left_fail (content width a) (is_reached a.child) (u ∷ w)) e
    where
      by : (o : Option (List ℕ)) → element_of width a o ≡ Some f → ⊥
      by None h = none.alive refl (sym (same_Some 1 f h))
      by (Some l) h =
          let p = to_rank are inside one_unit l f h in
          none.lost p.0 (rank_in are inside one_unit l p.0 p.1) p.2
  lost false u w f e none =
      let p = to_rank are inside one_unit (long (is_reached a.child) w) f e in
      none.lost p.0 (rank_in are inside one_unit (long (is_reached a.child) w) p.0 p.1) p.2

  pub lost_link : (leftmost : Bool) (m : ℕ) (v : List ℕ) → 0 < m → m < length order → Leads a.child v (at m)
      → IsNoRank leftmost order (a.fail (at m))
      → ((u i : ℕ) (w : List ℕ) → Leads a.child (u ∷ w) i → right_fail width a leftmost (u ∷ w) ≡ Some (a.fail i)) → ⊥
  lost_link leftmost m [] pos lt e none links =
      let high = are.ranks.alive m pos lt in
      let root : 0 ≡ at m = same_Some 0 (at m) e in
      omega (arith, high, root)
  lost_link leftmost m (u ∷ w) pos lt e none links = lost leftmost u w (a.fail (at m)) (links u (at m) w e) none
