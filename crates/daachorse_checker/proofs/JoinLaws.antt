-- What leads to an element of the array leads to its rank, and the other way round.
use Rattle.std.proofs.Common.{◌≡◌, ℕ, zero, suc, ◌<◌, List, [], ◌∷◌, length, Option, Some, None, refl, sym, ap, ◌∙◌, arith, get_or}
use Rattle.std.specs.Prelude.{is_some, option_map, option_and_then}
use Rattle.std.proofs.lemmas.Option.{none-some, same_Some}
use Rattle.daachorse_model.specs.Paths.{walk, is_reached, Leads}
use Rattle.daachorse_model.proofs.Lists.{some_of_map}
use Rattle.daachorse_array.proofs.SortLaws.{no_some}
use Rattle.daachorse_array.specs.Ranks.{IsTrieOfRanks, child as kid}
use Rattle.daachorse_array.proofs.ChildByLabel.{edge, back}
use Rattle.daachorse_array.proofs.TextLaws.{one_text, walk_later}
use Rattle.daachorse_checker.specs.Ranks.{HasOnePath, HasRanks, AreRanks}
use Rattle.daachorse_checker.proofs.RankLaws.{same_rank}

map_inv : {A B : Type 0} (f : A → B) (o : Option A) (y : B) → option_map f o ≡ Some y → (x : A) × (o ≡ Some x) × (f x ≡ y)
map_inv f (Some x) y e = (x, refl, same_Some (f x) y e)
map_inv f None y e = absurd (cc)

module _ {child : ℕ → ℕ → Option ℕ} {label : ℕ → ℕ} {n units : ℕ} {order parents labels marks : List ℕ}
    (are : AreRanks child label n order parents labels marks)
    (inside : (i c j : ℕ) → child i c ≡ Some j → c < units) (one_unit : (i c j : ℕ) → i < n → child i c ≡ Some j → c ≡ label j) where
  abbrev ranks : HasRanks child label order parents labels marks
  ranks = are.ranks

  abbrev at : ℕ → ℕ
  at m = get_or order m 0

  -- the edge to a rank, by its label
  edge_to : (m : ℕ) → 0 < m → m < length order → child (at (get_or parents m 0)) (get_or labels m 0) ≡ Some (at m)
  edge_to m pos lt = ap (child (at (get_or parents m 0))) (ranks.labelled m pos lt) ∙ ranks.edge m pos lt

  -- the ranks are a trie
  pub ranks_trie : IsTrieOfRanks parents labels units
  ranks_trie = record {
    each = ranks.label_each ∙ sym ranks.one_each;
    order = record {
      some = omega (arith, ranks.some, ranks.one_each);
      earlier = λ m pos lt. ranks.earlier m pos (omega (arith, lt, ranks.one_each));
      rising = ranks.rising;
    };
    inside = λ m pos lt. inside (at (get_or parents m 0)) (get_or labels m 0) (at m) (edge_to m pos (omega (arith, lt, ranks.one_each)));
    apart = λ l m pos less lt same_parent same_label.
        let lt' : m < length order = omega (arith, lt, ranks.one_each) in
        let a = edge_to l pos (omega (arith, less, lt')) in
        let b = edge_to m (omega (arith, less)) lt' in
        let one : at l ≡ at m = same_Some (at l) (at m) (sym a
        ∙ (ap (λ p. child (at p) (get_or labels l 0)) same_parent ∙ ap (child (at (get_or parents m 0))) same_label) ∙ b) in
        let bad : l ≡ m = same_rank ranks l m (omega (arith, less, lt')) lt' one in
        omega (arith, less, bad);
  }

  -- a unit leads to an element where it leads to its rank
  kid_child : (k c : ℕ) → k < length order → child (at k) c ≡ option_map at (kid parents labels k c)
  kid_child k c here = go (kid parents labels k c) refl
    where
      go : (o : Option ℕ) → kid parents labels k c ≡ o → child (at k) c ≡ option_map at o
      go None e = no_some (child (at k) c) (λ t is. (
          let entry = are.closed k here c t is in
          let unit : c ≡ get_or labels entry.0 0 =
          one_unit (at k) c t (omega (arith, ranks.inside k here, are.marks_each)) is ∙ ap label (sym entry.3)
          ∙ sym (ranks.labelled entry.0 entry.1 entry.2) in
          let to : kid parents labels k c ≡ Some entry.0 =
          ap (λ p. kid parents labels p c) (sym entry.4)
          ∙ (ap (kid parents labels (get_or parents entry.0 0)) unit
          ∙ edge parents labels units ranks_trie entry.0 entry.1 (omega (arith, entry.2, ranks.one_each))) in
          none-some entry.0 (sym e ∙ to)))
      go (Some m) e =
          let b = back parents labels units ranks_trie k c m e in
          ap (λ p. child (at p) c) (sym b.2)
          ∙ (ap (child (at (get_or parents m 0))) (sym b.3) ∙ edge_to m b.0 (omega (arith, b.1, ranks.one_each)))

  walk_from : (k : ℕ) (w : List ℕ) → k < length order → walk child (at k) w ≡ option_map at (walk (kid parents labels) k w)
  walk_from k [] here = refl
  walk_from k (c ∷ w) here =
      let Same : Option ℕ → Type 0 = λ o. option_and_then (λ j. walk child j w) (option_map at o) ≡ option_map at
      (option_and_then (λ j. walk (kid parents labels) j w) o) in
      ap (λ o. option_and_then (λ j. walk child j w) o) (kid_child k c here)
      ∙ (elim (kid parents labels k c) as (λ o. kid parents labels k c ≡ o → Same o) [
        | None ↦ λ e. refl
        | Some m ↦ λ e. walk_from m w (omega (arith, (back parents labels units ranks_trie k c m e).1, ranks.one_each))
      ]) refl

  -- a text leads to an element where it leads to its rank
  pub walk_ranks : (w : List ℕ) → walk child 0 w ≡ option_map at (walk (kid parents labels) 0 w)
  walk_ranks w = ap (λ i. walk child i w) (sym ranks.first) ∙ walk_from 0 w ranks.some

  pub reached_ranks : (w : List ℕ) → is_reached child w ≡ is_reached (kid parents labels) w
  reached_ranks w = ap is_some (walk_ranks w) ∙ some_of_map at (walk (kid parents labels) 0 w)

  pub to_element : (w : List ℕ) (m : ℕ) → Leads (kid parents labels) w m → Leads child w (at m)
  to_element w m e = walk_ranks w ∙ ap (option_map at) e

  pub to_rank : (w : List ℕ) (i : ℕ) → Leads child w i → (m : ℕ) × Leads (kid parents labels) w m × (at m ≡ i)
  to_rank w i e = map_inv at (walk (kid parents labels) 0 w) i (sym (walk_ranks w) ∙ e)

  -- what a text leads to is one of the ranks
  pub rank_in : (w : List ℕ) (m : ℕ) → Leads (kid parents labels) w m → m < length order
  rank_in [] m e = omega (arith, same_Some 0 m e, ranks.some)
  rank_in (c ∷ w) m e = omega (arith, (walk_later parents labels units ranks_trie c w m e).1, ranks.one_each)

  -- so each element has one path
  pub one_path_from : HasOnePath child
  one_path_from = record {
    dead_no_child = λ w h. (let a = to_rank w 1 h in dead_at a.0 (rank_in w a.0 a.1) a.2);
    one_path = λ i v w h g. (
        let a = to_rank v i h in
        let b = to_rank w i g in
        one_text parents labels units ranks_trie v w a.0 a.1
        (b.1 ∙ ap Some (same_rank ranks b.0 a.0 (rank_in w b.0 b.1) (rank_in v a.0 a.1) (b.2 ∙ sym a.2))));
  }
    where
      dead_at : (m : ℕ) → m < length order → at m ≡ 1 → ⊥
      dead_at zero lt e = omega (arith, ranks.first, e)
      dead_at (suc m) lt e = omega (arith, ranks.alive (suc m) (omega arith) lt, e)
