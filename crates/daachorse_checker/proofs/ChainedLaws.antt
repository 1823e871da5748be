-- The chains of the elements at ranks are right where those of the machine are.
use Rattle.std.proofs.Common.{◌≡◌, ◌≢◌, ℕ, zero, suc, ◌<◌, ◌==◌, Bool, true, false, cond, List, [], ◌∷◌, length, Some, None, refl, sym, ap}
use Rattle.std.proofs.Common.{◌∙◌, subst, inl, inr, arith, get_or}
use Rattle.std.proofs.lemmas.Bool.{cases_Bool, false≢true}
use Rattle.std.proofs.lemmas.Option.{none-some, same_Some}
use Rattle.daachorse_model.specs.Paths.{Leads}
use Rattle.daachorse_array.specs.Machines.{Machine, content, own, own_from, values_at}
use Rattle.daachorse_array.proofs.SortLaws.{no_some}
use Rattle.daachorse_checker.specs.Ranks.{HasOnePath, AreRanks}
use Rattle.daachorse_checker.specs.Runs.{has_values}
use Rattle.daachorse_checker.specs.Sizes.{AreSizes}
use Rattle.daachorse_checker.specs.Chains.{AreLeavesOf, IsChained}
use Rattle.daachorse_checker.proofs.TreeLaws.{text_at, found}

pub some_values : {V : Type 0} (vs : List V) → vs ≢ [] → has_values vs ≡ true
some_values [] h = absurd (h refl)
some_values (v ∷ vs) h = refl

pub values_some : {V : Type 0} (vs : List V) → has_values vs ≡ true → vs ≢ []
values_some [] h = absurd (false≢true h)
values_some (v ∷ vs) h = λ e. cc

module _ {V : Type 0} (width : ℕ → ℕ) (a : Machine V) {label : ℕ → ℕ} {n : ℕ} {order parents labels marks : List ℕ}
    (are : AreRanks a.child label n order parents labels marks)
    (unit : (s c t : ℕ) → (m : ℕ) × (m < length order) × (get_or order m 0 ≡ s) → a.child s c ≡ Some t → c ≡ label t)
    (sizes : List ℕ) (sized : AreSizes a.child width order sizes) (size_each : length sizes ≡ length order) {leaves : List Bool}
    (leafy : AreLeavesOf parents leaves (length parents)) where
  abbrev at : ℕ → ℕ
  at m = get_or order m 0

  abbrev leaf : ℕ → Bool
  leaf m = get_or leaves m false

  leaf_none : (m c : ℕ) → m < length order → leaf m ≡ true → a.child (at m) c ≡ None
  leaf_none m c lt h =
      no_some (a.child (at m) c) (λ j e. (let entry = are.closed m lt c j e in
      leafy.none m entry.0 h entry.1 (omega (arith, entry.2, are.ranks.one_each)) entry.4))

  none_leaf : (m : ℕ) → m < length order → ((c : ℕ) → a.child (at m) c ≡ None) → leaf m ≡ true
  none_leaf m lt none = elim (cases_Bool (leaf m)) [
    | inl yes' ↦ yes'
    | inr no' ↦
        let q = leafy.some m (omega (arith, lt, are.ranks.one_each, leafy.each)) no' in
        let e : a.child (at m) (label (at q.0)) ≡ Some (at q.0) = ap (λ p. a.child (at p) (label (at q.0))) (sym q.3)
        ∙ are.ranks.edge q.0 q.1 (omega (arith, q.2, are.ranks.one_each)) in
        absurd (none-some (at q.0) (sym (none (label (at q.0))) ∙ e))
  ]

  -- the element at a rank with the text w
  own_at : (w : List ℕ) (m : ℕ) → m < length order → Leads a.child w (at m)
      → own_from a.outputs (a.output (at m)) (get_or sizes m 0) (a.output (at m)) ≡ own width a w (at m)
  own_at w m lt e = ap (λ k. own_from a.outputs (a.output (at m)) k (a.output (at m))) (sized m w (omega (arith, lt, size_each)) e)

  -- a nonempty text leads to a rank behind the root
  behind : (u i m : ℕ) (w : List ℕ) → HasOnePath a.child → Leads a.child (u ∷ w) i → at m ≡ i → 0 < m
  behind u i zero w tree e is = let bad : u ∷ w ≡ [] = tree.one_path 0 (u ∷ w) [] (e ∙ ap Some (sym is ∙ are.ranks.first)) refl in cc
  behind u i (suc m) w tree e is = omega arith

  module _ (tree : HasOnePath a.child) where
    module _ (chained : (m : ℕ) → 0 < m → m < length order → IsChained a (leaf m) (get_or sizes m 0) (at m)) where
      pub right_chains : (u i : ℕ) (w : List ℕ) → Leads a.child (u ∷ w) i
          → (own width a (u ∷ w) i).1 ≡ cond (a.fail i == 1) 0 (a.output (a.fail i))
      right_chains u i w e =
          let f = found are.ranks unit are.closed (u ∷ w) i e in
          let here : Leads a.child (u ∷ w) (at f.0) = e ∙ ap Some (sym f.2) in
          let goes = (chained f.0 (behind u i f.0 w tree e f.2) f.1).goes_on in
          let at_m : (own width a (u ∷ w) (at f.0)).1 ≡ cond (a.fail (at f.0) == 1) 0 (a.output (a.fail (at f.0))) =
          sym (ap (λ (r : List V × ℕ). r.1) (own_at (u ∷ w) f.0 f.1 here)) ∙ goes in
          subst (λ x. (own width a (u ∷ w) x).1 ≡ cond (a.fail x == 1) 0 (a.output (a.fail x))) f.2 at_m

      pub right_leaves : (u i : ℕ) (w : List ℕ) → Leads a.child (u ∷ w) i → ((c : ℕ) → a.child i c ≡ None) → content width a (u ∷ w) ≢ []
      right_leaves u i w e none =
          let f = found are.ranks unit are.closed (u ∷ w) i e in
          let here : Leads a.child (u ∷ w) (at f.0) = e ∙ ap Some (sym f.2) in
          let is_leaf : leaf f.0 ≡ true = none_leaf f.0 f.1 (λ c. ap (λ x. a.child x c) f.2 ∙ none c) in
          let has = (chained f.0 (behind u i f.0 w tree e f.2) f.1).has_own is_leaf in
          let values : has_values (content width a (u ∷ w)) ≡ true =
          ap (λ o. has_values (values_at width a (u ∷ w) o)) here
          ∙ (sym (ap (λ (r : List V × ℕ). has_values r.0) (own_at (u ∷ w) f.0 f.1 here)) ∙ has) in
          values_some (content width a (u ∷ w)) values

    -- the other way round
    pub chained_right : ((u i : ℕ) (w : List ℕ) → Leads a.child (u ∷ w) i
        → (own width a (u ∷ w) i).1 ≡ cond (a.fail i == 1) 0 (a.output (a.fail i)))
        → ((u i : ℕ) (w : List ℕ) → Leads a.child (u ∷ w) i → ((c : ℕ) → a.child i c ≡ None) → content width a (u ∷ w) ≢ [])
        → (m : ℕ) → 0 < m → m < length order → IsChained a (leaf m) (get_or sizes m 0) (at m)
    chained_right chains owns m pos lt =
        let text = text_at are.ranks m lt in
        by text.0 text.1
      where
        by : (w : List ℕ) → Leads a.child w (at m) → IsChained a (leaf m) (get_or sizes m 0) (at m)
        by [] e = absurd (omega (arith, same_Some 0 (at m) e, are.ranks.alive m pos lt))
        by (u ∷ w) e = record {
          goes_on = ap (λ (r : List V × ℕ). r.1) (own_at (u ∷ w) m lt e) ∙ chains u (at m) w e;
          has_own = λ h.
              let values : has_values (content width a (u ∷ w)) ≡ true =
              some_values (content width a (u ∷ w)) (owns u (at m) w e (λ c. leaf_none m c lt h)) in
              ap (λ (r : List V × ℕ). has_values r.0) (own_at (u ∷ w) m lt e)
              ∙ (sym (ap (λ o. has_values (values_at width a (u ∷ w) o)) e) ∙ values);
        }
