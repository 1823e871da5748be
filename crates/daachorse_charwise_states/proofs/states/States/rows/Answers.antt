-- Either view has the parts, whose states are elements.
use Rattle.std.proofs.Common.{◌≡◌, ◌⊎◌, ◌/◌, ◌<◌, ◌≤◌, inl, inr, ℕ, List, length, map, ap, sym, ◌∙◌, subst, arith}
use Rattle.std.specs.Prelude.{◌^◌, IfSome, Option, Some, None, unwrap_or}
use Rattle.daachorse_model.specs.declared.MatchKind.TheVariants.{Standard}
use Rattle.daachorse_model.specs.Paths.{walk}
use Rattle.daachorse_array.proofs.MachineLaws.{Reached-inside}
use Rattle.daachorse_rows.specs.Rows.{AreLabels, AreTooMany, ClosesOrFills, MayClose, RowTable, row_cells, stands_by}
use Rattle.daachorse_rows.proofs.ListedLaws.{AreLabels-own}
use Rattle.daachorse_rows.proofs.ShallowLaws.{AreTooMany-weaker, room_least}
use Rattle.daachorse_charwise_states.specs.Parts.{Parts, child, content, count}
use Rattle.daachorse_charwise_states.specs.StateRows.{CoversNear, HasFewCodes, HasNoRoom, HasRows, StaysUnlessLarge, sees_ascii, stands_for}
use Rattle.daachorse_charwise_states.specs.Valid.{IsState, IsValid}
use Rattle.daachorse_charwise_states.proofs.CharLaws.{valid_machine}
use Rattle.daachorse_charwise_states.proofs.DeadLaws.{alive}
use Rattle.daachorse_charwise_states.proofs.states.States.rows.Goals as goal

abbrev coded : {V : Type 0} → Parts V → ℕ → ℕ → Type 0
coded p = stands_by (λ (label : ℕ). label) (stands_for p)

-- a standard automaton has no dead link, and a text leads to one state
may_close : {V : Type 0} (p : Parts V) → p.kind ≡ Standard → HasFewCodes p → MayClose (2 ^ 32) (sees_ascii p) (coded p)
may_close p standard few = record {
  alive = alive p standard;
  single = λ s t here there same. ap (λ o. unwrap_or o 0) (sym here ∙ (ap (walk (child p) 0) same ∙ there));
  slots = λ label unit below stands. slotted label unit stands.0 stands.1 stands.2;
}
  where
    slotted : (label unit own : ℕ) → own ≡ label → stands_for p own unit → label < 638
    slotted label unit own is (inl (ascii, named)) = omega (arith, is, ascii, named)
    slotted label unit own is (inr (past, code, coded, named)) = omega (arith, is, named, few unit code past coded)

module _ {V : Type 0} (p q : Parts V) (same : q ≡ p) where
  -- the rows of one view stay where those of the parts do
  stays : (made : Option RowTable) (listed labels : List ℕ) → listed ≡ labels → length labels ≤ 638
      → IfSome made (λ r. MayClose (2 ^ 32) (sees_ascii q) (coded q)
      → ClosesOrFills (2 ^ 32) (sees_ascii q) (coded q) (63168 / row_cells (length listed)) r)
      → IfSome made (λ r. p.kind ≡ Standard → HasFewCodes p → StaysUnlessLarge p r)
  stays None listed labels is few closed = tt
  stays (Some r) listed labels is few closed = λ standard coding.
      let P : Parts V → Type 0 = λ x. MayClose (2 ^ 32) (sees_ascii x) (coded x) in
      let Q : Parts V → Type 0 = λ x. StaysUnlessLarge x r in
      let fits = room_least (length listed) 196 (omega (arith, ap length is, few)) in
      subst Q same (elim (closed (subst P (sym same) (may_close p standard coding))) [
        | inl all ↦ inl all
        | inr many ↦ inr (
          many.0,
          AreTooMany-weaker (sees_ascii q) (coded q) many.0 many.0 (63168 / row_cells (length listed)) 196 (omega arith) fits many.1,
        )
      ])

  labels_along : (made listed : List ℕ) → listed ≡ made → AreLabels (content p) (stands_for p) made
      → AreLabels (content q) (stands_by (λ (label : ℕ). label) (stands_for q)) (map (λ (label : ℕ). label) listed)
  labels_along made listed is labels =
      let P : Parts V → Type 0 = λ x. AreLabels (content x) (stands_for x) listed in
      let Q : List ℕ → Type 0 = λ l. AreLabels (content p) (stands_for p) l in
      AreLabels-own (content q) (stands_for q) listed (subst P (sym same) (subst Q (sym is) labels))

  states_along : (n : ℕ) → IsValid p → n ≡ count p → (s : ℕ) → IsState q s → s < n
  states_along n valid all s there =
      let P : Parts V → Type 0 = λ x. IsState x s in
      omega (arith, Reached-inside _ _ _ _ _ (valid_machine p valid) s (subst P same there), all)

  -- what leaves no room for rows of one view does so for the parts
  no_room : (n : ℕ) (listed labels : List ℕ) → listed ≡ labels → length labels ≤ 638 → n ≡ count p
      → AreTooMany (sees_ascii q) (coded q) 2 (63168 / row_cells (length listed)) ⊎ (4294901760 < n) → HasNoRoom p
  no_room n listed labels is few all (inl many) =
      let P : Parts V → Type 0 = λ x. AreTooMany (sees_ascii x) (coded x) 2 196 in
      inl (subst P same (AreTooMany-weaker (sees_ascii q) (coded q) 2 2 (63168 / row_cells (length listed)) 196 (omega arith)
      (room_least (length listed) 196 (omega (arith, ap length is, few))) many))
  no_room n listed labels is few all (inr past) = inr (omega (arith, past, all))

pub new-requires-clause-labels : goal.new-requires-clause-labels
new-requires-clause-labels g c =
    labels_along c.args.self.now _ (c.new-view.ensures ∙ c.standard.ensures) _ _ c.as_slice.ensures.value c.in_ok-labels.ensures.all

pub new-requires-clause-count : goal.new-requires-clause-count
new-requires-clause-count g c =
    let valid : IsValid c.args.self.now = rw (← c.self.view_is) c.self.invariant in
    states_along c.args.self.now _ (c.new-view.ensures ∙ c.standard.ensures) c.num_elements-count.result valid
    c.num_elements-count.ensures.all

pub returns-in-Standard : goal.returns-in-Standard
returns-in-Standard g c = record {
  right =
      let P : Parts g.row.V.Denot → Type 0 = λ p. IfSome c.in_ok-new-in-Standard.field-0 (HasRows p) in
      subst P (c.new-view.ensures ∙ c.standard.ensures) c.in_ok-new-in-Standard.ensures.right;
  covered =
      let P : Parts g.row.V.Denot → Type 0 = λ p. IfSome c.in_ok-new-in-Standard.field-0 (CoversNear p) in
      subst P (c.new-view.ensures ∙ c.standard.ensures) c.in_ok-new-in-Standard.ensures.covered;
  stays = stays c.args.self.now _ (c.new-view.ensures ∙ c.standard.ensures) c.in_ok-new-in-Standard.field-0 _ _ c.as_slice.ensures.value
      c.in_ok-labels.ensures.few c.in_ok-new-in-Standard.ensures.closed;
  none = λ at. no_room c.args.self.now _ (c.new-view.ensures ∙ c.standard.ensures) _ _ c.in_ok-labels.labels.items c.as_slice.ensures.value
      c.in_ok-labels.ensures.few c.num_elements-count.ensures.all (c.in_ok-new-in-Standard.ensures.none at);
  err = tt;
}

pub new-requires-in-LeftmostLongest-clause-labels : goal.new-requires-in-LeftmostLongest-clause-labels
new-requires-in-LeftmostLongest-clause-labels g c =
    labels_along c.args.self.now _ (c.new-view-in-LeftmostLongest.ensures ∙ c.leftmost.ensures) _ _
    c.as_slice-in-LeftmostLongest.ensures.value c.in_ok-labels.ensures.all

pub new-requires-in-LeftmostLongest-clause-count : goal.new-requires-in-LeftmostLongest-clause-count
new-requires-in-LeftmostLongest-clause-count g c =
    let valid : IsValid c.args.self.now = rw (← c.self.view_is) c.self.invariant in
    states_along c.args.self.now _ (c.new-view-in-LeftmostLongest.ensures ∙ c.leftmost.ensures) c.num_elements-count.result valid
    c.num_elements-count.ensures.all

pub returns : goal.returns
returns g c = record {
  right =
      let P : Parts g.row.V.Denot → Type 0 = λ p. IfSome c.in_ok-new-in-LeftmostLongest.field-0 (HasRows p) in
      subst P (c.new-view-in-LeftmostLongest.ensures ∙ c.leftmost.ensures) c.in_ok-new-in-LeftmostLongest.ensures.right;
  covered =
      let P : Parts g.row.V.Denot → Type 0 = λ p. IfSome c.in_ok-new-in-LeftmostLongest.field-0 (CoversNear p) in
      subst P (c.new-view-in-LeftmostLongest.ensures ∙ c.leftmost.ensures) c.in_ok-new-in-LeftmostLongest.ensures.covered;
  stays = stays c.args.self.now _ (c.new-view-in-LeftmostLongest.ensures ∙ c.leftmost.ensures) c.in_ok-new-in-LeftmostLongest.field-0 _ _
      c.as_slice-in-LeftmostLongest.ensures.value c.in_ok-labels.ensures.few c.in_ok-new-in-LeftmostLongest.ensures.closed;
  none = λ at. no_room c.args.self.now _ (c.new-view-in-LeftmostLongest.ensures ∙ c.leftmost.ensures) _ _ c.in_ok-labels.labels.items
      c.as_slice-in-LeftmostLongest.ensures.value c.in_ok-labels.ensures.few c.num_elements-count.ensures.all
      (c.in_ok-new-in-LeftmostLongest.ensures.none at);
  err = tt;
}
