-- Either view has the parts, whose states are elements.
use Rattle.std.proofs.Common.{◌≡◌, ◌⊎◌, ◌+◌, ◌/◌, ◌<◌, ◌≤◌, inl, inr, ℕ, List, length, map, ap, sym, ◌∙◌, subst, arith}
use Rattle.std.specs.Prelude.{IfOk, IfSome, Option, Some, None, Result, Ok, Err, unwrap_or}
use Rattle.daachorse_model.specs.declared.MatchKind.TheVariants.{Standard}
use Rattle.daachorse_model.specs.Paths.{walk}
use Rattle.daachorse_rows.specs.Rows.{AreLabels, AreTooMany, ClosesOrFills, MayClose, RowTable, row_cells, stands_by}
use Rattle.daachorse_rows.proofs.ListedLaws.{AreLabels-own}
use Rattle.daachorse_rows.proofs.ShallowLaws.{AreTooMany-weaker, room_least}
use Rattle.daachorse_bytewise_states.specs.Parts.{Parts, child, content, count}
use Rattle.daachorse_bytewise_states.specs.StateRows.{CoversNear, HasNoRoom, HasRows, StaysUnlessLarge, stands_for}
use Rattle.daachorse_bytewise_states.specs.Valid.{IsState, IsValid, sees}
use Rattle.daachorse_bytewise_states.proofs.ByteLaws.{state_inside}
use Rattle.daachorse_bytewise_states.proofs.DeadLaws.{alive}
use Rattle.daachorse_bytewise_states.proofs.states.States.rows.Goals as goal

-- a standard automaton has no dead link, and a text leads to one state
may_close : {V : Type 0} (p : Parts V) → p.kind ≡ Standard → MayClose 256 (sees p) stands_for
may_close p standard = record {
  alive = alive p standard;
  single = λ s t here there same. ap (λ o. unwrap_or o 0) (sym here ∙ (ap (walk (child p) 0) same ∙ there));
  slots = λ label unit below stands. omega (arith, below);
}

module _ {V : Type 0} (p q : Parts V) (same : q ≡ p) where
  -- the rows of one view stay where those of the parts do
  stays : {E : Type 0} (made : Result (Option RowTable) E) (listed bytes : List ℕ) → listed ≡ bytes → length bytes ≤ 256
      → IfOk made (λ rows. IfSome rows
      (λ r. MayClose 256 (sees q) stands_for → ClosesOrFills 256 (sees q) stands_for (63168 / row_cells (length listed)) r))
      → IfOk made (λ rows. IfSome rows (λ r. p.kind ≡ Standard → StaysUnlessLarge p r))
  stays (Err e) listed bytes is few closed = tt
  stays (Ok None) listed bytes is few closed = tt
  stays (Ok (Some r)) listed bytes is few closed = λ standard.
      let P : Parts V → Type 0 = λ x. MayClose 256 (sees x) stands_for in
      let Q : Parts V → Type 0 = λ x. StaysUnlessLarge x r in
      let fits = room_least (length listed) 485 (omega (arith, ap length is, few)) in
      subst Q same (elim (closed (subst P (sym same) (may_close p standard))) [
        | inl all ↦ inl all
        | inr many ↦ inr (
          many.0,
          AreTooMany-weaker (sees q) stands_for many.0 many.0 (63168 / row_cells (length listed)) 485 (omega arith) fits many.1,
        )
      ])

  labels_along : (bytes listed : List ℕ) → listed ≡ bytes → AreLabels (content p) (λ label unit. label ≡ unit) bytes
      → AreLabels (content q) (stands_by (λ (byte : ℕ). byte) (λ label unit. label ≡ unit)) (map (λ (byte : ℕ). byte) listed)
  labels_along bytes listed is labels =
      let P : Parts V → Type 0 = λ x. AreLabels (content x) (λ label unit. label ≡ unit) listed in
      let Q : List ℕ → Type 0 = λ l. AreLabels (content p) (λ label unit. label ≡ unit) l in
      AreLabels-own (content q) (λ label unit. label ≡ unit) listed (subst P (sym same) (subst Q (sym is) labels))

  states_along : (n : ℕ) → IsValid p → n ≡ count p → (s : ℕ) → IsState q s → s < n
  states_along n valid all s there =
      let P : Parts V → Type 0 = λ x. IsState x s in
      omega (arith, state_inside p valid s (subst P same there), all)

  -- what leaves no room for rows of one view does so for the parts
  no_room : {R E : Type 0} (made : Result (Option R) E) (n : ℕ) (listed bytes : List ℕ) → listed ≡ bytes → length bytes ≤ 256 → n ≡ count p
      → IfOk made (λ rows. rows ≡ None → AreTooMany (sees q) stands_for 2 (63168 / row_cells (length listed)) ⊎ (4294901760 < n))
      → IfOk made (λ rows. rows ≡ None → HasNoRoom p)
  no_room (Err e) n listed bytes is few all none = tt
  no_room (Ok rows) n listed bytes is few all none = λ at. elim (none at) [
    | inl many ↦
        let P : Parts V → Type 0 = λ x. AreTooMany (sees x) stands_for 2 485 in
        inl (subst P same (AreTooMany-weaker (sees q) stands_for 2 2 (63168 / row_cells (length listed)) 485 (omega arith)
        (room_least (length listed) 485 (omega (arith, ap length is, few))) many))
    | inr past ↦ inr (omega (arith, past, all))
  ]

pub new-requires-clause-labels : goal.new-requires-clause-labels
new-requires-clause-labels g c =
    labels_along c.args.self.now _ c.standard-view.ensures _ _ c.as_slice.ensures.value c.in_ok-bytes.ensures.all

pub new-requires-clause-count : goal.new-requires-clause-count
new-requires-clause-count g c =
    let valid : IsValid c.args.self.now = rw (← c.self.view_is) c.self.invariant.valid in
    states_along c.args.self.now _ c.standard-view.ensures c.num_elements-count.result valid c.num_elements-count.ensures.all

pub returns-in-Standard : goal.returns-in-Standard
returns-in-Standard g c = record {
  right =
      let P : Parts g.row.V.Denot → Type 0 = λ p. IfOk c.new.result (λ rows. IfSome rows (HasRows p)) in
      subst P c.standard-view.ensures c.new.ensures.right;
  covered =
      let P : Parts g.row.V.Denot → Type 0 = λ p. IfOk c.new.result (λ rows. IfSome rows (CoversNear p)) in
      subst P c.standard-view.ensures c.new.ensures.covered;
  stays = stays c.args.self.now _ c.standard-view.ensures c.new.result _ _ c.as_slice.ensures.value c.in_ok-bytes.ensures.few
      c.new.ensures.closed;
  none = no_room c.args.self.now _ c.standard-view.ensures c.new.result _ _ c.in_ok-bytes.bytes.items c.as_slice.ensures.value
      c.in_ok-bytes.ensures.few c.num_elements-count.ensures.all c.new.ensures.none;
}

pub new-requires-in-LeftmostLongest-clause-labels : goal.new-requires-in-LeftmostLongest-clause-labels
new-requires-in-LeftmostLongest-clause-labels g c =
    labels_along c.args.self.now _ c.leftmost-view.ensures _ _ c.as_slice-in-LeftmostLongest.ensures.value c.in_ok-bytes.ensures.all

pub new-requires-in-LeftmostLongest-clause-count : goal.new-requires-in-LeftmostLongest-clause-count
new-requires-in-LeftmostLongest-clause-count g c =
    let valid : IsValid c.args.self.now = rw (← c.self.view_is) c.self.invariant.valid in
    states_along c.args.self.now _ c.leftmost-view.ensures c.num_elements-count.result valid c.num_elements-count.ensures.all

pub returns : goal.returns
returns g c = record {
  right =
      let P : Parts g.row.V.Denot → Type 0 = λ p. IfOk c.new-in-LeftmostLongest.result (λ rows. IfSome rows (HasRows p)) in
      subst P c.leftmost-view.ensures c.new-in-LeftmostLongest.ensures.right;
  covered =
      let P : Parts g.row.V.Denot → Type 0 = λ p. IfOk c.new-in-LeftmostLongest.result (λ rows. IfSome rows (CoversNear p)) in
      subst P c.leftmost-view.ensures c.new-in-LeftmostLongest.ensures.covered;
  stays = stays c.args.self.now _ c.leftmost-view.ensures c.new-in-LeftmostLongest.result _ _ c.as_slice-in-LeftmostLongest.ensures.value
      c.in_ok-bytes.ensures.few c.new-in-LeftmostLongest.ensures.closed;
  none = no_room c.args.self.now _ c.leftmost-view.ensures c.new-in-LeftmostLongest.result _ _ c.in_ok-bytes.bytes.items
      c.as_slice-in-LeftmostLongest.ensures.value c.in_ok-bytes.ensures.few c.num_elements-count.ensures.all
      c.new-in-LeftmostLongest.ensures.none;
}
