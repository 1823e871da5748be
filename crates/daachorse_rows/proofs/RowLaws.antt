-- What the slots tell: the state of a cell, and the end of a step from it.
use Rattle.std.proofs.Common.{◌≡◌, ◌≢◌, ℕ, zero, suc, ◌+◌, ◌*◌, ◌-◌, ◌%◌, ◌^◌, ◌<◌, ◌≤◌, inl, inr, List, [], ◌∷◌, length, refl, sym, ap}
use Rattle.std.proofs.Common.{◌∙◌, subst, arith}
use Rattle.std.specs.Prelude.{slice_index, Option, None}
use Rattle.std.specs.declared.num.NonZeroU32.{NonZeroU32}
use Rattle.std.proofs.lemmas.Nat.{mul-le}
use Rattle.daachorse_core.specs.Looks.{StepEnds}
use Rattle.daachorse_core.specs.declared.turns.Look.TheVariants.{Next, Fail}
use Rattle.daachorse_search.specs.Views.{AutomatonView, HasFirst, SeesLook, Steps}
use Rattle.daachorse_rows.specs.Rows.{state_at, RowTable, IsCell, IsSlotEntry, SharesText, StandsFor, AreClosed, AreRows, StepLeads}
use Rattle.daachorse_rows.specs.Rows.{over_rows}

-- a row is as long as it is wide
pub next_row : (k w : ℕ) → (k + 1) * w ≡ k * w + w
next_row k w = omega arith

-- a slot of a row is before the end of the rows
pub row_below : (k n w c : ℕ) → k < n → c < 2 * w → 2 * (k * w) + c < 2 * (n * w)
row_below k n w c less narrow = omega (arith, narrow, next_row k w, mul-le (k + 1) w n w (omega (arith, less)) (omega arith))

-- within the rows it is what is written there
pub state_at-slot : (top : List ℕ) (x : ℕ) → 2 * x + 1 < length top
    → slice_index top (2 * x) + 65536 * slice_index top (2 * x + 1) ≡ state_at top x
state_at-slot [] x h = absurd (omega arith)
state_at-slot (low ∷ []) x h = absurd (omega arith)
state_at-slot (low ∷ high ∷ top) zero h = refl
state_at-slot (low ∷ high ∷ top) (suc x) h =
    let first : 2 * suc x ≡ suc (suc (2 * x)) = omega arith in
    let second : 2 * suc x + 1 ≡ suc (suc (2 * x + 1)) = omega arith in
    let a : slice_index (low ∷ high ∷ top) (2 * suc x) ≡ slice_index top (2 * x) = ap (slice_index (low ∷ high ∷ top)) first in
    let b : slice_index (low ∷ high ∷ top) (2 * suc x + 1) ≡ slice_index top (2 * x + 1) = ap (slice_index (low ∷ high ∷ top)) second in
    let e : slice_index (low ∷ high ∷ top) (2 * suc x) + 65536 * slice_index (low ∷ high ∷ top) (2 * suc x + 1) ≡ slice_index top
    (2 * x) + 65536 * slice_index top (2 * x + 1) = omega (arith, a, b) in
    e ∙ state_at-slot top x (omega arith)

-- behind them the states stand in order
pub state_at-behind : (top : List ℕ) (end s : ℕ) → length top ≡ 2 * end → state_at top (end + s) ≡ s
state_at-behind [] end s size = omega arith
state_at-behind (low ∷ []) end s size = absurd (omega arith)
state_at-behind (low ∷ high ∷ top) zero s size = absurd (omega arith)
state_at-behind (low ∷ high ∷ top) (suc end) s size = let e : suc end + s ≡ suc (end + s) = omega arith in
    ap (state_at (low ∷ high ∷ top)) e ∙ state_at-behind top end s (omega arith)

pub state_at-past : (top : List ℕ) (end x : ℕ) → length top ≡ 2 * end → end ≤ x → x - end ≡ state_at top x
state_at-past top end x size h = let e : x ≡ end + (x - end) = omega arith in
    sym (ap (state_at top) e ∙ state_at-behind top end (x - end) size)

pub cell_behind : (r : RowTable) (s : ℕ) → length r.top ≡ 2 * (r.count * r.width) → StandsFor r (r.count * r.width + s) s
cell_behind r s size = record { cell = inr (omega arith); state = state_at-behind r.top (r.count * r.width) s size }

-- the sum of the two fits
pub cell_past : (r : RowTable) (s x : ℕ) → length r.top ≡ 2 * (r.count * r.width) → x ≡ (r.count * r.width + s) % 2 ^ 32
    → r.count * r.width + s < 2 ^ 32 → StandsFor r x s
cell_past r s x size is fits =
    let e : r.count * r.width + s ≡ x = omega (arith, is, fits) in let P : ℕ → Type 0 = λ y. StandsFor r y s in
    subst P e (cell_behind r s size)

module _ {V : Type 0} (unit_width : ℕ → ℕ) (view : AutomatonView V) (stands : ℕ → ℕ → Type 0) (most : ℕ) (r : RowTable)
    (h : AreRows unit_width view stands r) where
  abbrev rowed : AutomatonView V
  rowed = over_rows most view stands r

  -- the cell of a state that has a row
  pub cell_home : (s : ℕ) → s < length r.homes → slice_index r.homes s ≢ 65535 → StandsFor r (slice_index r.homes s * r.width) s
  cell_home s within some =
      let home = h.homes s within some in
      record { cell = inl (slice_index r.homes s, home.0, refl); state = home.1 }

  -- a slot of a row
  pub slot_inside : (x label : ℕ) → IsCell r x → x < r.count * r.width → label < 638 → 2 * x + slice_index r.classes label < length r.top
  slot_inside x label (inr behind) within byte = absurd (omega arith)
  slot_inside x label (inl (k, less, is)) within byte =
      omega (arith, row_below k r.count r.width (slice_index r.classes label) less (h.inside label byte), h.size, is)

  -- the step by a label from the state of a row
  pub record IsRowStep (x label entry : ℕ) : Type 0 where
    pub state : ℕ
    pub tells : IsSlotEntry (r.count * r.width) (λ y. StandsFor r y state) (HasFirst unit_width view state None) entry
    pub leads : StepLeads view stands (state_at r.top x) label state

  pub row_step : (x label : ℕ) → IsCell r x → x < r.count * r.width → label < 638
      → slice_index r.top (2 * x + slice_index r.classes label) ≢ 65535
      → IsRowStep x label (slice_index r.top (2 * x + slice_index r.classes label))
  row_step x label (inr behind) within byte some = absurd (omega arith)
  row_step x label (inl (k, less, is)) within byte some =
      let class = slice_index r.classes label in
      let same : slice_index r.top (2 * (k * r.width) + class) ≡ slice_index r.top (2 * x + class) =
      ap (λ n. slice_index r.top (2 * n + class)) (sym is) in
      let row = h.right k label less byte in
      let P : ℕ → Type 0 = λ e. IsSlotEntry (r.count * r.width) (λ y. StandsFor r y row.0) (HasFirst unit_width view row.0 None) e in
      let here : state_at r.top (k * r.width) ≡ state_at r.top x = ap (state_at r.top) (sym is) in
      let Q : ℕ → Type 0 = λ s. StepLeads view stands s label row.0 in
      record {
        state = row.0;
        tells = elim row.2 [ inl outside ↦ absurd (some (sym same ∙ outside.0)) | inr told ↦ subst P same told ];
        leads = subst Q here row.1;
      }

  -- a look at the row x by a label, where the slot tells the end of the step
  module _ (x label entry : ℕ) (cell : IsCell r x) (within : x < r.count * r.width) (byte : label < 638)
      (is : entry ≡ slice_index r.top (2 * x + slice_index r.classes label)) (some : entry ≢ 65535) where
    step : IsRowStep x label entry
    step = let P : ℕ → Type 0 = λ e. IsRowStep x label e in subst P (sym is) (row_step x label cell within byte (λ none. some (is ∙ none)))

    -- an even entry is the cell of a state with no output
    quiet : entry % 2 ≡ 0 → StandsFor r entry step.state × HasFirst unit_width view step.state None × (entry < r.count * r.width)
    quiet even = elim step.tells.is [
      | inl low ↦ let P : ℕ → Type 0 = λ y. StandsFor r y step.state in
          (subst P (sym low.0) step.tells.stands_for, low.1, omega (arith, low.0, step.tells.inside))
      | inr high ↦ absurd (omega (arith, high, step.tells.even.1, even))
    ]

    -- an odd one is the cell of its state, and 1
    loud : entry % 2 ≢ 0 → StandsFor r (entry - 1) step.state × (entry - 1 < r.count * r.width)
    loud odd = elim step.tells.is [
      | inl low ↦ absurd (odd (omega (arith, low.0, step.tells.even.1)))
      | inr high ↦
          let P : ℕ → Type 0 = λ y. StandsFor r y step.state in
          let same : step.tells.cell ≡ entry - 1 = omega (arith, high) in
          (subst P same step.tells.stands_for, omega (arith, high, step.tells.inside))
    ]

    reached_step : (y : ℕ) → StandsFor r y step.state → y < r.count * r.width → rowed.reached y
    reached_step y there inside = let P : ℕ → Type 0 = λ s. view.reached s in
        (there.cell, subst P (sym there.state) step.leads.is_state, λ closed. inside)

    look_step : (y : ℕ) → StandsFor r y step.state → y < r.count * r.width → (unit : ℕ) → stands label unit → rowed.reached y
        × Steps rowed x unit y
    look_step y there inside unit coded =
        let P : ℕ → Type 0 = λ s. Steps view (state_at r.top x) unit s in
        (reached_step y there inside, subst P (sym there.state) (step.leads.ends unit coded))

    pub look_quiet : entry % 2 ≡ 0 → (unit : ℕ) → stands label unit → rowed.reached entry × Steps rowed x unit entry
    look_quiet even = look_step entry (quiet even).0 (quiet even).2

    pub output_quiet : entry % 2 ≡ 0 → HasFirst unit_width rowed entry None
    output_quiet even = let P : ℕ → Type 0 = λ s. HasFirst unit_width view s None in subst P (sym (quiet even).0.state) (quiet even).1

    pub reached_loud : entry % 2 ≢ 0 → rowed.reached (entry - 1)
    reached_loud odd = reached_step (entry - 1) (loud odd).0 (loud odd).1

    pub look_loud : entry % 2 ≢ 0 → (unit : ℕ) → stands label unit → rowed.reached (entry - 1) × Steps rowed x unit (entry - 1)
    look_loud odd = look_step (entry - 1) (loud odd).0 (loud odd).1

  -- where the rows are closed, no slot of a row leads out of them
  pub never_outside : (x label : ℕ) → IsCell r x → x < r.count * r.width → label < 638 → AreClosed most stands r
      → slice_index r.top (2 * x + slice_index r.classes label) ≢ 65535
  never_outside x label (inr behind) within byte closed = absurd (omega arith)
  never_outside x label (inl (k, less, is)) within byte closed =
      λ none. closed.stays k label less byte (ap (λ n. slice_index r.top (2 * n + slice_index r.classes label)) (sym is) ∙ none)

  -- the root's cell has the root's text
  pub shares_root : (s : ℕ) → view.text s ≡ [] → SharesText view r r.root s
  shares_root s empty =
      let top = h.root_state in
      let P : ℕ → Type 0 = λ x. view.reached x in
      record { is_cell = top.1.cell; is_state = subst P (sym top.1.state) top.2; same = ap view.text top.1.state ∙ (top.3 ∙ sym empty) }

pub shares_state : {V : Type 0} (view : AutomatonView V) (r : RowTable) (x s : ℕ) → StandsFor r x s → view.reached s → SharesText view r x s
shares_state view r x s there here = let P : ℕ → Type 0 = λ y. view.reached y in
    record { is_cell = there.cell; is_state = subst P (sym there.state) here; same = ap view.text there.state }

module _ {V : Type 0} (view : AutomatonView V) (stands : ℕ → ℕ → Type 0) (most : ℕ) (r : RowTable) (from unit s x : ℕ)
    (closed : AreClosed most stands r → x < r.count * r.width) where
  -- a look below the rows tells what the automaton's own tells, in cells
  pub look_below : (o : Option NonZeroU32) → SharesText view r x s → SeesLook view (state_at r.top from) unit (Next s o)
      → SeesLook (over_rows most view stands r) from unit (Next x o)
  look_below o shares look =
      let P : List ℕ → Type 0 = λ t. StepEnds view.content view.dead (view.text (state_at r.top from)) unit t in
      ((shares.is_cell, shares.is_state, closed), subst P (sym shares.same) look.1)

  pub look_link : StandsFor r x s → SeesLook view (state_at r.top from) unit (Fail s)
      → SeesLook (over_rows most view stands r) from unit (Fail x)
  look_link cell look =
      let P : ℕ → Type 0 = λ y. SeesLook view (state_at r.top from) unit (Fail y) in
      let there = subst P (sym cell.state) look in
      ((cell.cell, there.0, closed), there.1, there.2, there.3)
