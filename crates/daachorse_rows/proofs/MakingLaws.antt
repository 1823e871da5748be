-- Rows as they are made: one slot after the other, and one state after the other.
use Rattle.std.proofs.Common.{◌≡◌, ◌≢◌, ℕ, zero, suc, ◌+◌, ◌*◌, ◌/◌, ◌<◌, ◌≤◌, ◌^◌, ◌⊎◌, inl, inr, List, [], ◌∷◌, ◌++◌, length, refl, sym}
use Rattle.std.proofs.Common.{ap, ◌∙◌, subst, arith, length-append, map, get_or}
use Rattle.std.specs.Prelude.{slice_index, slice_set, Option, None}
use Rattle.std.specs.declared.num.NonZeroU32.{NonZeroU32}
use Rattle.std.proofs.Math.Seq.{get_or-append_seam}
use Rattle.std.proofs.Math.Nat.{div-mul-le_self, le-div_iff_mul-le, mul_assoc}
use Rattle.std.proofs.lemmas.Nat.{mul-add-lt, mul-le}
use Rattle.std.proofs.lemmas.Bool.{cases_eq}
use Rattle.std.proofs.lemmas.List.{get_or_append_left, get_or-map, get_or-set_same, get_or-set_other, length-map, length-set}
use Rattle.daachorse_core.specs.Looks.{IsForeign}
use Rattle.daachorse_model.proofs.Steps.{IsLong-same}
use Rattle.daachorse_model.proofs.Lists.{below_or_at}
use Rattle.daachorse_search.specs.Views.{HasFirst}
use Rattle.daachorse_search.proofs.LookLaws.{StepEnds-long}
use Rattle.daachorse_rows.specs.Rows.{state_at, RowTable, IsChoice, IsSlotEntry, StandsFor, IsSlotOf, AreSlots, StepLeads, AreLabelled}
use Rattle.daachorse_rows.specs.Rows.{AreRows, Labelled, Leads, Stands, StepsAs, AreChosen, AreClosed, AreStepped, ClosesOrFills, Covers}
use Rattle.daachorse_rows.specs.Rows.{HaveRows, IsEntry, IsSlot, AreWritten, MayClose, TellsStep, most_rows, row_cells, stands_by}
use Rattle.daachorse_rows.proofs.RowLaws.{cell_behind, row_below, state_at-slot}

-- what is read of a list to which one item was added
pub read-old : (xs ys : List ℕ) (v i : ℕ) → ys ≡ xs ++ v ∷ [] → i < length xs → slice_index ys i ≡ slice_index xs i
read-old xs ys v i is below = ap (λ l. slice_index l i) is ∙ get_or_append_left xs (v ∷ []) 0 i below

pub read-new : (xs ys : List ℕ) (v i : ℕ) → ys ≡ xs ++ v ∷ [] → i ≡ length xs → slice_index ys i ≡ v
read-new xs ys v i is at = ap (λ l. slice_index l i) is ∙ (ap (λ n. slice_index (xs ++ v ∷ []) n) at ∙ get_or-append_seam xs v [] 0)

-- ---- labels and their numbers

module _ {L : Type 0} (number : L → ℕ) where
  -- the number of a label that was read
  pub number_read : (labels : List L) (k : ℕ) (label : L) → k < length labels → label ≡ get_or labels k label
      → slice_index (map number labels) k ≡ number label
  number_read labels k label less is = get_or-map number labels k label 0 less ∙ ap number (sym is)

  -- what stands by its number, it stands for
  pub stands_read : (exact : (a b : L) → number a ≡ number b → a ≡ b) (stands : L → ℕ → Type 0) (labels : List L) (k : ℕ) (other : L)
      → k < length (map number labels)
      → (unit : ℕ) → stands_by number stands (slice_index (map number labels) k) unit → stands (get_or labels k other) unit
  stands_read exact stands labels k other less unit (label, named, coded) =
      let P : L → Type 0 = λ l. stands l unit in
      subst P (exact label (get_or labels k other)
      (named ∙ get_or-map number labels k other 0 (omega (arith, less, length-map labels number)))) coded

-- ---- the slots of labels

pub AreSlots-more : (labels : List ℕ) (n : ℕ) (xs ys : List ℕ) (v : ℕ) → AreSlots labels n xs → ys ≡ xs ++ v ∷ [] → IsSlotOf labels n v
    → AreSlots labels (n + 1) ys
AreSlots-more labels n xs ys v so_far is slot = record {
  size = omega (arith, so_far.size, ap length is, length-append xs (v ∷ []));
  right = λ label below.
      elim (below_or_at label n below) [
        | inl less ↦
            let P : ℕ → Type 0 = λ s. IsSlotOf labels label s in
            subst P (sym (read-old xs ys v label is (omega (arith, so_far.size)))) (so_far.right label less)
        | inr same ↦
            let P : ℕ → Type 0 = λ s. IsSlotOf labels label s in
            let Q : ℕ → Type 0 = λ l. IsSlotOf labels l v in
            subst P (sym (read-new xs ys v label is (omega (arith, so_far.size)))) (subst Q (sym same) slot)
      ];
}

slot_inside : (labels : List ℕ) (label slot : ℕ) → IsSlotOf labels label slot → slot < length labels + 3
slot_inside labels label slot (inl (k, below, at, is)) = omega (arith, is, below)
slot_inside labels label slot (inr (is, none)) = omega (arith, is)

-- there is room for it in a row
slot_fits : (labels : List ℕ) (label slot width : ℕ) → width ≡ row_cells (length labels) → IsSlotOf labels label slot → slot < 2 * width
slot_fits labels label slot width is at = omega (arith, is, slot_inside labels label slot at)

-- a slot is behind the state's
slot_some : (labels : List ℕ) (label slot : ℕ) → IsSlotOf labels label slot → (c : ℕ) × (slot ≡ suc (suc c))
slot_some labels label slot (inl (k, below, at, is)) = (suc k, omega (arith, is))
slot_some labels label slot (inr (is, none)) = (0, omega (arith, is))

-- ---- entries

pub IsSlotEntry-map : (end : ℕ) (P Q : ℕ → Type 0) (A B : Type 0) (entry : ℕ) → IsSlotEntry end P A entry → ((x : ℕ) → P x → Q x) → (A → B)
    → IsSlotEntry end Q B entry
IsSlotEntry-map end P Q A B entry h there quiet = record {
  cell = h.cell;
  stands_for = there h.cell h.stands_for;
  inside = h.inside;
  even = h.even;
  is = elim h.is [ inl low ↦ inl (low.0, quiet low.1) | inr high ↦ inr high ];
}

-- a row begins at an even cell
pub even_cell : (k width half : ℕ) → width ≡ half * 2 → (h : ℕ) × (k * width ≡ h * 2)
even_cell k width half is = (k * half, ap (λ n. k * n) is ∙ sym (mul_assoc k half 2))

-- ---- the states of the rows

pub fits_rows : (n w : ℕ) → n ≤ 63168 / w → n * w ≤ 63168
fits_rows n w few = omega (arith, mul-le n w (63168 / w) w few (omega arith), div-mul-le_self 63168 w)

-- there is room for a row, and for no more than its table may tell
pub most_fits : {V : Type 0} (seen : Labelled V) → AreLabelled seen → (0 < most_rows seen) × (most_rows seen < 65535)
most_fits seen named =
    let wide : 1 ≤ seen.width = omega (arith, named.width) in
    let fits : 1 * seen.width ≤ 63168 = omega (arith, named.width, named.few) in (
      (le-div_iff_mul-le wide).1 fits,
      omega (arith, div-mul-le_self 63168 seen.width, mul-le (63168 / seen.width) 1 (63168 / seen.width) seen.width (omega arith) wide),
    )

pub HaveRows-chosen : {V : Type 0} (seen : Labelled V) (order homes : List ℕ) → AreLabelled seen → AreChosen seen order homes
    → HaveRows order homes seen.width
HaveRows-chosen seen order homes named chosen = record {
  homes = chosen.homes;
  own = chosen.own;
  few = fits_rows (length order) seen.width chosen.few;
  wide = omega (arith, named.width);
  even = ((length seen.labels + 6) / 4, named.width);
}

-- a state has a row where its cell is before the end of the rows, and its slot holds that cell
pub IsEntry-outside : (order : List ℕ) (width x s : ℕ) (quiet : Type 0) → Stands order width x s → 0 < width → length order * width ≤ x
    → IsEntry order width s quiet 65535
IsEntry-outside order width x s quiet (inl (k, below, is, at)) wide behind =
    absurd (omega (arith, is, behind, mul-add-lt k width 0 (length order) below wide))
IsEntry-outside order width x s quiet (inr (is, none)) wide behind = inl (refl, none)

pub IsEntry-inside : (order homes : List ℕ) (width x s v : ℕ) (quiet : Type 0) → HaveRows order homes width → Stands order width x s
    → x < length order * width → ((v ≡ x) × quiet) ⊎ (v ≡ x + 1) → IsEntry order width s quiet v
IsEntry-inside order homes width x s v quiet rows cell before is =
    inr (record { cell = x; stands_for = cell; inside = before; even = even cell; is = is })
  where
    even : Stands order width x s → (h : ℕ) × (x ≡ h * 2)
    even (inl (k, below, at, state)) = let h = even_cell k width rows.even.0 rows.even.1 in (h.0, at ∙ h.1)
    even (inr (at, none)) = absurd (omega (arith, at, before))

module _ {V : Type 0} (seen : Labelled V) (order homes : List ℕ) where
  -- there are none yet
  pub AreChosen-none : order ≡ [] → ((s : ℕ) → s < length homes → slice_index homes s ≡ 65535) → most_rows seen < 65535
      → ((s : ℕ) → seen.view.reached s → (s < length homes) × (s + 65536 < 2 ^ 32)) → AreChosen seen order homes
  AreChosen-none none_chosen no_homes room small = record {
    states = λ k below. absurd (omega (arith, below, ap length none_chosen));
    homes = λ s below some. absurd (some (no_homes s below));
    own = λ k below. absurd (omega (arith, below, ap length none_chosen));
    few = omega (arith, ap length none_chosen);
    room = room;
    inside = λ s there. (small s there).0;
    fits = λ s there. (small s there).1;
  }

  module _ (h : AreChosen seen order homes) where
    -- one state more, whose row is the next
    pub AreChosen-more : (s : ℕ) (order' homes' : List ℕ) → order' ≡ order ++ s ∷ [] → homes' ≡ slice_set homes s (length order)
        → slice_index homes s ≡ 65535 → length order < most_rows seen → seen.view.reached s → AreChosen seen order' homes'
    AreChosen-more s order' homes' is at none less there = record {
      states = λ k below.
          elim (below_or_at k (length order) (count k below)) [
            | inl old ↦ let P : ℕ → Type 0 = λ x. seen.view.reached x in subst P (sym (read-old order order' s k is old)) (h.states k old)
            | inr new ↦ let P : ℕ → Type 0 = λ x. seen.view.reached x in subst P (sym (read-new order order' s k is new)) there
          ];
      homes = λ q below some.
          elim (cases_eq q s) [
            | inl same ↦
                let home : slice_index homes' q ≡ length order = ap (slice_index homes') same ∙ own_home in
                (omega (arith, home, size), read-new order order' s (slice_index homes' q) is home ∙ sym same)
            | inr other ↦
                let old : slice_index homes' q ≡ slice_index homes q = other_home q other in
                let home = h.homes q (omega (arith, below, ap length at, length-set homes s (length order))) (λ e. some (old ∙ e)) in (
                  omega (arith, old, home.0, size),
                  ap (slice_index order') old
                      ∙ (read-old order order' s (slice_index homes q) is home.0 ∙ home.1),
                )
          ];
      own = λ k below.
          elim (below_or_at k (length order) (count k below)) [
            | inl old ↦
                let kept = h.own k old in let here = read-old order order' s k is old in (
                  omega (arith, kept.0, here, ap length at, length-set homes s (length order)),
                  ap (slice_index homes') here ∙ (other_home (slice_index order k) (taken k old) ∙ kept.1),
                  omega (arith, old, less, h.room),
                )
            | inr new ↦
                let here = read-new order order' s k is new in (
                  omega (arith, h.inside s there, here, ap length at, length-set homes s (length order)),
                  ap (slice_index homes') here
                      ∙ (own_home ∙ sym new),
                  omega (arith, new, less, h.room),
                )
          ];
      few = omega (arith, size, less);
      room = h.room;
      inside = λ q here. omega (arith, h.inside q here, ap length at, length-set homes s (length order));
      fits = h.fits;
    }
      where
        size : length order' ≡ length order + 1
        size = ap length is ∙ length-append order (s ∷ [])

        count : (k : ℕ) → k < length order' → k < length order + 1
        count k below = omega (arith, below, size)

        own_home : slice_index homes' s ≡ length order
        own_home = ap (λ l. slice_index l s) at ∙ get_or-set_same homes s (length order) 0 (h.inside s there)

        other_home : (q : ℕ) → q ≢ s → slice_index homes' q ≡ slice_index homes q
        other_home q other = ap (λ l. slice_index l q) at ∙ get_or-set_other homes s q (length order) 0 other

        taken : (k : ℕ) → k < length order → slice_index order k ≢ s
        taken k below same = omega (arith, none, ap (slice_index homes) same, (h.own k below).1, below, less, h.room)

-- ---- the slots of the rows

module _ {V : Type 0} (unit_width : ℕ → ℕ) (seen : Labelled V) (order : List ℕ) where
  abbrev Slot : ℕ → ℕ → ℕ → Type 0
  Slot k c v = IsSlot unit_width seen order k c v

  abbrev Written : ℕ → ℕ → List ℕ → Type 0
  Written k c top = AreWritten unit_width seen order k c top

  pub AreWritten-none : (top : List ℕ) → top ≡ [] → Written 0 0 top
  AreWritten-none top none = record {
    size = omega (arith, ap length none);
    rows = λ k c above within. absurd (omega (arith, above));
    row = λ c below. absurd (omega (arith, below));
  }

  -- one slot more
  pub AreWritten-push : (k c d v : ℕ) (top top' : List ℕ) → Written k c top → top' ≡ top ++ v ∷ [] → Slot k c v → d ≡ c + 1
      → Written k d top'
  AreWritten-push k c d v top top' h is slot next = record {
    size = omega (arith, h.size, next, ap length is, length-append top (v ∷ []));
    rows = λ k' c' above within.
        let P : ℕ → Type 0 = λ x. Slot k' c' x in
        subst P (sym (read-old top top' v (2 * (k' * seen.width) + c') is
        (omega (arith, h.size, row_below k' k seen.width c' above within)))) (h.rows k' c' above within);
    row = λ c' below.
        let P : ℕ → Type 0 = λ x. Slot k c' x in
        elim (below_or_at c' c (omega (arith, below, next))) [
          | inl old ↦ subst P (sym (read-old top top' v (2 * (k * seen.width) + c') is (omega (arith, old, h.size)))) (h.row c' old)
          | inr new ↦
              let Q : ℕ → Type 0 = λ x. Slot k x v in
              subst P (sym (read-new top top' v (2 * (k * seen.width) + c') is (omega (arith, new, h.size)))) (subst Q (sym new) slot)
        ];
  }

  -- a whole row: behind the slots of its labels nothing is told
  pub AreWritten-next : (k c : ℕ) (top top' : List ℕ) → Written k c top → seen.width ≡ row_cells (length seen.labels)
      → c ≡ 3 + length seen.labels → length top' ≡ 2 * ((k + 1) * seen.width)
      → ((i : ℕ) → i < length top → slice_index top' i ≡ slice_index top i) → Written (k + 1) 0 top'
  AreWritten-next k c top top' h is all size same = record {
    size = omega (arith, size);
    rows = λ k' c' above within.
        elim (below_or_at k' k above) [
          | inl old ↦
              let P : ℕ → Type 0 = λ x. Slot k' c' x in
              subst P (sym (same (2 * (k' * seen.width) + c') (omega (arith, h.size, row_below k' k seen.width c' old within))))
              (h.rows k' c' old within)
          | inr new ↦ let P : ℕ → Type 0 = λ x. Slot x c' (slice_index top' (2 * (x * seen.width) + c')) in subst P (sym new) (here c')
        ];
    row = λ c' below. absurd (omega (arith, below));
  }
    where
      here : (c' : ℕ) → Slot k c' (slice_index top' (2 * (k * seen.width) + c'))
      here zero = same (2 * (k * seen.width) + 0) (omega (arith, h.size, all)) ∙ h.row 0 (omega (arith, all))
      here (suc zero) = same (2 * (k * seen.width) + 1) (omega (arith, h.size, all)) ∙ h.row 1 (omega (arith, all))
      here (suc (suc c')) = λ label byte slot.
          let before : suc (suc c') < c = omega (arith, all, slot_inside seen.labels label (suc (suc c')) slot) in
          let P : ℕ → Type 0 = λ x. Slot k (suc (suc c')) x in
          subst P (sym (same (2 * (k * seen.width) + suc (suc c')) (omega (arith, h.size, before))))
          (h.row (suc (suc c')) before) label byte slot

  -- the entry of a state whose outputs begin at this position
  entry_first : (s v : ℕ) (o : Option NonZeroU32) → IsEntry order seen.width s (o ≡ None) v → HasFirst unit_width seen.view s o
      → IsEntry order seen.width s (HasFirst unit_width seen.view s None) v
  entry_first s v o (inl outside) at = inl outside
  entry_first s v o (inr entry) at =
      let P : Option NonZeroU32 → Type 0 = λ p. HasFirst unit_width seen.view s p in
      inr (IsSlotEntry-map (length order * seen.width) (λ x. Stands order seen.width x s) (λ x. Stands order seen.width x s) (o ≡ None)
      (HasFirst unit_width seen.view s None) v entry (λ x there. there) (λ none. subst P none at))

  module _ (named : AreLabelled seen) where
    foreign : (label unit : ℕ) → label < 638 → seen.stands label unit
        → ((k : ℕ) → k < length seen.labels → slice_index seen.labels k ≢ label) → IsForeign seen.view.content unit
    foreign label unit byte coded none = elim (named.labels.all label unit byte coded) [ inl f ↦ f | inr at ↦ absurd (none at.0 at.1 at.2) ]

    -- the labels that are not listed lead to the root
    pub slot_foreign : (k v s : ℕ) (o : Option NonZeroU32) → IsEntry order seen.width s (o ≡ None) v → HasFirst unit_width seen.view s o
        → seen.view.reached s → seen.view.text s ≡ [] → Slot k 2 v
    slot_foreign k v s o entry at there empty label byte slot = (s, entry_first s v o entry at, leads slot, λ _. empty)
      where
        leads : IsSlotOf seen.labels label 2 → StepLeads seen.view seen.stands (slice_index order k) label s
        leads (inl (j, below, here, is)) = absurd (omega (arith, is))
        leads (inr (is, none)) = record { is_state = there; ends = λ unit coded. inl (foreign label unit byte coded none, empty) }

  -- the slot of a listed label is that of no other
  slot_own : (j label : ℕ) → IsSlotOf seen.labels label (suc (suc (suc j))) → slice_index seen.labels j ≡ label
  slot_own j label (inl (i, below, here, is)) = let same : j ≡ i = omega (arith, is) in ap (slice_index seen.labels) same ∙ here
  slot_own j label (inr (is, none)) = absurd (omega (arith, is))

  -- a listed label leads to where the step ends
  pub slot_step : (k c j v t : ℕ) (o : Option NonZeroU32) → c ≡ 3 + j → IsEntry order seen.width t (o ≡ None) v
      → HasFirst unit_width seen.view t o → Leads seen (slice_index order k) j t → Slot k c v
  slot_step k c j v t o at entry told leads =
      let e : suc (suc (suc j)) ≡ c = omega (arith, at) in
      let P : ℕ → Type 0 = λ x. Slot k x v in
      let Q : ℕ → Type 0 = λ l. StepLeads seen.view seen.stands (slice_index order k) l t in
      subst P e (λ label byte slot. (
        t,
        entry_first t v o entry told,
        subst Q (slot_own j label slot) leads,
        λ two. absurd (omega (arith, two)),
      ))

  -- where a look tells a link, the step ends as from there, so that the slot of the link's row serves
  pub slot_link : (k j l c v : ℕ) → c ≡ 3 + l → Slot j c v → StepsAs seen (slice_index order k) l (slice_index order j) → Slot k c v
  slot_link k j l c v at slot on =
      let e : suc (suc (suc l)) ≡ c = omega (arith, at) in
      let P : ℕ → Type 0 = λ x. Slot k x v in
      let Q : ℕ → Type 0 = λ x. Slot j x v in
      let told_by : Slot j (suc (suc (suc l))) v = subst Q (sym e) slot in
      subst P e (λ label byte here.
      let told = told_by label byte here in
      let R : ℕ → ℕ → Type 0 = λ unit n. seen.stands n unit in (
        told.0,
        told.1,
        record {
          is_state = told.2.is_state;
          ends = λ unit coded.
              on unit told.0 (subst (R unit) (sym (slot_own l label here)) coded) (told.2.ends unit coded);
        },
        told.3,
      ))

module _ {V : Type 0} (unit_width : ℕ → ℕ) (seen : Labelled V) (table : RowTable) (order : List ℕ)
    (count_is : table.count ≡ length order) (named : AreLabelled seen)
    (w : AreWritten unit_width seen order (length order) 0 table.top) where
  abbrev r : RowTable
  r = record table { width = seen.width }

  wide : 0 < seen.width
  wide = omega (arith, named.width)

  at_start : (k : ℕ) → k < length order → state_at r.top (k * r.width) ≡ slice_index order k
  at_start k below =
      let e : 2 * (k * r.width) ≡ 2 * (k * r.width) + 0 = omega arith in
      let low = ap (slice_index r.top) e ∙ w.rows k 0 below (omega (arith, wide)) in
      let high = w.rows k 1 below (omega (arith, wide)) in
      let whole : slice_index r.top (2 * (k * r.width)) + 65536 * slice_index r.top (2 * (k * r.width) + 1) ≡ slice_index order k =
      omega (arith, low, high) in
      sym (state_at-slot r.top (k * r.width) (omega (arith, w.size, row_below k (length order) r.width 1 below (omega (arith, wide)))))
      ∙ whole

  stands_for : (x s : ℕ) → Stands order r.width x s → StandsFor r x s
  stands_for x s (inl (k, below, is, at)) = record {
    cell = inl (k, omega (arith, below, count_is), is);
    state = ap (state_at r.top) is ∙ (at_start k below ∙ at);
  }
  stands_for x s (inr (is, none)) =
      let e : r.count * r.width + s ≡ x = ap (λ n. n * r.width + s) count_is ∙ sym is in
      let P : ℕ → Type 0 = λ y. StandsFor r y s in
      subst P e (cell_behind r s whole_size)
    where
      whole_size : length r.top ≡ 2 * (r.count * r.width)
      whole_size = omega (arith, w.size, ap (λ n. n * r.width) count_is)

  end_is : length order * r.width ≡ r.count * r.width
  end_is = ap (λ n. n * r.width) (sym count_is)

  -- a state with a row is told by it
  row_cell : (x t : ℕ) → Stands order r.width x t → (k : ℕ) × (k < length order) × (slice_index order k ≡ t) → x < r.count * r.width
  row_cell x t (inl (k, below, is, at)) row = omega (arith, is, end_is, mul-add-lt k r.width 0 (length order) below wide)
  row_cell x t (inr (is, none)) row = absurd (none row.0 row.1 row.2)

  module _ (slots : AreSlots seen.labels 638 r.classes) (choice : IsChoice seen order r.homes)
      (s : ℕ) (cell : Stands order r.width r.root s) (there : seen.view.reached s) (empty : seen.view.text s ≡ []) where
    abbrev class : ℕ → ℕ
    class label = slice_index r.classes label

    abbrev slot : ℕ → ℕ → ℕ
    slot k label = slice_index r.top (2 * (k * r.width) + class label)

    few : length order * r.width ≤ 63168
    few = fits_rows (length order) seen.width choice.chosen.few

    tells : (k label : ℕ) → k < length order → label < 638 → TellsStep unit_width seen order k (class label) (slot k label) label
    tells k label more less = by (slot_some seen.labels label (class label) (slots.right label less))
      where
        by : (c : ℕ) × (class label ≡ suc (suc c)) → TellsStep unit_width seen order k (class label) (slot k label) label
        by (c, at) =
            let P : ℕ → Type 0 = λ x. IsSlot unit_width seen order k x (slice_index r.top (2 * (k * r.width) + x)) in
            let Q : ℕ → Type 0 = λ x. IsSlotOf seen.labels label x in
            let T : ℕ → Type 0 = λ x. TellsStep unit_width seen order k x (slice_index r.top (2 * (k * r.width) + x)) label in
            subst T (sym at) (subst P at (w.rows k (class label) more
            (slot_fits seen.labels label (class label) seen.width named.width (slots.right label less))) label less
            (subst Q at (slots.right label less)))

    are_rows : AreRows unit_width seen.view seen.stands r
    are_rows = record {
      size = omega (arith, w.size, end_is);
      few = omega (arith, end_is, few);
      wide = wide;
      classes_size = slots.size;
      inside = λ label less. slot_fits seen.labels label (class label) seen.width named.width (slots.right label less);
      right = λ k label more less.
          let row : k < length order = omega (arith, more, count_is) in
          let told = tells k label row less in
          let R : ℕ → Type 0 = λ x. StepLeads seen.view seen.stands x label told.0 in
          let E : ℕ → Type 0 = λ n. IsSlotEntry n (λ x. StandsFor r x told.0) (HasFirst unit_width seen.view told.0 None)
          (slot k label) in (
            told.0,
            subst R (sym (at_start k row)) told.2,
            elim told.1 [
              | inl outside ↦ inl (
                outside.0,
                λ j below same. let before : j < length order = omega (arith, below, count_is) in
                    outside.1 j before (sym (at_start j before) ∙ same),
              )
              | inr holds ↦ inr (subst E end_is
                  (IsSlotEntry-map (length order * r.width) (λ x. Stands order r.width x told.0) (λ x. StandsFor r x told.0)
                  (HasFirst unit_width seen.view told.0 None) (HasFirst unit_width seen.view told.0 None) _ holds
                  (λ x here. stands_for x told.0 here) (λ q. q)))
            ],
          );
      homes = λ t within some. let home = choice.chosen.homes t within some in
          (omega (arith, home.0, count_is), at_start (slice_index r.homes t) home.0 ∙ home.1);
      small = λ t here. omega (arith, end_is, few, choice.chosen.fits t here);
      root_state = (s, stands_for r.root s cell, there, empty);
    }

    -- where each step from a row ends in a row, the rows are closed
    are_closed : (most : ℕ) → AreStepped seen (length order) order → MayClose most seen.view seen.stands → AreClosed most seen.stands r
    are_closed most stepped may = record {
      slots = may.slots;
      root = row_cell r.root s cell (row_of_root s there empty);
      stays = λ k label more less. let row : k < length order = omega (arith, more, count_is) in
          in_row k label (tells k label row less).1 (row_of k label row less (slots.right label less));
    }
      where
        row_of_root : (t : ℕ) → seen.view.reached t → seen.view.text t ≡ [] → (k : ℕ) × (k < length order) × (slice_index order k ≡ t)
        row_of_root t here none = (
          0,
          stepped.root.0,
          may.single (slice_index order 0) t (choice.chosen.states 0 stepped.root.0) here
              (stepped.root.1 ∙ sym none),
        )

        in_row : (k label : ℕ) {t : ℕ} → IsEntry order r.width t (HasFirst unit_width seen.view t None) (slot k label) → (j : ℕ)
            × (j < length order) × (slice_index order j ≡ t) → slot k label ≢ 65535
        in_row k label (inl outside) row = absurd (outside.1 row.0 row.1 row.2)
        in_row k label (inr holds) row =
            λ none. elim holds.is [
              | inl low ↦ omega (arith, low.0, holds.inside, few, none)
              | inr high ↦
                  omega (arith, high, holds.inside, few, none)
            ]

        row_of : (k label : ℕ) (more : k < length order) (less : label < 638) → IsSlotOf seen.labels label (class label) → (j : ℕ)
            × (j < length order) × (slice_index order j ≡ (tells k label more less).0)
        row_of k label more less (inr (two, none)) = let told = tells k label more less in row_of_root told.0 told.2.is_state (told.3 two)
        row_of k label more less (inl (j, below, here, at)) =
            let told = tells k label more less in
            let some = named.labels.none_idle j below in
            let row = stepped.ends k j more below in
            let U : ℕ → Type 0 = λ l. seen.stands l some.0 in
            let text : List ℕ = seen.view.text (slice_index order k) in
            let own = StepEnds-long seen.view text (seen.view.text told.0) some.0 (told.2.ends some.0 (subst U here some.1)) may.alive in
            let other = StepEnds-long seen.view text (seen.view.text (slice_index order row.0)) some.0 (row.2 some.0 some.1) may.alive in (
              row.0,
              row.1,
              may.single (slice_index order row.0) told.0 (choice.chosen.states row.0 row.1) told.2.is_state
                  (IsLong-same seen.view.content (text ++ some.0 ∷ []) (seen.view.text (slice_index order row.0))
                  (seen.view.text told.0) other own),
            )

    -- the rows are right, cover what the choice covers, and are closed where each step from a chosen state ends at one
    pub Rows-made : (most : ℕ) → AreRows unit_width seen.view seen.stands r × Covers seen.view seen.stands 2 r
        × (MayClose most seen.view seen.stands → ClosesOrFills most seen.view seen.stands (most_rows seen) r)
    Rows-made most = (
      are_rows,
      λ v begins shallow. let row = choice.covered v begins shallow in
          (row.0, omega (arith, row.1, count_is), ap seen.view.text (at_start row.0 row.1) ∙ row.2),
      λ may. elim choice.ends [ inl stepped ↦ inl (are_closed most stepped may) | inr many ↦ inr many ],
    )
