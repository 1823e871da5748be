-- The states near the root: where steps from them end, and that each has a row or there is no room.
use Rattle.std.proofs.Common.{◌≡◌, ◌≢◌, ℕ, zero, suc, ◌+◌, ◌*◌, ◌/◌, ◌<◌, ◌≤◌, ◌⊎◌, inl, inr, List, [], ◌∷◌, ◌++◌, length, refl, sym, ap}
use Rattle.std.proofs.Common.{◌∙◌, subst, arith, length-append}
use Rattle.std.specs.Prelude.{slice_index, slice_set}
use Rattle.std.specs.List.{All}
use Rattle.std.proofs.Math.Nat.{le-div_iff_mul-le}
use Rattle.std.proofs.lemmas.List.Elements.{All-append, All-cons, All-head, All-nil, All-tail}
use Rattle.daachorse_core.specs.Looks.{EndsAfter, StepEnds}
use Rattle.daachorse_model.specs.Dictionary.{Dictionary}
use Rattle.daachorse_model.specs.Prefixes.{IsPrefix, IsSuffix}
use Rattle.daachorse_model.proofs.Steps.{IsPrefix-less}
use Rattle.daachorse_model.proofs.Lists.{below_or_at, ends_in}
use Rattle.daachorse_search.specs.Views.{AutomatonView, Steps}
use Rattle.daachorse_rows.specs.Rows.{AreAdded, AreChosen, AreCovered, AreLabelled, AreNear, AreShallow, AreStepped, AreTooMany, EndsInRow}
use Rattle.daachorse_rows.specs.Rows.{GoesOn, HasSlot, IsShallow, Labelled, Leads, most_rows, row_cells}
use Rattle.daachorse_rows.proofs.MakingLaws.{AreChosen-more, read-new, read-old}

All-behind : {X : Type 0} (P : X → Type 0) (front back : List X) → All P (front ++ back) → All P back
All-behind P [] back h = h
All-behind P (x ∷ front) back h = All-behind P front back (All-tail P x (front ++ back) h)

All-before : {X : Type 0} (P : X → Type 0) (front back : List X) → All P (front ++ back) → All P front
All-before P [] back h = All-nil P
All-before P (x ∷ front) back h = All-cons P x front (All-head P x (front ++ back) h)
    (All-before P front back (All-tail P x (front ++ back) h))

module _ (stands : ℕ → ℕ → Type 0) where
  pub IsShallow-none : (n : ℕ) (w : List ℕ) → w ≡ [] → IsShallow stands n w
  IsShallow-none n w none = let P : List ℕ → Type 0 = λ l. IsShallow stands n l in
      subst P (sym none) (record { short = omega arith; slots = All-nil (HasSlot stands) })

  pub IsShallow-weaker : (n m : ℕ) (w : List ℕ) → n ≤ m → IsShallow stands n w → IsShallow stands m w
  IsShallow-weaker n m w less h = record { short = omega (arith, less, h.short); slots = h.slots }

  IsShallow-suffix : (n : ℕ) (s w : List ℕ) → IsSuffix s w → IsShallow stands n w → IsShallow stands n s
  IsShallow-suffix n s w (front, is) h = record {
    short = omega (arith, h.short, ap length is, length-append front s);
    slots = let P : List ℕ → Type 0 = λ l. All (HasSlot stands) l in All-behind (HasSlot stands) front s (subst P (sym is) h.slots);
  }

  IsShallow-push : (n : ℕ) (w : List ℕ) (u : ℕ) → IsShallow stands n w → HasSlot stands u → IsShallow stands (n + 1) (w ++ u ∷ [])
  IsShallow-push n w u h slot = record {
    short = omega (arith, h.short, length-append w (u ∷ []));
    slots = All-append (HasSlot stands) w (u ∷ []) h.slots (All-cons (HasSlot stands) u [] slot (All-nil (HasSlot stands)));
  }

  IsShallow-last : (n : ℕ) (w : List ℕ) (u : ℕ) → IsShallow stands (n + 1) (w ++ u ∷ []) → IsShallow stands n w × HasSlot stands u
  IsShallow-last n w u h = (
    record { short = omega (arith, h.short, length-append w (u ∷ [])); slots = All-before (HasSlot stands) w (u ∷ []) h.slots },
    All-head (HasSlot stands) u [] (All-behind (HasSlot stands) w (u ∷ []) h.slots),
  )

  module _ {V : Type 0} (K : Dictionary V) (dead : List ℕ → Type 0) where
    after_shallow : (k n : ℕ) (w t : List ℕ) (u : ℕ) → EndsAfter K dead k w u t → IsShallow stands n w → HasSlot stands u
        → IsShallow stands (n + 1) t
    after_shallow zero n w t u (inl on) h slot = let P : List ℕ → Type 0 = λ l. IsShallow stands (n + 1) l in
        subst P (sym on.1) (IsShallow-push n w u h slot)
    after_shallow zero n w t u (inr (stuck, ends, empty)) h slot = IsShallow-none (n + 1) t empty
    after_shallow (suc k) n w t u (stuck, live, (s, link, ends)) h slot =
        after_shallow k n s t u ends (IsShallow-suffix n s w link.ends h) slot

    -- where a step ends, there is at most one unit more
    pub StepEnds-shallow : (n : ℕ) (w t : List ℕ) (u : ℕ) → StepEnds K dead w u t → IsShallow stands n w → HasSlot stands u
        → IsShallow stands (n + 1) t
    StepEnds-shallow n w t u (inl foreign) h slot = IsShallow-none (n + 1) t foreign.1
    StepEnds-shallow n w t u (inr (k, ends)) h slot = after_shallow k n w t u ends h slot

module _ {V : Type 0} (K : Dictionary V) (dead : List ℕ → Type 0) where
  after_on : (k : ℕ) (w t : List ℕ) (u : ℕ) → EndsAfter K dead k w u t → IsPrefix K (w ++ u ∷ []) → t ≡ w ++ u ∷ []
  after_on zero w t u (inl on) begins = on.1
  after_on zero w t u (inr (stuck, ends, empty)) begins = absurd (stuck begins)
  after_on (suc k) w t u (stuck, live, further) begins = absurd (stuck begins)

  -- a step goes on where that begins a key
  pub StepEnds-on : (w t : List ℕ) (u : ℕ) → StepEnds K dead w u t → IsPrefix K (w ++ u ∷ []) → t ≡ w ++ u ∷ []
  StepEnds-on w t u (inl foreign) begins = absurd (foreign.0 w begins)
  StepEnds-on w t u (inr (k, ends)) begins = after_on k w t u ends begins

-- ---- the rows go on

pub GoesOn-same : (order : List ℕ) → GoesOn order order
GoesOn-same order = record { more = omega arith; same = λ k below. refl }

pub GoesOn-through : (a b c : List ℕ) → GoesOn a b → GoesOn b c → GoesOn a c
GoesOn-through a b c p q = record {
  more = omega (arith, p.more, q.more);
  same = λ k below. q.same k (omega (arith, below, p.more)) ∙ p.same k below;
}

module _ (text : ℕ → List ℕ) (old new : List ℕ) (on : GoesOn old new) where
  -- a text that a row's state has it still has
  pub row_on : (w : List ℕ) → (k : ℕ) × (k < length old) × (text (slice_index old k) ≡ w) → (k : ℕ) × (k < length new)
      × (text (slice_index new k) ≡ w)
  row_on w (k, below, is) = (k, omega (arith, below, on.more), ap text (on.same k below) ∙ is)

module _ (order order' : List ℕ) (s : ℕ) (is : order' ≡ order ++ s ∷ []) where
  pub GoesOn-push : GoesOn order order'
  GoesOn-push = record {
    more = omega (arith, ap length is, length-append order (s ∷ []));
    same = λ k below. read-old order order' s k is below;
  }

  -- the state that was added has the last row
  pub row_last : (k : ℕ) × (k < length order') × (slice_index order' k ≡ s)
  row_last = (length order, omega (arith, ap length is, length-append order (s ∷ [])), read-new order order' s (length order) is refl)

  pub AreNear-push : {V : Type 0} (seen : Labelled V) (n m : ℕ) → AreNear seen n m order → IsShallow seen.stands (n + 1) (seen.view.text s)
      → AreNear seen n m order'
  AreNear-push seen n m near last =
      let size : length order' ≡ length order + 1 = omega (arith, ap length is, length-append order (s ∷ [])) in
      let old : (d k : ℕ) → k < length order → IsShallow seen.stands d (seen.view.text (slice_index order k))
      → IsShallow seen.stands d (seen.view.text (slice_index order' k)) =
      λ d k below here. (let P : ℕ → Type 0 = λ x. IsShallow seen.stands d (seen.view.text x) in
      subst P (sym (read-old order order' s k is below)) here) in
      record {
        inside = omega (arith, near.inside, size);
        first = λ k below. old n k (omega (arith, below, near.inside)) (near.first k below);
        all = λ k below. elim (below_or_at k (length order) (omega (arith, below, size))) [
          | inl before ↦ old (n + 1) k before (near.all k before)
          | inr new ↦ let P : ℕ → Type 0 = λ x. IsShallow seen.stands (n + 1) (seen.view.text x) in
              subst P (sym (read-new order order' s k is new)) last
        ];
      }

module _ {V : Type 0} (seen : Labelled V) where
  -- where a step ends in a row and goes on, that row's state has the text that goes on
  ended_on : (s k unit : ℕ) (order : List ℕ) → EndsInRow seen s k order → seen.stands (slice_index seen.labels k) unit
      → IsPrefix seen.view.content (seen.view.text s ++ unit ∷ []) → (j : ℕ) × (j < length order)
      × (seen.view.text (slice_index order j) ≡ seen.view.text s ++ unit ∷ [])
  ended_on s k unit order (j, below, ends) coded begins = (
    j,
    below,
    StepEnds-on seen.view.content seen.view.dead (seen.view.text s) (seen.view.text (slice_index order j)) unit
        (ends unit coded) begins,
  )

  -- with the ends of all steps the rows cover the texts with one unit more
  pub AreCovered-next : AreLabelled seen → (n : ℕ) (old new : List ℕ) → GoesOn old new → AreStepped seen (length old) new
      → AreCovered seen n old → AreCovered seen (n + 1) new
  AreCovered-next named n old new on stepped covered w begins shallow = by (ends_in w)
    where
      by : (w ≡ []) ⊎ ((v : List ℕ) × (u : ℕ) × (w ≡ v ++ u ∷ [])) → (k : ℕ) × (k < length new) × (seen.view.text (slice_index new k) ≡ w)
      by (inl none) = row_on seen.view.text old new on w (covered w begins (IsShallow-none seen.stands n w none))
      by (inr (v, u, is)) =
          let P : List ℕ → Type 0 = λ l. IsPrefix seen.view.content l in
          let Q : List ℕ → Type 0 = λ l. IsShallow seen.stands (n + 1) l in
          let last = IsShallow-last seen.stands n v u (subst Q is shallow) in
          let at = covered v (IsPrefix-less seen.view.content v (u ∷ []) (subst P is begins)) last.0 in
          let R : List ℕ → Type 0 = λ l. IsPrefix seen.view.content (l ++ u ∷ []) in
          let row : seen.view.text (slice_index new at.0) ≡ v = ap seen.view.text (on.same at.0 at.1) ∙ at.2 in
          let onward = subst R (sym row) (subst P is begins) in
          -- the labels that are not listed lead nowhere
          elim (named.labels.all last.1.0 u last.1.1 last.1.2) [
            | inl foreign ↦ absurd (foreign (seen.view.text (slice_index new at.0)) onward)
            | inr listed ↦
                let S : ℕ → Type 0 = λ l. seen.stands l u in
                let end = ended_on (slice_index new at.0) listed.0 u new (stepped.ends at.0 listed.0 at.1 listed.1)
                (subst S (sym listed.2) last.1.2) onward in
                (end.0, end.1, end.2 ∙ (ap (λ l. l ++ u ∷ []) row ∙ sym is))
          ]

  pub AreCovered-on : (n : ℕ) (old new : List ℕ) → GoesOn old new → AreCovered seen n old → AreCovered seen n new
  AreCovered-on n old new on covered w begins shallow = row_on seen.view.text old new on w (covered w begins shallow)

  -- the state at which the step ends has a row
  pub EndsInRow-row : (s k t : ℕ) → Leads seen s k t → (order : List ℕ) → (j : ℕ) × (j < length order) × (slice_index order j ≡ t)
      → EndsInRow seen s k order
  EndsInRow-row s k t leads order (j, below, is) =
      let P : ℕ → Type 0 = λ x. (unit : ℕ) → seen.stands (slice_index seen.labels k) unit → Steps seen.view s unit x in
      (j, below, subst P (sym is) leads.ends)

  pub AreStepped-none : (order : List ℕ) → (0 < length order) × (seen.view.text (slice_index order 0) ≡ []) → AreStepped seen 0 order
  AreStepped-none order root = record { root = root; ends = λ k j below. absurd (omega (arith, below)) }

  pub AreStepped-fewer : (n m : ℕ) (order : List ℕ) → n ≤ m → AreStepped seen m order → AreStepped seen n order
  AreStepped-fewer n m order fewer h = record { root = h.root; ends = λ k j below. h.ends k j (omega (arith, below, fewer)) }

  -- the steps by the first labels from the row i end in rows
  abbrev pub Row : ℕ → ℕ → List ℕ → Type 0
  Row i n order = (j : ℕ) → j < n → EndsInRow seen (slice_index order i) j order

  pub Row-none : (i : ℕ) (order : List ℕ) → Row i 0 order
  Row-none i order j below = absurd (omega (arith, below))

  -- the ends of the steps stay where they are
  pub Row-on : (i n : ℕ) (old new : List ℕ) → GoesOn old new → i < length old → Row i n old → Row i n new
  Row-on i n old new on inside h j below =
      let end = h j below in
      let P : ℕ → Type 0 = λ x. (unit : ℕ) → seen.stands (slice_index seen.labels j) unit → Steps seen.view (slice_index old i) unit x in
      let Q : ℕ → Type 0 = λ x. EndsInRow seen x j new in
      subst Q (sym (on.same i inside)) (end.0, omega (arith, end.1, on.more), subst P (sym (on.same end.0 end.1)) end.2)

  pub AreStepped-on : (n : ℕ) (old new : List ℕ) → GoesOn old new → n ≤ length old → AreStepped seen n old → AreStepped seen n new
  AreStepped-on n old new on inside h = record {
    root = (omega (arith, h.root.0, on.more), ap seen.view.text (on.same 0 h.root.0) ∙ h.root.1);
    ends = λ k j below low. Row-on k (length seen.labels) old new on (omega (arith, below, inside)) (λ i less. h.ends k i below less) j low;
  }

  pub Row-more : (i n : ℕ) (order : List ℕ) → Row i n order → EndsInRow seen (slice_index order i) n order → Row i (n + 1) order
  Row-more i n order h end j below = elim (below_or_at j n below) [
    | inl before ↦ h j before
    | inr same ↦ let P : ℕ → Type 0 = λ l. EndsInRow seen (slice_index order i) l order in subst P (sym same) end
  ]

  -- the ends of the steps from one row more
  pub AreStepped-more : (n : ℕ) (order : List ℕ) → AreStepped seen n order → Row n (length seen.labels) order
      → AreStepped seen (n + 1) order
  AreStepped-more n order h here = record {
    root = h.root;
    ends = λ k j below low. elim (below_or_at k n below) [
      | inl before ↦ h.ends k j before low
      | inr same ↦ let P : ℕ → Type 0 = λ i. EndsInRow seen (slice_index order i) j order in subst P (sym same) (here j low)
    ];
  }

  pub AreNear-all : (n : ℕ) (order : List ℕ) → AreShallow seen n order → AreNear seen n (length order) order
  AreNear-all n order shallow =
      record {
        inside = omega arith;
        first = shallow;
        all = λ k below.
            IsShallow-weaker seen.stands n (n + 1) (seen.view.text (slice_index order k)) (omega arith) (shallow k below);
      }

-- ---- there is no room

-- the states of the rows, and one more that has none, are too many
AreTooMany-full : {V : Type 0} (seen : Labelled V) (n : ℕ) (order homes : List ℕ) → AreChosen seen order homes → AreShallow seen n order
    → length order ≡ most_rows seen → (s : ℕ) → seen.view.reached s → IsShallow seen.stands n (seen.view.text s)
    → slice_index homes s ≡ 65535 → AreTooMany seen.view seen.stands n (most_rows seen)
AreTooMany-full seen n order homes chosen shallow full s there last none = record {
  states = s ∷ order;
  many = omega (arith, full);
  different = different;
  shallow = each;
}
  where
    fresh : (k : ℕ) → k < length order → s ≢ slice_index order k
    fresh k below same = omega (arith, none, ap (slice_index homes) same, (chosen.own k below).1, below, full, chosen.room)

    different : (i j : ℕ) → i < length (s ∷ order) → j < length (s ∷ order) → slice_index (s ∷ order) i ≡ slice_index (s ∷ order) j → i ≡ j
    different zero zero p q same = refl
    different zero (suc j) p q same = absurd (fresh j (omega (arith, q)) same)
    different (suc i) zero p q same = absurd (fresh i (omega (arith, p)) (sym same))
    different (suc i) (suc j) p q same =
        ap suc (sym (chosen.own i (omega (arith, p))).1 ∙ (ap (slice_index homes) same ∙ (chosen.own j (omega (arith, q))).1))

    each : (i : ℕ) → i < length (s ∷ order) → seen.view.reached (slice_index (s ∷ order) i)
        × IsShallow seen.stands n (seen.view.text (slice_index (s ∷ order) i))
    each zero p = (there, last)
    each (suc i) p = (chosen.states i (omega (arith, p)), shallow i (omega (arith, p)))

pub AreTooMany-weaker : {V : Type 0} (view : AutomatonView V) (stands : ℕ → ℕ → Type 0) (n m room least : ℕ) → n ≤ m → least ≤ room
    → AreTooMany view stands n room → AreTooMany view stands m least
AreTooMany-weaker view stands n m room least less fewer h = record {
  states = h.states;
  many = omega (arith, fewer, h.many);
  different = h.different;
  shallow = λ i below. ((h.shallow i below).0, IsShallow-weaker stands n m (view.text (slice_index h.states i)) less (h.shallow i below).1);
}

-- so many rows fit in any case
pub room_least : (labels least : ℕ) → least * row_cells labels ≤ 63168 → least ≤ 63168 / row_cells labels
room_least labels least fits = (le-div_iff_mul-le (omega arith)).1 fits

-- ---- rows are added

module _ {V : Type 0} (seen : Labelled V) where
  pub AreAdded-none : (n : ℕ) (order homes : List ℕ) → AreChosen seen order homes → AreAdded seen order order homes n
  AreAdded-none n order homes chosen = record { chosen = chosen; on = GoesOn-same order; near = λ d m less near. near }

  pub AreAdded-through : (n i j : ℕ) (old now new homes homes' : List ℕ) → i ≤ n → j ≤ n → AreAdded seen old now homes i
      → AreAdded seen now new homes' j → AreAdded seen old new homes' n
  AreAdded-through n i j old now new homes homes' p q first second = record {
    chosen = second.chosen;
    on = GoesOn-through old now new first.on second.on;
    near = λ d m less near. second.near d m (omega (arith, less, q)) (first.near d m (omega (arith, less, p)) near);
  }

  -- a step from the row `at` by the label k, which is listed, ends at a state that has no row
  module _ (named : AreLabelled seen) (at k : ℕ) (listed : k < length seen.labels) (old order homes : List ℕ)
      (added : AreAdded seen old order homes (at + 1))
      (next : ℕ) (leads : Leads seen (slice_index order at) k next) (none : slice_index homes next ≡ 65535) where
    -- its text has at most one unit more
    end_shallow : (d m : ℕ) → at < m → AreNear seen d m order → IsShallow seen.stands (d + 1) (seen.view.text next)
    end_shallow d m before near =
        let some = named.labels.none_idle k listed in
        StepEnds-shallow seen.stands seen.view.content seen.view.dead d (seen.view.text (slice_index order at)) (seen.view.text next) some.0
        (leads.ends some.0 some.1) (near.first at before) (slice_index seen.labels k, named.labels.below k listed, some.1)

    -- it gets the next row
    pub AreAdded-push : (order' homes' : List ℕ) → order' ≡ order ++ next ∷ [] → homes' ≡ slice_set homes next (length order)
        → length order < most_rows seen → AreAdded seen old order' homes' (at + 1)
    AreAdded-push order' homes' is set room = record {
      chosen = AreChosen-more seen order homes added.chosen next order' homes' is set none room leads.is_state;
      on = GoesOn-through old order order' added.on (GoesOn-push order order' next is);
      near = λ d m less near. let now = added.near d m less near in
          AreNear-push order order' next is seen d m now (end_shallow d m (omega (arith, less)) now);
    }

    pub Row-push : (order' : List ℕ) → order' ≡ order ++ next ∷ [] → at < length order → Row seen at k order → Row seen at (k + 1) order'
    Row-push order' is inside row =
        let on = GoesOn-push order order' next is in
        let P : ℕ → Type 0 = λ x. EndsInRow seen x k order' in
        Row-more seen at k order' (Row-on seen at k order order' on inside row)
        (subst P (sym (on.same at inside)) (EndsInRow-row seen (slice_index order at) k next leads order' (row_last order order' next is)))

    -- or there are too many
    pub AreTooMany-next : length order ≡ most_rows seen → (d m : ℕ) → at + 1 ≤ m → AreNear seen d m old
        → AreTooMany seen.view seen.stands (d + 1) (most_rows seen)
    AreTooMany-next full d m less near =
        let now = added.near d m less near in
        AreTooMany-full seen (d + 1) order homes added.chosen now.all full next leads.is_state
        (end_shallow d m (omega (arith, less)) now) none
