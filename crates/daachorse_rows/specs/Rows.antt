-- Rows of the states near the root: of each label where the step ends. A cell is two slots, and stands for a state: the first of a row,
-- in which the state is written, or behind all rows the states in order.
use Rattle.std.specs.Prelude.{◌≡◌, ◌≢◌, ◌⊎◌, ℕ, Bool, true, false, zero, suc, ◌+◌, ◌*◌, ◌/◌, ◌%◌, ◌<◌, ◌≤◌, ◌^◌, List, [], ◌∷◌, length}
use Rattle.std.specs.Prelude.{slice_index, None}
use Rattle.std.specs.List.{All}
use Rattle.daachorse_core.specs.Looks.{IsForeign}
use Rattle.daachorse_model.specs.Dictionary.{Dictionary}
use Rattle.daachorse_model.specs.Prefixes.{IsPrefix}
use Rattle.daachorse_search.specs.Views.{AutomatonView, HasFirst, IsStandard, Steps}

-- a number tells which label it is
pub exact_number : (a b : ℕ) → a ≡ b → a ≡ b
exact_number a b same = same

-- the label of the number n stands for the unit
abbrev pub stands_by : {L : Type 0} → (L → ℕ) → (L → ℕ → Type 0) → ℕ → ℕ → Type 0
stands_by {L} number stands n unit = (label : L) × (number label ≡ n) × stands label unit

-- the state that a cell stands for: two slots hold it, the first its lower half
abbrev pub state_at : List ℕ → ℕ → ℕ
state_at [] x = x
state_at (low ∷ []) x = x
state_at (low ∷ high ∷ top) zero = low + 65536 * high
state_at (low ∷ high ∷ top) (suc x) = state_at top x

-- how many cells a row has, of so many labels: slots for its state, for the labels that are not listed and for each that is,
-- up to an even number of cells
abbrev pub row_cells : ℕ → ℕ
row_cells labels = (labels + 6) / 4 * 2

-- the slot of each label, the slots, the row of each state, how many rows of how many cells there are, and the cell of the root
pub record RowTable : Type 0 where
  pub classes : List ℕ
  pub top : List ℕ
  pub homes : List ℕ
  pub count : ℕ
  pub width : ℕ
  pub root : ℕ

-- an automaton, and rows of some of its states
pub record Rowed (A : Type 0) : Type 0 where
  pub automaton : A
  pub rows : RowTable

module _ (r : RowTable) where
  -- a row begins there, or it is behind the rows
  abbrev pub IsCell : ℕ → Type 0
  IsCell x = ((k : ℕ) × (k < r.count) × (x ≡ k * r.width)) ⊎ (r.count * r.width ≤ x)

  -- it is a cell, and stands for the state
  pub record StandsFor (x s : ℕ) : Type 0 where
    pub cell : IsCell x
    pub state : state_at r.top x ≡ s

-- the cell stands for the state, or for another with the same text
pub record SharesText {V : Type 0} (view : AutomatonView V) (r : RowTable) (x s : ℕ) : Type 0 where
  pub is_cell : IsCell r x
  pub is_state : view.reached (state_at r.top x)
  pub same : view.text (state_at r.top x) ≡ view.text s

-- each label below `most` has a slot, the root has a row, and no slot leads out of the rows
pub record AreClosed (most : ℕ) (stands : ℕ → ℕ → Type 0) (r : RowTable) : Type 0 where
  pub slots : (label unit : ℕ) → label < most → stands label unit → label < 638
  pub root : r.root < r.count * r.width
  pub stays : (k label : ℕ) → k < r.count → label < 638 → slice_index r.top (2 * (k * r.width) + slice_index r.classes label) ≢ 65535

-- what a search sees over rows: cells stand for the states, and where the rows are closed, each look ends its step
abbrev pub over_rows : {V : Type 0} → ℕ → AutomatonView V → (ℕ → ℕ → Type 0) → RowTable → AutomatonView V
over_rows most view stands r = record view {
  reached = λ x. IsCell r x × view.reached (state_at r.top x) × (AreClosed most stands r → x < r.count * r.width);
  text = λ x. view.text (state_at r.top x);
  ends_at_once = AreClosed most stands r;
}

-- what a slot holds for a state with a row: its cell, which is even, and 1 more, unless the state is quiet; the rows end at `end`
pub record IsSlotEntry (end : ℕ) (stands : ℕ → Type 0) (quiet : Type 0) (entry : ℕ) : Type 0 where
  pub cell : ℕ
  pub stands_for : stands cell
  pub inside : cell < end
  pub even : (half : ℕ) × (cell ≡ half * 2)
  pub is : ((entry ≡ cell) × quiet) ⊎ (entry ≡ cell + 1)

module _ (labels : List ℕ) where
  -- the label's slot: behind the state that of the labels that are not listed, and then those of the labels in order
  abbrev pub IsSlotOf : ℕ → ℕ → Type 0
  IsSlotOf label slot =
      ((k : ℕ) × (k < length labels) × (slice_index labels k ≡ label) × (slot ≡ 3 + k))
      ⊎ ((slot ≡ 2) × ((k : ℕ) → k < length labels → slice_index labels k ≢ label))

  -- a slot for each label below n
  pub record AreSlots (n : ℕ) (classes : List ℕ) : Type 0 where
    pub size : length classes ≡ n
    pub right : (label : ℕ) → label < n → IsSlotOf label (slice_index classes label)

-- the numbers below n of which something holds are listed, and no others
pub record IsListOf (holds : ℕ → Type 0) (n : ℕ) (listed : List ℕ) : Type 0 where
  pub few : length listed ≤ n
  pub all : (x : ℕ) → x < n → holds x → (k : ℕ) × (k < length listed) × (slice_index listed k ≡ x)
  pub only : (k : ℕ) → k < length listed → (slice_index listed k < n) × holds (slice_index listed k)

-- the labels below 638 that some key has are listed, none from 638 on, and none that stands for nothing
pub record AreLabels {V : Type 0} (K : Dictionary V) (stands : ℕ → ℕ → Type 0) (labels : List ℕ) : Type 0 where
  pub all : (label unit : ℕ) → label < 638 → stands label unit → IsForeign K unit
      ⊎ ((k : ℕ) × (k < length labels) × (slice_index labels k ≡ label))
  pub below : (k : ℕ) → k < length labels → slice_index labels k < 638
  pub none_idle : (k : ℕ) → k < length labels → (unit : ℕ) × stands (slice_index labels k) unit

-- an automaton, the labels that are listed for its rows, and how many cells a row has
pub record Listed (A : Type 0) : Type 0 where
  pub automaton : A
  pub labels : List ℕ
  pub width : ℕ

-- the automaton as searches see it, what each label stands for, and those same labels and cells
pub record Labelled (V : Type 0) : Type 1 where
  pub view : AutomatonView V
  pub stands : ℕ → ℕ → Type 0
  pub labels : List ℕ
  pub width : ℕ

-- what is so seen of an automaton and its labels
abbrev pub labelled : {V A L : Type 0} → (A → AutomatonView V) → (A → L → ℕ → Type 0) → (L → ℕ) → Listed A → Labelled V
labelled sees stands number of =
    record { view = sees of.automaton; stands = stands_by number (stands of.automaton); labels = of.labels; width = of.width }

-- the labels are those of the automaton, few enough for slots, and a row has a slot for each
pub record AreLabelled {V : Type 0} (seen : Labelled V) : Type 0 where
  pub labels : AreLabels seen.view.content seen.stands seen.labels
  pub few : length seen.labels ≤ 638
  pub width : seen.width ≡ row_cells (length seen.labels)

-- there is room for so many rows
abbrev pub most_rows : {V : Type 0} → Labelled V → ℕ
most_rows seen = 63168 / seen.width

-- ---- the states near the root, which all have rows

-- some label below 638 stands for the unit
abbrev pub HasSlot : (ℕ → ℕ → Type 0) → ℕ → Type 0
HasSlot stands unit = (label : ℕ) × (label < 638) × stands label unit

-- at most n units, each with a slot
pub record IsShallow (stands : ℕ → ℕ → Type 0) (n : ℕ) (w : List ℕ) : Type 0 where
  pub short : length w ≤ n
  pub slots : All (HasSlot stands) w

-- the texts of more than `room` different states have at most n units, each with a slot
pub record AreTooMany {V : Type 0} (view : AutomatonView V) (stands : ℕ → ℕ → Type 0) (n room : ℕ) : Type 0 where
  pub states : List ℕ
  pub many : room < length states
  pub different : (i j : ℕ) → i < length states → j < length states → slice_index states i ≡ slice_index states j → i ≡ j
  pub shallow : (i : ℕ) → i < length states → view.reached (slice_index states i) × IsShallow stands n (view.text (slice_index states i))

-- each text of at most n units, each with a slot, that begins a key is that of a state with a row
abbrev pub Covers : {V : Type 0} → AutomatonView V → (ℕ → ℕ → Type 0) → ℕ → RowTable → Type 0
Covers view stands n r = (w : List ℕ) → IsPrefix view.content w → IsShallow stands n w → (k : ℕ) × (k < r.count)
    × (view.text (state_at r.top (k * r.width)) ≡ w)

-- no link is dead, states with the same text are the same, and each label below `most` has a slot
pub record MayClose {V : Type 0} (most : ℕ) (view : AutomatonView V) (stands : ℕ → ℕ → Type 0) : Type 0 where
  pub alive : IsStandard view
  pub single : (s t : ℕ) → view.reached s → view.reached t → view.text s ≡ view.text t → s ≡ t
  pub slots : (label unit : ℕ) → label < most → stands label unit → label < 638

-- the rows are closed, or the texts of more than `room` different states have units with a slot alone
abbrev pub ClosesOrFills : {V : Type 0} → ℕ → AutomatonView V → (ℕ → ℕ → Type 0) → ℕ → RowTable → Type 0
ClosesOrFills most view stands room r = AreClosed most stands r ⊎ ((n : ℕ) × AreTooMany view stands n room)

module _ {V : Type 0} (view : AutomatonView V) (stands : ℕ → ℕ → Type 0) where
  -- the step from the state s by the label ends at the state t
  pub record StepLeads (s label t : ℕ) : Type 0 where
    pub is_state : view.reached t
    pub ends : (unit : ℕ) → stands label unit → Steps view s unit t

module _ {V : Type 0} (unit_width : ℕ → ℕ) (view : AutomatonView V) (stands : ℕ → ℕ → Type 0) where
  -- the rows are right
  pub record AreRows (r : RowTable) : Type 0 where
    pub size : length r.top ≡ 2 * (r.count * r.width)
    pub few : r.count * r.width ≤ 63168
    pub wide : 0 < r.width
    pub classes_size : length r.classes ≡ 638
    pub inside : (label : ℕ) → label < 638 → slice_index r.classes label < 2 * r.width
    -- a slot tells where the step ends, but for 65,535, where that is a state with no row
    pub right : (k label : ℕ) → k < r.count → label < 638 → (t : ℕ) × StepLeads view stands (state_at r.top (k * r.width)) label t
        × (((slice_index r.top (2 * (k * r.width) + slice_index r.classes label) ≡ 65535)
        × ((j : ℕ) → j < r.count → state_at r.top (j * r.width) ≢ t))
        ⊎ IsSlotEntry (r.count * r.width) (λ x. StandsFor r x t) (HasFirst unit_width view t None)
        (slice_index r.top (2 * (k * r.width) + slice_index r.classes label)))
    -- in the table of the states' rows 65,535 stands for none
    pub homes : (s : ℕ) → s < length r.homes → slice_index r.homes s ≢ 65535 → (slice_index r.homes s < r.count)
        × (state_at r.top (slice_index r.homes s * r.width) ≡ s)
    pub small : (s : ℕ) → view.reached s → r.count * r.width + s < 2 ^ 32
    pub root_state : (s : ℕ) × StandsFor r r.root s × view.reached s × (view.text s ≡ [])

-- ---- while they are made: `order` are the states of the rows

module _ (order : List ℕ) (width : ℕ) where
  -- the cell stands for the state: its row's, where it has one
  abbrev pub Stands : ℕ → ℕ → Type 0
  Stands x s = ((k : ℕ) × (k < length order) × (x ≡ k * width) × (slice_index order k ≡ s))
      ⊎ ((x ≡ length order * width + s) × ((k : ℕ) → k < length order → slice_index order k ≢ s))

  -- what a slot holds for a state: 65,535, where it has no row
  abbrev pub IsEntry : ℕ → Type 0 → ℕ → Type 0
  IsEntry t quiet v = ((v ≡ 65535) × ((k : ℕ) → k < length order → slice_index order k ≢ t))
      ⊎ IsSlotEntry (length order * width) (λ x. Stands x t) quiet v

-- the rows of the states of the rows
abbrev pub AreHomes : List ℕ → List ℕ → Type 0
AreHomes order homes = (s : ℕ) → s < length homes → slice_index homes s ≢ 65535 → (slice_index homes s < length order)
    × (slice_index order (slice_index homes s) ≡ s)

-- each state of the rows has its own
abbrev pub AreOwn : List ℕ → List ℕ → Type 0
AreOwn order homes = (k : ℕ) → k < length order → (slice_index order k < length homes) × (slice_index homes (slice_index order k) ≡ k)
    × (k < 65535)

-- each state of the rows has its own, and rows of so many cells fit
pub record HaveRows (order table : List ℕ) (width : ℕ) : Type 0 where
  pub homes : AreHomes order table
  pub own : AreOwn order table
  pub few : length order * width ≤ 63168
  pub wide : 0 < width
  pub even : (half : ℕ) × (width ≡ half * 2)

-- the states of the rows can be reached, and the row of each is known; each state is in the table, and none is too large for an entry
pub record AreChosen {V : Type 0} (seen : Labelled V) (order table : List ℕ) : Type 0 where
  pub states : (k : ℕ) → k < length order → seen.view.reached (slice_index order k)
  pub homes : AreHomes order table
  pub own : AreOwn order table
  pub few : length order ≤ most_rows seen
  pub room : most_rows seen < 65535
  pub inside : (s : ℕ) → seen.view.reached s → s < length table
  pub fits : (s : ℕ) → seen.view.reached s → s + 65536 < 2 ^ 32

-- the rows stay, and more may follow
pub record GoesOn (old new : List ℕ) : Type 0 where
  pub more : length old ≤ length new
  pub same : (k : ℕ) → k < length old → slice_index new k ≡ slice_index old k

module _ {V : Type 0} (seen : Labelled V) where
  -- the step from the state s by the listed label k ends at the state t
  abbrev pub Leads : ℕ → ℕ → ℕ → Type 0
  Leads s k t = StepLeads seen.view seen.stands s (slice_index seen.labels k) t

  -- wherever that from the state r ends, that from the state s does
  abbrev pub StepsAs : ℕ → ℕ → ℕ → Type 0
  StepsAs s k r = (unit t : ℕ) → seen.stands (slice_index seen.labels k) unit → Steps seen.view r unit t → Steps seen.view s unit t

  -- the texts of the rows' states have at most n units, each with a slot
  abbrev pub AreShallow : ℕ → List ℕ → Type 0
  AreShallow n order = (k : ℕ) → k < length order → IsShallow seen.stands n (seen.view.text (slice_index order k))

  -- those of the first m have at most n, and the others one more
  pub record AreNear (n m : ℕ) (order : List ℕ) : Type 0 where
    pub inside : m ≤ length order
    pub first : (k : ℕ) → k < m → IsShallow seen.stands n (seen.view.text (slice_index order k))
    pub all : AreShallow (n + 1) order

  -- the step by the listed label k from the state s ends at the text of a row's state
  abbrev pub EndsInRow : ℕ → ℕ → List ℕ → Type 0
  EndsInRow s k order = (j : ℕ) × (j < length order)
      × ((unit : ℕ) → seen.stands (slice_index seen.labels k) unit → Steps seen.view s unit (slice_index order j))

  -- so do those by each listed label from the first n rows, and the first row is the root's
  pub record AreStepped (n : ℕ) (order : List ℕ) : Type 0 where
    pub root : (0 < length order) × (seen.view.text (slice_index order 0) ≡ [])
    pub ends : (k j : ℕ) → k < n → j < length seen.labels → EndsInRow (slice_index order k) j order

  -- each such text that begins a key is that of a row's state
  abbrev pub AreCovered : ℕ → List ℕ → Type 0
  AreCovered n order = (w : List ℕ) → IsPrefix seen.view.content w → IsShallow seen.stands n w → (k : ℕ) × (k < length order)
      × (seen.view.text (slice_index order k) ≡ w)

  -- rows were added for the ends of steps from the first n rows
  pub record AreAdded (old new homes : List ℕ) (n : ℕ) : Type 0 where
    pub chosen : AreChosen seen new homes
    pub on : GoesOn old new
    pub near : (d m : ℕ) → n ≤ m → AreNear d m old → AreNear d m new

  -- and all these ends have rows, or there is no room
  pub record IsRound (old new homes : List ℕ) (n : ℕ) (all : Bool) : Type 0 where
    pub added : AreAdded old new homes n
    pub stepped : all ≡ true → AreStepped n new
    pub full : all ≡ false → (d m : ℕ) → n ≤ m → AreNear d m old → AreTooMany seen.view seen.stands (d + 1) (most_rows seen)

  -- rows of the states near the root, and of all others or of as many as there is room for
  pub record IsChoice (order homes : List ℕ) : Type 0 where
    pub chosen : AreChosen seen order homes
    pub covered : AreCovered 2 order
    pub ends : AreStepped (length order) order ⊎ ((n : ℕ) × AreTooMany seen.view seen.stands n (most_rows seen))

module _ {V : Type 0} (unit_width : ℕ → ℕ) (seen : Labelled V) (order : List ℕ) where
  -- what the slot c of the row k holds for a label
  abbrev pub TellsStep : ℕ → ℕ → ℕ → ℕ → Type 0
  TellsStep k c v label = (t : ℕ) × IsEntry order seen.width t (HasFirst unit_width seen.view t None) v
      × StepLeads seen.view seen.stands (slice_index order k) label t × (c ≡ 2 → seen.view.text t ≡ [])

  -- the slot c of the row k
  abbrev pub IsSlot : ℕ → ℕ → ℕ → Type 0
  IsSlot k zero v = v ≡ slice_index order k % 65536
  IsSlot k (suc zero) v = v ≡ slice_index order k / 65536
  IsSlot k (suc (suc c)) v = (label : ℕ) → label < 638 → IsSlotOf seen.labels label (suc (suc c)) → TellsStep k (suc (suc c)) v label

  -- k rows were written, and c slots of the next
  pub record AreWritten (k c : ℕ) (top : List ℕ) : Type 0 where
    pub size : length top ≡ 2 * (k * seen.width) + c
    pub rows : (k' c' : ℕ) → k' < k → c' < 2 * seen.width → IsSlot k' c' (slice_index top (2 * (k' * seen.width) + c'))
    pub row : (c' : ℕ) → c' < c → IsSlot k c' (slice_index top (2 * (k * seen.width) + c'))
