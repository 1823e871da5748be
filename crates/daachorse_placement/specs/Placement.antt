-- What is placed: groups of children, each under a base from which the labels lead to the elements.
use Rattle.std.specs.Prelude.{◌≡◌, ◌≢◌, ℕ, ◌+◌, ◌*◌, ◌/◌, ◌<◌, ◌≤◌, Bool, true, false, List, [], length, bit_xor, slice_index, slice_index_or, map, nat_eq}
use Rattle.daachorse_core.specs.declared.errors.DaachorseError.{DaachorseError}
use Rattle.daachorse_core.specs.Refusals.{IsRefusal}
use Rattle.daachorse_core.specs.declared.errors.Limit.TheVariants.{NumElements}
use Rattle.daachorse_placement.specs.declared.build_helper.SiblingGroup.{SiblingGroup}
use Rattle.daachorse_placement.specs.Layout.{AreAllSet, Layout}

-- the label and the state of child j
abbrev pub label_of : List (ℕ × ℕ) → ℕ → ℕ
label_of cs j = (slice_index_or cs j (0, 0)).0

abbrev pub child_id : List (ℕ × ℕ) → ℕ → ℕ
child_id cs j = (slice_index_or cs j (0, 0)).1

-- each label is below the length of a block
abbrev pub FitInBlock : ℕ → List (ℕ × ℕ) → Type 0
FitInBlock block cs = (j : ℕ) → j < length cs → label_of cs j < block

-- the ids of the children are below n
abbrev pub AreIds : ℕ → List (ℕ × ℕ) → Type 0
AreIds n cs = (j : ℕ) → j < length cs → child_id cs j < n

-- no child stands twice
abbrev pub AreApart : List (ℕ × ℕ) → Type 0
AreApart cs = (i j : ℕ) → i < length cs → j < length cs → child_id cs i ≡ child_id cs j → i ≡ j

-- the children of group k, as pairs of a label and a state
abbrev pub children_of : {A : Type 0} → List (SiblingGroup A) → ℕ → List (ℕ × ℕ)
children_of gs k = slice_index_or (map (λ g. g.children.items) gs) k []

-- the parent of group k
abbrev pub group_parent : {A : Type 0} → List (SiblingGroup A) → ℕ → ℕ
group_parent gs k = slice_index_or (map (λ g. g.parent) gs) k 0

-- a group that no count asks to be placed well
abbrev pub is_light : {A : Type 0} → SiblingGroup A → Bool
is_light g = nat_eq g.weight 0

-- groups whose parents and children each stand once, among n states
pub record AreGroups {A : Type 0} (gs : List (SiblingGroup A)) (n block : ℕ) : Type 0 where
  pub some : (k : ℕ) → k < length gs → 0 < length (children_of gs k)
  pub labels : (k : ℕ) → k < length gs → FitInBlock block (children_of gs k)
  pub distinct : (k i j : ℕ) → k < length gs → i < length (children_of gs k) → j < length (children_of gs k) → label_of (children_of gs k) i ≡ label_of (children_of gs k) j → i ≡ j
  pub parents : (k : ℕ) → k < length gs → group_parent gs k < n
  pub one_parent : (k l : ℕ) → k < length gs → l < length gs → group_parent gs k ≡ group_parent gs l → k ≡ l
  pub ids : (k : ℕ) → k < length gs → AreIds n (children_of gs k)
  pub above : (k j : ℕ) → k < length gs → j < length (children_of gs k) → 1 < child_id (children_of gs k) j
  pub one_group : (k l i j : ℕ) → k < length gs → l < length gs → i < length (children_of gs k) → j < length (children_of gs l) → child_id (children_of gs k) i ≡ child_id (children_of gs l) j → k ≡ l
  pub one_child : (k : ℕ) → k < length gs → AreApart (children_of gs k)

-- the children stand under the base: in one block, in elements past the first two
pub record IsGroupAt (cs : List (ℕ × ℕ)) (base : ℕ) (l : Layout) : Type 0 where
  pub nonzero : base ≢ 0
  pub inside : base < length l.used
  pub at : (j : ℕ) → j < length cs → slice_index l.idx (child_id cs j) ≡ bit_xor base (label_of cs j)
  pub above : (j : ℕ) → j < length cs → 1 < bit_xor base (label_of cs j)
  pub together : (j : ℕ) → j < length cs → bit_xor base (label_of cs j) / l.block ≡ base / l.block

-- the first m groups are placed: a state's element is used and no other state's, what is used past element 1 is a
-- child's, all other states but the root have element 1; bases are marked where they are tracked, and then distinct
pub record IsPlaced {A : Type 0} (gs : List (SiblingGroup A)) (m : ℕ) (tracked : Bool) (l : Layout) : Type 0 where
  pub root : slice_index l.idx 0 ≡ 0
  pub root_used : slice_index_or l.used 0 false ≡ true
  pub dead_used : slice_index_or l.used 1 false ≡ true
  pub groups : (k : ℕ) → k < m → IsGroupAt (children_of gs k) (slice_index l.bases (group_parent gs k)) l
  pub taken : (t : ℕ) → t < length l.idx → 1 < slice_index l.idx t → slice_index_or l.used (slice_index l.idx t) false ≡ true
  pub owned : (i : ℕ) → 1 < i → slice_index_or l.used i false ≡ true → (k : ℕ) × (j : ℕ) × (k < m) × (j < length (children_of gs k)) × (bit_xor (slice_index l.bases (group_parent gs k)) (label_of (children_of gs k) j) ≡ i)
  pub apart : (t v : ℕ) → t < length l.idx → v < length l.idx → 1 < slice_index l.idx t → slice_index l.idx t ≡ slice_index l.idx v → t ≡ v
  pub rest : (t : ℕ) → t < length l.idx → t ≢ 0 → ((k j : ℕ) → k < m → j < length (children_of gs k) → t ≢ child_id (children_of gs k) j) → slice_index l.idx t ≡ 1
  pub parents : (p : ℕ) → p < length l.bases → ((k : ℕ) → k < m → p ≢ group_parent gs k) → slice_index l.bases p ≡ 0
  pub few : l.blocks ≤ m + 1
  pub marked : tracked ≡ true → (k : ℕ) → k < m → slice_index_or l.marks (slice_index l.bases (group_parent gs k)) false ≡ true
  pub tracks : (b : ℕ) → slice_index_or l.marks b false ≡ true → tracked ≡ true
  pub takers : (b : ℕ) → slice_index_or l.marks b false ≡ true → (k : ℕ) × (k < m) × (slice_index l.bases (group_parent gs k) ≡ b)
  pub bases_apart : tracked ≡ true → (k j : ℕ) → k < m → j < m → slice_index l.bases (group_parent gs k) ≡ slice_index l.bases (group_parent gs j) → k ≡ j

-- whole blocks, and an element and a base by each of n states
pub record HasSizes (l : Layout) (len n : ℕ) : Type 0 where
  pub block : l.block ≡ len
  pub elements : length l.used ≡ l.blocks * len
  pub idx : length l.idx ≡ n
  pub bases : length l.bases ≡ n

-- a block whose bases are all taken has no vacant element
abbrev pub AreBlocksFull : Layout → Type 0
AreBlocksFull l = (q : ℕ) → AreAllSet l.marks l.block q → AreAllSet l.used l.block q

-- an allocation failed, or the number of elements would pass its limit, which only this allows
abbrev pub IsPlaceRefusal : Type 0 → DaachorseError → Type 0
IsPlaceRefusal passed = IsRefusal ⊥ NumElements passed
