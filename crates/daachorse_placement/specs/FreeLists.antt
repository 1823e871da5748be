-- What the elements of a double array are: their flags, their order, and what fits.
use Rattle.std.specs.Prelude.{◌≡◌, ◌≢◌, ℕ, ◌+◌, ◌*◌, ◌<◌, ◌≤◌, ◌^◌, Bool, true, false, List, zero, suc, length, bit_xor, slice_index, slice_index_or, cond, ◌⊎◌}
use Rattle.std.specs.Int.{IsPowerOfTwo}
use Rattle.daachorse_placement.specs.declared.build_helper.free_list.FreeList.{FreeList}
use Rattle.daachorse_placement.specs.Layout.{Layout, window_start}
use Rattle.daachorse_placement.specs.Placement.{label_of, child_id}

-- how many elements there are
abbrev pub element_count : {A : Type 0} → FreeList A → ℕ
element_count e = length e.used_index.items

-- element i holds the root, the dead state or a child; past the end none does
abbrev pub is_used : {A : Type 0} → FreeList A → ℕ → Bool
is_used e i = slice_index_or e.used_index.items i false

-- b is a base that is tracked; past the end none is
abbrev pub is_base : {A : Type 0} → FreeList A → ℕ → Bool
is_base e b = slice_index_or e.used_base.items b false

-- where the blocks begin that are searched
abbrev pub boundary_of : {A : Type 0} → FreeList A → ℕ
boundary_of e = window_start e.windowed e.num_blocks e.block_len

-- what callers see of the elements, with the map of the states and the bases of the parents
abbrev pub layout_of : {A : Type 0} → FreeList A → List ℕ → List ℕ → Layout
layout_of e idx bases =
    record { used = e.used_index.items; marks = e.used_base.items; blocks = e.num_blocks; block = e.block_len; windowed = e.windowed; idx = idx; bases = bases }

-- `next` leads from each element over used ones alone
pub record LeadsOverUsed (used : List Bool) (next : List ℕ) : Type 0 where
  pub same : length next ≡ length used
  pub after : (i : ℕ) → i < length used → i < slice_index next i
  pub inside : (i : ℕ) → i < length used → slice_index next i ≤ length used
  pub over : (i k : ℕ) → i < length used → i < k → k < slice_index next i → slice_index_or used k false ≡ true

-- whole blocks, whose vacant elements are found from `first` on by `next`
pub record IsWhole {A : Type 0} (e : FreeList A) : Type 0 where
  pub power : IsPowerOfTwo e.block_len
  pub two : 2 ≤ e.block_len
  pub some : 1 ≤ e.num_blocks
  pub blocks : element_count e ≡ e.num_blocks * e.block_len
  pub below : element_count e < 2 ^ 32
  pub bases : length e.used_base.items ≡ element_count e
  pub linked : LeadsOverUsed e.used_index.items e.next.items
  pub first : e.first ≤ element_count e
  pub none : (k : ℕ) → boundary_of e ≤ k → k < e.first → is_used e k ≡ true

-- each child has a vacant element under this base
abbrev pub Fits : {A : Type 0} → FreeList A → List (ℕ × ℕ) → ℕ → Type 0
Fits e cs base = (j : ℕ) → j < length cs → is_used e (bit_xor base (label_of cs j)) ≡ false

-- nothing was used, and the window is as it was
pub record HasFlagsOf {A : Type 0} (a b : FreeList A) : Type 0 where
  pub used : a.used_index.items ≡ b.used_index.items
  pub bases : a.used_base.items ≡ b.used_base.items
  pub block : a.block_len ≡ b.block_len
  pub blocks : a.num_blocks ≡ b.num_blocks
  pub windowed : a.windowed ≡ b.windowed

-- element i gives a base for the children: the base that puts the first of them there
pub record HasBase {A : Type 0} (e : FreeList A) (cs : List (ℕ × ℕ)) (i : ℕ) : Type 0 where
  pub nonzero : bit_xor i (label_of cs 0) ≢ 0
  pub free : is_base e (bit_xor i (label_of cs 0)) ≡ false
  pub fits : Fits e cs (bit_xor i (label_of cs 0))

-- no vacant element of the blocks that are searched, below n, has a base for the children
abbrev pub NoneFits : {A : Type 0} → FreeList A → List (ℕ × ℕ) → ℕ → Type 0
NoneFits e cs n =
    (i : ℕ) → boundary_of e ≤ i → i < n → is_used e i ≡ false → HasBase e cs i → ⊥

-- the base of the first vacant element that has one for the children
pub record IsFirstFit {A : Type 0} (e : FreeList A) (cs : List (ℕ × ℕ)) (base : ℕ) : Type 0 where
  pub nonzero : base ≢ 0
  pub inside : base < element_count e
  pub free : is_base e base ≡ false
  pub fits : Fits e cs base
  pub searched : boundary_of e ≤ bit_xor base (label_of cs 0)
  pub first : NoneFits e cs (bit_xor base (label_of cs 0))

-- one block of vacant elements more
pub record HasBlockMore {A : Type 0} (a b : FreeList A) : Type 0 where
  pub count : element_count b ≡ element_count a + a.block_len
  pub used : (k : ℕ) → k < element_count a → is_used b k ≡ is_used a k
  pub vacant : (k : ℕ) → element_count a ≤ k → k < element_count b → is_used b k ≡ false
  pub bases : (k : ℕ) → k < element_count a → is_base b k ≡ is_base a k
  pub free : (k : ℕ) → element_count a ≤ k → k < element_count b → is_base b k ≡ false
  pub block : b.block_len ≡ a.block_len
  pub blocks : b.num_blocks ≡ a.num_blocks + 1
  pub windowed : b.windowed ≡ a.windowed

-- at most a block of vacant elements more
pub record HasMore {A : Type 0} (a b : FreeList A) : Type 0 where
  pub count : element_count a ≤ element_count b
  pub used : (k : ℕ) → k < element_count a → is_used b k ≡ is_used a k
  pub vacant : (k : ℕ) → element_count a ≤ k → k < element_count b → is_used b k ≡ false
  pub bases : (k : ℕ) → k < element_count a → is_base b k ≡ is_base a k
  pub free : (k : ℕ) → element_count a ≤ k → k < element_count b → is_base b k ≡ false
  pub block : b.block_len ≡ a.block_len
  pub blocks : b.num_blocks ≤ a.num_blocks + 1
  pub windowed : b.windowed ≡ a.windowed

-- a base that is free, with a vacant element for each child
pub record IsPlaceFor {A : Type 0} (e : FreeList A) (cs : List (ℕ × ℕ)) (base : ℕ) : Type 0 where
  pub nonzero : base ≢ 0
  pub inside : base < element_count e
  pub free : is_base e base ≡ false
  pub fits : Fits e cs base

-- the first n children were given their elements under the base
pub record HasTaken {A : Type 0} (a b : FreeList A) (cs : List (ℕ × ℕ)) (n base : ℕ) : Type 0 where
  pub count : element_count b ≡ element_count a
  pub block : b.block_len ≡ a.block_len
  pub blocks : b.num_blocks ≡ a.num_blocks
  pub windowed : b.windowed ≡ a.windowed
  pub bases : b.used_base.items ≡ a.used_base.items
  pub here : (j : ℕ) → j < n → is_used b (bit_xor base (label_of cs j)) ≡ true
  pub kept : (k : ℕ) → is_used a k ≡ true → is_used b k ≡ true
  pub only : (k : ℕ) → is_used b k ≡ true → (is_used a k ≡ true) ⊎ ((j : ℕ) × (j < n) × (k ≡ bit_xor base (label_of cs j)))

-- the base was taken, where that is tracked
pub record HasMarked {A : Type 0} (a b : FreeList A) (mark : ℕ) (tracked : Bool) : Type 0 where
  pub used : b.used_index.items ≡ a.used_index.items
  pub block : b.block_len ≡ a.block_len
  pub blocks : b.num_blocks ≡ a.num_blocks
  pub windowed : b.windowed ≡ a.windowed
  pub untracked : tracked ≡ false → b.used_base.items ≡ a.used_base.items
  pub here : tracked ≡ true → is_base b mark ≡ true
  pub others : (k : ℕ) → k ≢ mark → is_base b k ≡ is_base a k

-- the children were given vacant elements under the base, which was free
pub record HasPlaced {A : Type 0} (a b : FreeList A) (cs : List (ℕ × ℕ)) (mark : ℕ) (tracked : Bool) : Type 0 where
  pub count : element_count a ≤ element_count b
  pub block : b.block_len ≡ a.block_len
  pub blocks : b.num_blocks ≤ a.num_blocks + 1
  pub windowed : b.windowed ≡ a.windowed
  pub nonzero : mark ≢ 0
  pub inside : mark < element_count b
  pub vacant : (j : ℕ) → j < length cs → is_used a (bit_xor mark (label_of cs j)) ≡ false
  pub here : (j : ℕ) → j < length cs → is_used b (bit_xor mark (label_of cs j)) ≡ true
  pub kept : (k : ℕ) → is_used a k ≡ true → is_used b k ≡ true
  pub only : (k : ℕ) → is_used b k ≡ true → (is_used a k ≡ true) ⊎ ((j : ℕ) × (j < length cs) × (k ≡ bit_xor mark (label_of cs j)))
  pub free : is_base a mark ≡ false
  pub untracked : tracked ≡ false → is_base b mark ≡ false
  pub noted : tracked ≡ true → is_base b mark ≡ true
  pub others : (k : ℕ) → k ≢ mark → is_base b k ≡ is_base a k

-- the map leads from each of the first n children to its element, and is otherwise as it was
pub record IsMapOf (old new : List ℕ) (cs : List (ℕ × ℕ)) (n base : ℕ) : Type 0 where
  pub same : length new ≡ length old
  pub here : (j : ℕ) → j < n → slice_index new (child_id cs j) ≡ bit_xor base (label_of cs j)
  pub others : (t : ℕ) → ((j : ℕ) → j < n → t ≢ child_id cs j) → slice_index new t ≡ slice_index old t

-- one block, where elements 0 and 1 are used
pub record HasOneBlock {A : Type 0} (e : FreeList A) (len : ℕ) : Type 0 where
  pub block : e.block_len ≡ len
  pub count : element_count e ≡ len
  pub blocks : e.num_blocks ≡ 1
  pub windowed : e.windowed ≡ false
  pub zero : is_used e 0 ≡ true
  pub one : is_used e 1 ≡ true
  pub vacant : (k : ℕ) → 1 < k → k < len → is_used e k ≡ false
  pub free : (k : ℕ) → is_base e k ≡ false

-- how many of the n flags from a on are set
abbrev pub count_in : List Bool → ℕ → ℕ → ℕ
count_in xs a zero = 0
count_in xs a (suc n) = cond (slice_index_or xs (a + n) false) 1 0 + count_in xs a n

-- no block has more bases taken than elements
abbrev pub IsFull : {A : Type 0} → FreeList A → Type 0
IsFull e = (q : ℕ) → count_in e.used_base.items (q * e.block_len) e.block_len ≤ count_in e.used_index.items (q * e.block_len) e.block_len
