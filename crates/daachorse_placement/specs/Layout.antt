-- What callers see of a placement: flags by element, the length of a block, and two maps by state.
use Rattle.std.specs.Prelude.{◌≡◌, ℕ, ◌+◌, ◌-◌, ◌*◌, ◌<◌, ◌≤◌, Bool, true, false, not, cond, List, length, slice_index_or}
use Rattle.std.specs.List.{filter, range_with_len}

-- which elements are used, which bases are taken, where they are tracked, how many blocks there are and of what
-- length, whether the last 16 alone are searched; by state its element, and its base, if it is a parent
pub record Layout : Type 0 where
  pub used : List Bool
  pub marks : List Bool
  pub blocks : ℕ
  pub block : ℕ
  pub windowed : Bool
  pub idx : List ℕ
  pub bases : List ℕ

-- where the blocks begin that are searched: the last 16, once there is a window
abbrev pub window_start : Bool → ℕ → ℕ → ℕ
window_start windowed blocks block = cond windowed ((blocks - 16) * block) 0

-- the elements from i on that aren't used, rising
abbrev pub vacant_from : List Bool → ℕ → List ℕ
vacant_from used i = filter (λ k. not (slice_index_or used k false)) (range_with_len i (length used - i))

-- the vacant elements of the blocks that are searched, rising
abbrev pub vacants : Layout → List ℕ
vacants l = vacant_from l.used (window_start l.windowed l.blocks l.block)

-- base is the least of block q that isn't marked
pub record IsLeastUnused (marks : List Bool) (block q base : ℕ) : Type 0 where
  pub from : q * block ≤ base
  pub to : base < q * block + block
  pub free : slice_index_or marks base false ≡ false
  pub least : (k : ℕ) → q * block ≤ k → k < base → slice_index_or marks k false ≡ true

-- each flag of block q is set
abbrev pub AreAllSet : List Bool → ℕ → ℕ → Type 0
AreAllSet flags block q = (k : ℕ) → k < block → slice_index_or flags (q * block + k) false ≡ true
