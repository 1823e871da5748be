-- Where a place of a text may begin a pattern: each of eight buckets of patterns says what may stand at the first eight offsets of a
-- window.
use Rattle.std.specs.Prelude.{◌≡◌, ℕ, zero, suc, ◌+◌, ◌-◌, ◌*◌, ◌/◌, ◌%◌, ◌^◌, ◌<◌, ◌≤◌, ◌==◌, nat_le, nat_lt, bit_or, cond, Bool, true}
use Rattle.std.specs.Prelude.{false, ◌&&◌, ◌||◌, List, drop, length, slice_index, Option, Some, None, IfSome}
use Rattle.daachorse_model.specs.Dictionary.{Dictionary}
use Rattle.daachorse_model.specs.Filter.{is_clear}
use Rattle.daachorse_model.specs.Prefixes.{IsKey}

-- the slot of three bytes, a letter in either case being one: the 13 highest bits of a product of 32
abbrev pub slot : ℕ → ℕ → ℕ → ℕ
slot a b c = ((bit_or (a % 256) 32 + 256 * bit_or (b % 256) 32 + 65536 * bit_or (c % 256) 32) * 2246822400) % 2 ^ 32 / 2 ^ 19

-- the slot of the bytes at the places k, k + 1 and k + 2 of w
abbrev pub slot_at : List ℕ → ℕ → ℕ
slot_at w k = slot (slice_index w k) (slice_index w (k + 1)) (slice_index w (k + 2))

-- of each number below n
unfoldable pub all_below : (ℕ → Bool) → ℕ → Bool
all_below f zero = true
all_below f (suc n) = f n && all_below f n

-- of some number below n
unfoldable pub some_below : (ℕ → Bool) → ℕ → Bool
some_below f zero = false
some_below f (suc n) = f n || some_below f n

-- the bucket lets the window at the beginning of w pass: at each offset in it the slot's entry has a 0 where the bucket has its bit for
-- that offset
unfoldable pub lets : List ℕ → ℕ → List ℕ → Bool
lets table bucket w = all_below (λ k. is_clear (slice_index table (slot_at w k)) (56 - 8 * k + bucket)) 8

-- some bucket does
unfoldable pub some_lets : List ℕ → List ℕ → Bool
some_lets table w = some_below (λ b. lets table b w) 8

-- none does at a place of the text from pos on and before n
abbrev pub NoneLet : List ℕ → List ℕ → ℕ → ℕ → Type 0
NoneLet table text pos n = (q : ℕ) → pos ≤ q → q < n → some_lets table (drop q text) ≡ false

-- some pattern may begin w: where there are no buckets, any may, and so near the end
abbrev pub may_begin : Option (List ℕ) → List ℕ → Bool
may_begin None w = true
may_begin (Some table) w = nat_lt (length w) 26 || some_lets table w

-- the pattern's bytes at the offset k and the two after it have the slot y: its last two with any third, and any three where it has fewer
unfoldable pub has_slot : List ℕ → ℕ → ℕ → Bool
has_slot pattern k y =
    let a = slice_index pattern k in
    let b = slice_index pattern (k + 1) in
    cond (nat_le (k + 3) (length pattern)) (y == slot a b (slice_index pattern (k + 2)))
    (cond (k + 2 == length pattern) (some_below (λ c. y == slot a b c) 256) true)

-- of the entry of the slot y, bit i is the bucket's for one of the first n offsets, and the pattern has the slot there
unfoldable pub opens : List ℕ → ℕ → ℕ → ℕ → ℕ → Bool
opens pattern bucket n y i = some_below (λ k. (i == 56 - 8 * k + bucket) && has_slot pattern k y) n

-- bit i is 0 in the entry of the slot y of a table
abbrev pub is_clear_at : List ℕ → ℕ → ℕ → Bool
is_clear_at table y i = is_clear (slice_index table y) i

-- while buckets are made: bit i is 0 in the entry of the slot y, or in all
abbrev pub is_open : List ℕ → ℕ → ℕ → ℕ → Bool
is_open entries mask y i = is_clear (slice_index entries y) i || is_clear mask i

-- some bucket lets the pattern's bytes stand at each offset
pub record IsMarked (table pattern : List ℕ) : Type 0 where
  pub bucket : ℕ
  pub below : bucket < 8
  pub clear : (y i : ℕ) → y < 8192 → i < 64 → opens pattern bucket 8 y i ≡ true → is_clear_at table y i ≡ true

module _ {V : Type 0} (spell : List ℕ → List ℕ) (K : Dictionary V) where
  -- some key opens the bit in some bucket
  pub record IsOpened (y i : ℕ) : Type 0 where
    pub key : List ℕ
    pub is_key : IsKey K key
    pub bucket : ℕ
    pub below : bucket < 8
    pub opened : opens (spell key) bucket 8 y i ≡ true

  -- each key is marked, and no bit is 0 that no key opens: `spell` gives the bytes of a text
  pub record AreBuckets (table : List ℕ) : Type 0 where
    pub marked : (k : List ℕ) → IsKey K k → IsMarked table (spell k)
    pub no_others : (y i : ℕ) → y < 8192 → i < 64 → is_clear_at table y i ≡ true → IsOpened y i

  -- there are no buckets, or they are those of the keys
  abbrev pub MayTell : Option (List ℕ) → Type 0
  MayTell table = IfSome table AreBuckets
