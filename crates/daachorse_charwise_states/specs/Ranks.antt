-- The indexes of frequency above 0 in the order of their codes, each with its frequency, and the table that they fill.
use Rattle.std.specs.Prelude.{◌≡◌, ◌≢◌, ℕ, ◌<◌, ◌≤◌, nat_lt, List, length, slice_index, slice_index_or, count_by, filter}
use Rattle.std.specs.List.{enumerate_from}

-- the indexes of frequency above 0 with their frequencies, by index
abbrev pub used_in : List ℕ → List (ℕ × ℕ)
used_in freqs = filter (λ p. nat_lt 0 p.1) (enumerate_from 0 freqs)

-- the index at a rank
abbrev pub index_at : List (ℕ × ℕ) → ℕ → ℕ
index_at ranked k = (slice_index_or ranked k (0, 0)).0

-- the frequency at a rank
abbrev pub freq_at : List (ℕ × ℕ) → ℕ → ℕ
freq_at ranked k = (slice_index_or ranked k (0, 0)).1

-- all indexes of frequency above 0, by falling frequency, and those of one frequency by index
pub record AreRanked (freqs : List ℕ) (ranked : List (ℕ × ℕ)) : Type 0 where
  pub inside : (k : ℕ) → k < length ranked → index_at ranked k < length freqs
  pub freq : (k : ℕ) → k < length ranked → slice_index freqs (index_at ranked k) ≡ freq_at ranked k
  pub positive : (k : ℕ) → k < length ranked → 0 < freq_at ranked k
  pub complete : (c : ℕ) → 0 < slice_index freqs c → (k : ℕ) × (k < length ranked) × (index_at ranked k ≡ c)
  pub falling : (j k : ℕ) → j < k → k < length ranked → freq_at ranked k ≤ freq_at ranked j
  pub ties : (j k : ℕ) → j < k → k < length ranked → freq_at ranked j ≡ freq_at ranked k → index_at ranked j < index_at ranked k
  pub size : length ranked ≡ count_by (λ n. nat_lt 0 n) freqs

-- no index has two ranks
abbrev pub HaveOneRank : List (ℕ × ℕ) → Type 0
HaveOneRank ranked = (j k : ℕ) → j < k → k < length ranked → index_at ranked j ≢ index_at ranked k

-- the table has the ranks below `count` at their indexes, and no other code
pub record IsFilled (ranked : List (ℕ × ℕ)) (count : ℕ) (table : List ℕ) : Type 0 where
  pub written : (k : ℕ) → k < count → slice_index table (index_at ranked k) ≡ k
  pub below : (c : ℕ) → c < length table → slice_index table c ≢ 4294967295 → slice_index table c < count
  pub read : (c : ℕ) → c < length table → slice_index table c ≢ 4294967295 → index_at ranked (slice_index table c) ≡ c
