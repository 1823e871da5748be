-- A tour of the ranks: each after its link, and the link of the next on the link path of the one before.
use Rattle.std.specs.Prelude.{◌≡◌, ℕ, zero, suc, ◌+◌, ◌<◌, ◌≤◌, ◌⊎◌, Bool, List, [], ◌∷◌, length, slice_index}
use Rattle.daachorse_array.specs.Near.{up, near, IsAbove, AreNear, IsChecked, IsSaved, right, top, above}

abbrev pub In : ℕ → List ℕ → Type 0
In x [] = ⊥
In x (y ∷ ys) = (x ≡ y) ⊎ In x ys

abbrev pub IsApart : List ℕ → Type 0
IsApart [] = zero ≡ zero
IsApart (x ∷ xs) = (In x xs → ⊥) × IsApart xs

-- from a on, next leads through the list and then to n
abbrev pub IsThreaded : List ℕ → ℕ → ℕ → List ℕ → Type 0
IsThreaded next n a [] = a ≡ n
IsThreaded next n a (x ∷ xs) = (a ≡ x) × IsThreaded next n (slice_index next x) xs

-- a tour of the first m of n ranks, that begins after n
pub record IsTour (up : ℕ → ℕ) (n : ℕ) (next : List ℕ) (m : ℕ) : Type 0 where
  pub size : length next ≡ suc n
  pub list : List ℕ
  pub linked : IsThreaded next n (slice_index next n) list
  pub count : length list ≡ m
  pub apart : IsApart list
  pub below : (x : ℕ) → In x list → x < m
  pub all : (x : ℕ) → x < m → In x list
  pub steps : (a : ℕ) → a ≤ n → (slice_index next a ≡ n) ⊎ IsAbove up (up (slice_index next a)) a

-- a tour that has left k ranks, the last of them here, and comes to p next; t is the link where nothing is near here
pub record IsTouring (parents labels : List ℕ) (stops : List Bool) (fails next array saved : List ℕ) (k here p t : ℕ) : Type 0 where
  pub rest : List ℕ
  pub linked : IsThreaded next (length fails) p rest
  pub count : length rest + k ≡ length fails
  pub below : (x : ℕ) → In x rest → x < length fails
  pub each : (x : ℕ) → x < length fails → In x rest ⊎ IsChecked parents labels stops fails x
  pub near : AreNear parents labels fails array here
  pub path : (j : ℕ) → IsSaved parents labels fails saved (above (up fails) j here)
  pub low : here ≤ length fails
  pub comes : (p ≡ length fails) ⊎ IsAbove (up fails) (up fails p) here
  pub other : here < length fails → t ≡ top stops fails here

-- on the way to p: p's children below m have the right links, and are near; what was near is saved
pub record IsEntering (parents labels : List ℕ) (stops : List Bool) (fails array saved old : List ℕ) (p m : ℕ) : Type 0 where
  pub checked : (j : ℕ) → 0 < j → j < length parents → j < m → slice_index parents j ≡ p
      → slice_index fails j ≡ right parents labels stops fails p j (slice_index labels j)
  pub mine : (j : ℕ) → 0 < j → j < length parents → j < m → slice_index parents j ≡ p → slice_index array (slice_index labels j) ≡ j
  pub other : (c : ℕ) → c < length array
      → ((j : ℕ) → 0 < j → j < length parents → j < m → slice_index parents j ≡ p → slice_index labels j ≡ c → ⊥)
      → slice_index array c ≡ near parents labels fails (up fails p) c
  pub kept : (j : ℕ) → 0 < j → j < length parents → j < m → slice_index parents j ≡ p
      → slice_index saved j ≡ near parents labels fails (up fails p) (slice_index labels j)
  pub frame : (j : ℕ) → (slice_index parents j ≡ p → ⊥) → slice_index saved j ≡ slice_index old j

-- on the way from p: of the labels of p's children below m, what is near above p is there again
pub record IsLeaving (parents labels fails array : List ℕ) (p m : ℕ) : Type 0 where
  pub back : (j : ℕ) → 0 < j → j < length parents → j < m → slice_index parents j ≡ p
      → slice_index array (slice_index labels j) ≡ near parents labels fails (up fails p) (slice_index labels j)
  pub other : (c : ℕ) → c < length array
      → ((j : ℕ) → 0 < j → j < length parents → j < m → slice_index parents j ≡ p → slice_index labels j ≡ c → ⊥)
      → slice_index array c ≡ near parents labels fails p c
