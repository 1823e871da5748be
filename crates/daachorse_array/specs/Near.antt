-- What the links of a trie say, whether they are right or not: n stands above the root.
use Rattle.std.specs.Prelude.{◌≡◌, ℕ, zero, suc, ◌<◌, ◌==◌, Bool, cond, List, length, Option, Some, None, slice_index, get_or}
use Rattle.daachorse_array.specs.Ranks.{child, stop}

-- the rank above p on its link path: its link, n for the root and where it is dead
abbrev pub up : List ℕ → ℕ → ℕ
up fails zero = length fails
up fails (suc p) = get_or fails (suc p) (length fails)

abbrev pub pick : Option ℕ → ℕ → ℕ
pick (Some m) other = m
pick None other = other

module _ (child : ℕ → ℕ → Option ℕ) (up : ℕ → ℕ) where
  abbrev pub near_by : ℕ → ℕ → ℕ → ℕ
  near_by zero p c = pick (child p c) 0
  near_by (suc k) p c = pick (child p c) (near_by k (up p) c)

module _ (up : ℕ → ℕ) where
  -- the rank k steps up from p
  abbrev pub above : ℕ → ℕ → ℕ
  above zero p = p
  above (suc k) p = above k (up p)

  -- a stands on the link path of p
  abbrev pub IsAbove : ℕ → ℕ → Type 0
  IsAbove a p = (k : ℕ) × (above k p ≡ a)

-- the child by c of the nearest rank on the link path of p, p itself too, that has one; 0 where none has
abbrev pub near : List ℕ → List ℕ → List ℕ → ℕ → ℕ → ℕ
near parents labels fails p c = near_by (child parents labels) (up fails) (suc (length fails)) p c

-- the array has, of each label, what is near p
abbrev pub AreNear : List ℕ → List ℕ → List ℕ → List ℕ → ℕ → Type 0
AreNear parents labels fails array p = (c : ℕ) → c < length array → slice_index array c ≡ near parents labels fails p c

-- what a link is where nothing is near: the root on the root's own tree of links, unless the root stops
abbrev pub root_value : List Bool → ℕ → ℕ → ℕ
root_value stops n zero = cond (stop stops 0) n 0
root_value stops n (suc p) = n

abbrev pub top_by : (ℕ → ℕ) → List Bool → ℕ → ℕ → ℕ → ℕ
top_by up stops n zero p = n
top_by up stops n (suc k) p = cond (up p == n) (root_value stops n p) (top_by up stops n k (up p))

abbrev pub top : List Bool → List ℕ → ℕ → ℕ
top stops fails p = top_by (up fails) stops (length fails) (suc (length fails)) p

abbrev pub or_top : ℕ → ℕ → ℕ
or_top zero t = t
or_top (suc x) t = suc x

-- the link that the child m of p by c has to have
abbrev pub right : List ℕ → List ℕ → List Bool → List ℕ → ℕ → ℕ → ℕ → ℕ
right parents labels stops fails p m c = cond (stop stops m) (length fails)
    (or_top (near parents labels fails (up fails p) c) (top stops fails p))

-- the children of p have the right links
abbrev pub IsChecked : List ℕ → List ℕ → List Bool → List ℕ → ℕ → Type 0
IsChecked parents labels stops fails p =
    (m : ℕ) → 0 < m → m < length parents → slice_index parents m ≡ p
    → slice_index fails m ≡ right parents labels stops fails p m (slice_index labels m)

-- of p's children what is near above p is kept
abbrev pub IsSaved : List ℕ → List ℕ → List ℕ → List ℕ → ℕ → Type 0
IsSaved parents labels fails saved p =
    (m : ℕ) → 0 < m → m < length parents → slice_index parents m ≡ p
    → slice_index saved m ≡ near parents labels fails (up fails p) (slice_index labels m)
