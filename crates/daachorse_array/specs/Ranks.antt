-- A trie whose elements go by their ranks: their numbers in a list in which each stands after its parent.
use Rattle.std.specs.Prelude.{◌≡◌, ℕ, zero, suc, pred, ◌<◌, ◌≤◌, ◌⊎◌, ◌==◌, Bool, false, get_or, ◌&&◌, cond, List, length, Option, Some}
use Rattle.std.specs.Prelude.{None, slice_index}
use Rattle.daachorse_array.specs.Links.{IsLinkOf}

-- the last of the ranks 1 to m that is the child of p by c
abbrev pub child_to : List ℕ → List ℕ → ℕ → ℕ → ℕ → Option ℕ
child_to parents labels zero p c = None
child_to parents labels (suc m) p c =
    cond ((slice_index parents (suc m) == p) && (slice_index labels (suc m) == c)) (Some (suc m)) (child_to parents labels m p c)

-- the child of rank p by c
abbrev pub child : List ℕ → List ℕ → ℕ → ℕ → Option ℕ
child parents labels p c = child_to parents labels (pred (length parents)) p c

-- ranks in the order of a walk breadth first
pub record IsOrder (parents : List ℕ) : Type 0 where
  pub some : 0 < length parents
  pub earlier : (m : ℕ) → 0 < m → m < length parents → slice_index parents m < m
  pub rising : (l m : ℕ) → 0 < l → l < m → m < length parents → slice_index parents l ≤ slice_index parents m

-- ranks whose labels are below `alphabet`; no two children of one rank have one label
pub record IsTrieOfRanks (parents labels : List ℕ) (alphabet : ℕ) : Type 0 where
  pub each : length labels ≡ length parents
  pub order : IsOrder parents
  pub inside : (m : ℕ) → 0 < m → m < length parents → slice_index labels m < alphabet
  pub apart : (l m : ℕ) → 0 < l → l < m → m < length parents → slice_index parents l ≡ slice_index parents m
      → slice_index labels l ≡ slice_index labels m → ⊥

-- such ranks, whatever bounds their labels
abbrev pub IsLabelled : List ℕ → List ℕ → Type 0
IsLabelled parents labels = (alphabet : ℕ) × IsTrieOfRanks parents labels alphabet

-- whether a rank stops
abbrev pub stop : List Bool → ℕ → Bool
stop stops i = get_or stops i false

-- each rank that a text leads to has the right link, and the number of ranks for a dead one
abbrev pub HasLinks : List ℕ → List ℕ → List Bool → List ℕ → Type 0
HasLinks parents labels stops fails = (t : ℕ) → IsLinkOf (child parents labels) (stop stops) (length fails) t (slice_index fails t)

-- the links lead to earlier ranks, or are dead
abbrev pub LinksFall : List ℕ → Type 0
LinksFall fails = (m : ℕ) → 0 < m → m < length fails → (slice_index fails m < m) ⊎ (slice_index fails m ≡ length fails)

-- starts: where the children of each rank begin, and those of the rank before end; for the first s ranks
pub record AreStartsTo (parents starts : List ℕ) (s : ℕ) : Type 0 where
  pub least : (p : ℕ) → p < s → 0 < slice_index starts p
  pub most : (p : ℕ) → p < s → slice_index starts p ≤ length parents
  pub before : (p m : ℕ) → p < s → 0 < m → m < slice_index starts p → slice_index parents m < p
  pub after : (p m : ℕ) → p < s → slice_index starts p ≤ m → m < length parents → p ≤ slice_index parents m

pub record AreStarts (parents starts : List ℕ) : Type 0 where
  pub each : length starts ≡ suc (length parents)
  pub to : AreStartsTo parents starts (suc (length parents))
