-- The reached elements of an array, as a walk lists them: each after those whose texts come before its own.
use Rattle.std.specs.Prelude.{◌≡◌, ◌≢◌, ◌⊎◌, ℕ, zero, suc, ◌<◌, List, [], ◌∷◌, ◌++◌, length, map, reverse, slice_index, Option, Some}
use Rattle.std.specs.List.{AllByRecursion}
use Rattle.std.specs.Cmp.Lexicographic.{slice_cmp}
use Rattle.std.specs.Ordering.{nat_cmp}
use Rattle.std.specs.declared.cmp.Ordering.TheVariants.{Less}
use Rattle.daachorse_array.specs.Texts.{IsReached, text_of}
use Rattle.daachorse_array.specs.Edges.{children_below, put_before}

-- x is one of these
abbrev pub IsAmong : List ℕ → ℕ → Type 0
IsAmong [] x = ⊥
IsAmong (y ∷ ys) x = (x ≡ y) ⊎ IsAmong ys x

-- R holds of each and each later one
abbrev pub Pairs : {X : Type 0} → (X → X → Type 0) → List X → Type 0
Pairs R [] = Unit {0}
Pairs R (x ∷ xs) = AllByRecursion (R x) xs × Pairs R xs

-- the elements of children with their units, the last first
abbrev pub elements_of : List (ℕ × ℕ) → List ℕ
elements_of list = map (λ child. child.1) (reverse list)

-- Of a table in which the entries of all kids are to be x, and all others to stay: those of the kids that are left may be not yet written.
pub record IsMarking (kids left : List ℕ) (x : ℕ) (old new : List ℕ) : Type 0 where
  pub size : length new ≡ length old
  pub within : (k : ℕ) → IsAmong left k → IsAmong kids k
  pub written : (k : ℕ) → IsAmong kids k → IsAmong left k ⊎ (slice_index new k ≡ x)
  pub other : (k : ℕ) → ¬ IsAmong kids k → slice_index new k ≡ slice_index old k

-- What the children of one element are noted as: each was put at the end of the list once, and has this depth.
pub record IsNoting (from : ℕ → Option ℕ) (depth : ℕ) (reached depths more deeper : List ℕ) : Type 0 where
  pub kids : List ℕ
  pub all : more ≡ reached ++ kids
  pub child : (j : ℕ) → IsAmong kids j → (c : ℕ) × (from c ≡ Some j)
  pub complete : (c j : ℕ) → from c ≡ Some j → IsAmong kids j
  pub once : Pairs ◌≢◌ kids
  pub marked : IsMarking kids [] depth depths deeper

-- v has the lesser unit where the two first differ
abbrev pub Diverges : List ℕ → List ℕ → Type 0
Diverges [] w = ⊥
Diverges (a ∷ v) [] = ⊥
Diverges (a ∷ v) (b ∷ w) = (a < b) ⊎ ((a ≡ b) × Diverges v w)

module _ (child : ℕ → ℕ → Option ℕ) (n m : ℕ) where
  abbrev pub text : ℕ → List ℕ
  text i = text_of child m n i

  -- the text of i comes before that of j
  abbrev pub ComesBefore : ℕ → ℕ → Type 0
  ComesBefore i j = slice_cmp nat_cmp (text i) (text j) ≡ Less

  -- all reached elements in the order of their texts
  pub record IsListed (order : List ℕ) : Type 0 where
    pub reached : (i : ℕ) → IsAmong order i → IsReached child m n i
    pub complete : (i : ℕ) → IsReached child m n i → IsAmong order i
    pub rising : Pairs ComesBefore order

  -- the texts of i and j differ, first at a lesser unit of i's
  abbrev pub Apart : ℕ → ℕ → Type 0
  Apart i j = Diverges (text i) (text j)

  -- the elements that were taken, in order, and those that were put aside: what the first of these lead to comes before what the others do
  pub record IsWalk (taken aside : List ℕ) : Type 0 where
    pub reached : (i : ℕ) → IsAmong taken i ⊎ IsAmong aside i → IsReached child m n i
    pub root : IsAmong taken 0 ⊎ IsAmong aside 0
    pub closed : (i c j : ℕ) → IsAmong taken i → child i c ≡ Some j → IsAmong taken j ⊎ IsAmong aside j
    pub rising : Pairs ComesBefore taken
    pub apart : Pairs Apart aside
    pub across : (i j : ℕ) → IsAmong taken i → IsAmong aside j → ComesBefore i j

  -- the elements that are taken in at most so many steps: the first that is put aside, and then its children ahead of the others
  abbrev pub taken_from : ℕ → List ℕ → List ℕ
  taken_from zero aside = []
  taken_from (suc steps) [] = []
  taken_from (suc steps) (x ∷ aside) = x ∷ taken_from steps (put_before (children_below child x m) aside)
