-- A filter of places, as a search sees it: where it passes, what it passes over, and what it is sound for.
use Rattle.std.specs.Prelude.{◌≡◌, ℕ, ◌+◌, ◌<◌, ◌⊎◌, Bool, true, false, cond, ◌&&◌, List, [], ◌∷◌, ◌++◌, length}
use Rattle.daachorse_model.specs.Dictionary.{Dictionary}
use Rattle.daachorse_model.specs.Prefixes.{IsKey}

-- `passes` says whether the filter passes where these units are all that is still to come.
module _ (passes : List ℕ → Bool) where
  -- it passes wherever a key is at the beginning of what is still to come
  abbrev pub IsSoundFor : {V : Type 0} → Dictionary V → Type 0
  IsSoundFor K = (key rest : List ℕ) → IsKey K key → passes (key ++ rest) ≡ true

  -- it passes at no place of the units before `later`, which they end with
  abbrev pub PassesNoneBefore : List ℕ → List ℕ → Type 0
  PassesNoneBefore later units = (front rest : List ℕ) → units ≡ front ++ rest → length later < length rest → passes rest ≡ false

  -- it passes at none of the units
  abbrev pub PassesNowhere : List ℕ → Type 0
  PassesNowhere units = PassesNoneBefore [] units

  -- `later` begins at the first place of the units that passes, or is their end
  pub record IsNextPassing (units later : List ℕ) : Type 0 where
    pub front : List ℕ
    pub parts : units ≡ front ++ later
    pub none : PassesNoneBefore later units
    pub here : (later ≡ []) ⊎ (passes later ≡ true)

  -- of the units passed, with which `whole` begins, how many have a label and stand where the filter passes
  abbrev pub count_passing : (ℕ → Bool) → List ℕ → List ℕ → ℕ
  count_passing has_label whole [] = 0
  count_passing has_label [] (p ∷ passed) = 0
  count_passing has_label (u ∷ whole) (p ∷ passed) = cond (has_label u && passes (u ∷ whole)) 1 0 + count_passing has_label whole passed
