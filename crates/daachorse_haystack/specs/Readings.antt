-- What a search reads of the items that a source gives: each as it is, or folded.
use Rattle.std.specs.Prelude.{◌≡◌, ℕ, Bool, true, false, List, Option}
use Rattle.std.specs.Option.{option_map}
use Rattle.daachorse_model.specs.Folding.{folded_unit, folded}

-- what an item is read as
abbrev pub item_as_read : {U : Type 0} → Bool → (U → U) → U → U
item_as_read true fold = fold
item_as_read false fold = λ u. u

-- the unit that an item is read as
abbrev pub unit_as_read : {U : Type 0} → Bool → (U → ℕ) → U → ℕ
unit_as_read true unit = λ u. folded_unit (unit u)
unit_as_read false unit = unit

-- a call gave what an item of the source is read as
abbrev pub GivesAsRead : {S U : Type 0} → (U → U) → (S → Option U → S → Type 0) → Bool → S → Option U → S → Type 0
GivesAsRead {U = U} fold steps folds s r t = (o : Option U) × steps s o t × (r ≡ option_map (item_as_read folds fold) o)

-- a search that read these units, as they were read, may go on with the source
abbrev pub MayReadAsRead : {S : Type 0} → (S → List ℕ → Type 0) → Bool → S → List ℕ → Type 0
MayReadAsRead may_read true s read = (units : List ℕ) × may_read s units × (folded units ≡ read)
MayReadAsRead may_read false s read = may_read s read
