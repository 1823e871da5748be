-- Right rows of the states over characters, the labels that stand in them, and the states near the root, which all have a row.
use Rattle.std.specs.Prelude.{◌≡◌, ◌+◌, ◌<◌, ◌≤◌, ◌^◌, ◌⊎◌, ◌||◌, ℕ, true, Some, nat_lt}
use Rattle.daachorse_model.specs.Units.{char_width}
use Rattle.daachorse_rows.specs.Rows.{AreClosed, AreRows, AreTooMany, ClosesOrFills, Covers, RowTable, stands_by}
use Rattle.daachorse_search.specs.Views.{AutomatonView}
use Rattle.daachorse_charwise_states.specs.Edges.{Lettered, character_of}
use Rattle.daachorse_charwise_states.specs.Parts.{Parts, char_code, count}
use Rattle.daachorse_charwise_states.specs.Valid.{has_code, sees}

-- an ASCII character is its own label, and any other has one behind these, by its code
abbrev pub stands_for : {V : Type 0} → Parts V → ℕ → ℕ → Type 0
stands_for p label unit =
    ((unit < 128) × (label ≡ unit)) ⊎ ((128 ≤ unit) × (code : ℕ) × (char_code p.coding unit ≡ Some code) × (label ≡ 128 + code))

-- what a search with rows sees: each ASCII character has a label
abbrev pub sees_ascii : {V : Type 0} → Parts V → AutomatonView V
sees_ascii p = record (sees p) { has_label = λ unit. nat_lt unit 128 || has_code p unit }

-- the label is that of an ASCII character with a code, or that of the code of another
abbrev pub IsUsed : {V : Type 0} → Lettered V → ℕ → Type 0
IsUsed a label = ((label < 128) × (has_code a.parts label ≡ true))
    ⊎ ((unit code : ℕ) × (128 ≤ unit) × (character_of a code ≡ Some unit) × (label ≡ 128 + code))

abbrev pub HasRows : {V : Type 0} → Parts V → RowTable → Type 0
HasRows p r = AreRows char_width (sees_ascii p) (stands_by (λ (label : ℕ). label) (stands_for p)) r

-- each text of at most two characters, which are ASCII or have codes below 510, that begins a pattern is that of a state with a row
abbrev pub CoversNear : {V : Type 0} → Parts V → RowTable → Type 0
CoversNear p r = Covers (sees_ascii p) (stands_by (λ (label : ℕ). label) (stands_for p)) 2 r

-- each code is below 510, but for those of ASCII characters
abbrev pub HasFewCodes : {V : Type 0} → Parts V → Type 0
HasFewCodes p = (unit code : ℕ) → 128 ≤ unit → char_code p.coding unit ≡ Some code → code < 510

-- each label has a slot, the root has a row and no slot leads out of the rows, so that a standard search takes one look for each character
abbrev pub StaysInRows : {V : Type 0} → Parts V → RowTable → Type 0
StaysInRows p r = AreClosed (2 ^ 32) (stands_by (λ (label : ℕ). label) (stands_for p)) r

-- so it is, or more than 196 states have a text
abbrev pub StaysUnlessLarge : {V : Type 0} → Parts V → RowTable → Type 0
StaysUnlessLarge p r = ClosesOrFills (2 ^ 32) (sees_ascii p) (stands_by (λ (label : ℕ). label) (stands_for p)) 196 r

-- more than 196 states have a text of at most two such characters, or the elements are more than there are cells
abbrev pub HasNoRoom : {V : Type 0} → Parts V → Type 0
HasNoRoom p = AreTooMany (sees_ascii p) (stands_by (λ (label : ℕ). label) (stands_for p)) 2 196 ⊎ (4294901760 < count p)
