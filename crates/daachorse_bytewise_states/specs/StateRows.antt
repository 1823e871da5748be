-- Right rows of the states over bytes, and the states near the root, which all have one.
use Rattle.std.specs.Prelude.{◌≡◌, ◌<◌, ◌⊎◌, ℕ}
use Rattle.daachorse_model.specs.Units.{byte_width}
use Rattle.daachorse_rows.specs.Rows.{AreClosed, AreRows, AreTooMany, ClosesOrFills, Covers, RowTable, stands_by}
use Rattle.daachorse_bytewise_states.specs.Parts.{Parts, count}
use Rattle.daachorse_bytewise_states.specs.Valid.{sees}

-- each byte stands for itself
abbrev pub stands_for : ℕ → ℕ → Type 0
stands_for = stands_by (λ (byte : ℕ). byte) (λ label unit. label ≡ unit)

abbrev pub HasRows : {V : Type 0} → Parts V → RowTable → Type 0
HasRows p r = AreRows byte_width (sees p) stands_for r

-- each text of at most two bytes that begins a pattern is that of a state with a row
abbrev pub CoversNear : {V : Type 0} → Parts V → RowTable → Type 0
CoversNear p r = Covers (sees p) stands_for 2 r

-- the root has a row and no slot leads out of the rows, so that a standard search takes one look for each byte
abbrev pub StaysInRows : RowTable → Type 0
StaysInRows r = AreClosed 256 stands_for r

-- they do, or more than 485 states have a text
abbrev pub StaysUnlessLarge : {V : Type 0} → Parts V → RowTable → Type 0
StaysUnlessLarge p r = ClosesOrFills 256 (sees p) stands_for 485 r

-- more than 485 states have a text of at most two bytes, or the elements are more than there are cells
abbrev pub HasNoRoom : {V : Type 0} → Parts V → Type 0
HasNoRoom p = AreTooMany (sees p) stands_for 2 485 ⊎ (4294901760 < count p)
