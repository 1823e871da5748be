-- What contracts see of a list of few items: its items, in order.
use Rattle.std.specs.Prelude.{◌≤◌, List, [], ◌∷◌, length, ⊤}
use Rattle.daachorse_build.specs.declared.few.Few.{Few}
use Rattle.daachorse_build.specs.declared.few.Few.TheVariants.{Empty, One, Many}

-- the items, whichever the case
abbrev pub items_of : {T A : Type 0} → Few T A → List T
items_of Empty = []
items_of (One x) = x ∷ []
items_of (Many xs) = xs.value.items

-- a vector is there for two items or more
abbrev pub SpillsFromTwo : {T A : Type 0} → Few T A → Type 0
SpillsFromTwo Empty = ⊤
SpillsFromTwo (One x) = ⊤
SpillsFromTwo (Many xs) = 2 ≤ length xs.value.items
