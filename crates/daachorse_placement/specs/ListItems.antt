-- What an item of a linked list tells: two places and two flags, each of which is set by itself.
use Rattle.std.specs.Prelude.{ℕ, Bool, true}
use Rattle.std.specs.Borrow.{Lends, MutBor, Fml, u32}
use Rattle.daachorse_placement.specs.declared.build_helper.list_item.ListItem.{ListItem}
use Rattle.daachorse_placement.specs.contracts.build_helper.list_item.ListItem.{the_row}

abbrev pub next_of : ListItem → ℕ
next_of i = i.next

abbrev pub prev_of : ListItem → ℕ
prev_of i = i.prev

-- whether the base is used, and whether the element is
abbrev pub has_base : ListItem → Bool
has_base i = i.used_base

abbrev pub has_index : ListItem → Bool
has_index i = i.used_index

abbrev pub with_next : ListItem → ℕ → ListItem
with_next i place = record i { next = place }

abbrev pub with_prev : ListItem → ℕ → ListItem
with_prev i place = record i { prev = place }

abbrev pub with_base : ListItem → ListItem
with_base i = record i { used_base = true }

abbrev pub with_index : ListItem → ListItem
with_index i = record i { used_index = true }

-- the item ends with the last place behind r as its next, or as its previous one
abbrev pub LendsNext : MutBor ListItem → MutBor ℕ → Fml
LendsNext i r = Lends the_row u32 i r (with_next i.now)

abbrev pub LendsPrev : MutBor ListItem → MutBor ℕ → Fml
LendsPrev i r = Lends the_row u32 i r (with_prev i.now)
