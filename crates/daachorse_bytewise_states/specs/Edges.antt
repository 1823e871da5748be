-- The edges of a double array over bytes: an element is in the group of the base from which its check leads to it.
use Rattle.std.specs.Prelude.{ℕ, zero, suc, bit_xor, Option, Some, None}
use Rattle.daachorse_bytewise_states.specs.Parts.{Parts, base_of, check_of}

-- the number, if it is not 0
abbrev pub nonzero : ℕ → Option ℕ
nonzero zero = None
nonzero (suc k) = Some (suc k)

module _ {V : Type 0} (p : Parts V) where
  -- the group of an element's children is its base
  abbrev pub group_of : ℕ → Option ℕ
  group_of i = nonzero (base_of p i)

  -- an element's group, and its byte
  abbrev pub edge_of : ℕ → Option (ℕ × ℕ)
  edge_of j = Some (bit_xor j (check_of p j), check_of p j)
