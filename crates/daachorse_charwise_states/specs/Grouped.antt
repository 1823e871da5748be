-- Which elements may be looked at, whatever else the parts are.
use Rattle.std.specs.Prelude.{◌≡◌, ℕ, ◌<◌, ◌%◌, max, List, length, slice_index_or}
use Rattle.std.specs.Int.{IsNextPowerOfTwo}
use Rattle.daachorse_charwise_states.specs.Codings.{Coding, IsCoding}
use Rattle.daachorse_charwise_states.specs.declared.state.State.{State}
use Rattle.daachorse_charwise_states.specs.Elements.{base_in, vacant}

-- n elements are whole blocks. A block is as long as the least power of two that is at least 2 and at least the size of the alphabet, which is a number of 32 bits.
pub record HasBlocks (coding : Coding) (n : ℕ) : Type 0 where
  pub block : ℕ
  pub power : IsNextPowerOfTwo (max 2 coding.alphabet_size) block
  pub fits : block < 4294967296
  pub whole : n % block ≡ 0

-- each base is an element
abbrev pub AreBases : List State → Type 0
AreBases elements = (i : ℕ) → i < length elements → base_in (slice_index_or elements i vacant) < length elements

-- What the children of elements rest on: whole blocks, at least one, bases that are elements, and codes that tell characters apart.
pub record IsGrouped (coding : Coding) (elements : List State) : Type 0 where
  pub blocks : HasBlocks coding (length elements)
  pub some : 0 < length elements
  pub bases : AreBases elements
  pub codes : IsCoding coding
