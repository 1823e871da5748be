-- The edges of a double array over characters: an element's check is its parent, and the parent's base leads to it by the code of their character.
use Rattle.std.specs.Prelude.{◌≡◌, ℕ, ◌<◌, ◌==◌, bit_xor, cond, List, length, slice_index_or, Option, Some, None, option_map}
use Rattle.std.proofs.Math.Utf8.{scalar}
use Rattle.daachorse_charwise_states.specs.Codings.{Coding}
use Rattle.daachorse_charwise_states.specs.Parts.{Parts, base_of, char_code, check_of}
use Rattle.daachorse_charwise_states.specs.Valid.{AreFew}

-- the character at a code point, if there is one
abbrev pub character_at : ℕ → Option ℕ
character_at u = cond (scalar u) (Some u) None

-- Of each code its character, if a character below n has the code.
pub record AreCharacters (coding : Coding) (n : ℕ) (characters : List (Option ℕ)) : Type 0 where
  pub size : length characters ≡ coding.alphabet_size
  pub from_code : (u k : ℕ) → u < n → char_code coding u ≡ Some k → slice_index_or characters k None ≡ Some u
  pub to_code : (u k : ℕ) → slice_index_or characters k None ≡ Some u → char_code coding u ≡ Some k

-- the parts, and the character of each code
pub record Lettered (V : Type 0) : Type 0 where
  pub parts : Parts V
  pub characters : List (Option ℕ)

-- The characters are those of the codes, and all lists can be counted. Whether the parts are valid is not said.
pub record IsLettered {V : Type 0} (a : Lettered V) : Type 0 where
  pub few : AreFew a.parts
  pub letters : AreCharacters a.parts.coding (length a.parts.coding.table) a.characters

module _ {V : Type 0} (a : Lettered V) where
  -- the character of a code, if there is one
  abbrev pub character_of : ℕ → Option ℕ
  character_of k = slice_index_or a.characters k None

  -- the edge from element i to element j, if i has children
  abbrev pub edge_between : ℕ → ℕ → Option (ℕ × ℕ)
  edge_between i j = cond (base_of a.parts i == 0) None (option_map (λ u. (i, u)) (character_of (bit_xor (base_of a.parts i) j)))

  -- the edge from its parent to element j
  abbrev pub edge_of : ℕ → Option (ℕ × ℕ)
  edge_of j = edge_between (check_of a.parts j) j
