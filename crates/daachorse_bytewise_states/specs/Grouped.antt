-- Which elements may be looked at, whatever else the parts are.
use Rattle.std.specs.Prelude.{◌≡◌, ℕ, ◌<◌, ◌%◌, ◌^◌, Bool, true, false, List, [], length, slice_index_or}
use Rattle.daachorse_core.specs.declared.outputs.Empty.{Empty}
use Rattle.daachorse_model.specs.Kinds.{is_leftmost}
use Rattle.daachorse_bytewise_states.specs.declared.state.State.{State}
use Rattle.daachorse_bytewise_states.specs.Elements.{base_in, vacant, vacant_left}
use Rattle.daachorse_bytewise_states.specs.Parts.{Parts, base_of, count}

-- Elements in whole blocks, at least one, whose bases are elements. So a base leads by each byte to an element.
pub record AreBlocks {F : Type 0} (default : State F) (elements : List (State F)) : Type 0 where
  pub blocks : length elements % 256 ≡ 0
  pub some : 0 < length elements
  pub bases : (i : ℕ) → i < length elements → base_in (slice_index_or elements i default) < length elements

-- the lists of leftmost searches, or of standard ones
abbrev pub AreLists : Bool → List (State ℕ) → List (State Empty) → List ℕ → Type 0
AreLists false standard leftmost fails = (length leftmost ≡ 0) × (length fails ≡ 0) × AreBlocks vacant standard
AreLists true standard leftmost fails = (length standard ≡ 0) × (length fails ≡ length leftmost) × AreBlocks vacant_left leftmost

module _ {V : Type 0} (p : Parts V) where
  -- which lists are used
  abbrev pub HasShape : Bool → Type 0
  HasShape false = (p.leftmost ≡ []) × (p.fails ≡ [])
  HasShape true = (p.standard ≡ []) × (length p.fails ≡ length p.leftmost)

  -- a number of 32 bits counts the elements, and so the links, and one counts the outputs
  pub record AreFew : Type 0 where
    pub elements : count p < 2 ^ 32
    pub outputs : length p.outputs < 2 ^ 32

  -- What a look at an element rests on: the lists are those of the kind, and each base leads by each byte to an element.
  pub record IsGrouped : Type 0 where
    -- whole blocks, at least one
    pub blocks : count p % 256 ≡ 0
    pub some : 0 < count p
    pub few : AreFew
    pub shape : HasShape (is_leftmost p.kind)
    pub bases : (i : ℕ) → i < count p → base_of p i < count p
