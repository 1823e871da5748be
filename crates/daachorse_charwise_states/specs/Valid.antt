-- Which parts are those of an automaton, and what a search sees of them.
use Rattle.std.specs.Prelude.{ℕ, ◌<◌, ◌≤◌, ◌^◌, Bool, List, length, is_some}
use Rattle.std.proofs.Common.{arith, refl}
use Rattle.daachorse_core.specs.Outputs.{outputs_at}
use Rattle.daachorse_model.specs.Kinds.{is_leftmost}
use Rattle.daachorse_model.specs.Units.{char_width}
use Rattle.daachorse_array.specs.Machines.{dead_in}
use Rattle.daachorse_array.specs.Texts.{IsReached, text_of}
use Rattle.daachorse_checker.specs.Sound.{IsSoundArray}
use Rattle.daachorse_search.specs.Views.{AutomatonView, HasNone}
use Rattle.daachorse_charwise_states.specs.Grouped.{IsGrouped}
use Rattle.daachorse_charwise_states.specs.Parts.{Parts, char_code, child, content, count, machine}

module _ {V : Type 0} (p : Parts V) where
  -- a number of 32 bits counts the elements, and one the outputs
  pub record AreFew : Type 0 where
    pub elements : count p < 2 ^ 32
    pub outputs : length p.outputs < 2 ^ 32

  -- elements that may be looked at, and are a sound array
  pub record IsValid : Type 0 where
    pub grouped : IsGrouped p.coding p.states
    pub few : AreFew
    pub sound : IsSoundArray char_width (machine p) (is_leftmost p.kind) (count p) p.num_states

-- ---- what a search sees
module _ {V : Type 0} (p : Parts V) where
  -- the text of an element
  abbrev pub text : ℕ → List ℕ
  text i = text_of (child p) (length p.coding.table) (count p) i

  -- an element that a text leads to
  abbrev pub IsState : ℕ → Type 0
  IsState i = IsReached (child p) (length p.coding.table) (count p) i

  -- a character that has a code
  abbrev pub has_code : ℕ → Bool
  has_code u = is_some (char_code p.coding u)

  -- the texts whose link is dead: none where the searches are standard
  abbrev pub dead : List ℕ → Type 0
  dead = dead_in char_width (machine p) (is_leftmost p.kind)

  -- what a search sees of it all, in which some look may tell a link
  abbrev pub sees : AutomatonView V
  sees = record {
    content = content p;
    reached = IsState;
    text = text;
    dead = dead;
    has_label = has_code;
    has_output = λ position. position ≤ length p.outputs;
    outputs = λ position. outputs_at p.outputs position;
    most_outputs = length p.outputs;
    ends_at_once = ⊥;
  }

-- position 0 stands for no output
pub no_output : {V : Type 0} (p : Parts V) → HasNone (sees p)
no_output p = (omega arith, refl)
