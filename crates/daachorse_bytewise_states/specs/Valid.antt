-- Which parts are those of an automaton, and what a search sees of them.
use Rattle.std.specs.Prelude.{◌≡◌, ℕ, ◌<◌, ◌≤◌, List, length, slice_index_or, true, unwrap_or, Option}
use Rattle.std.proofs.Common.{arith, refl}
use Rattle.daachorse_core.specs.Outputs.{outputs_at}
use Rattle.daachorse_model.specs.declared.MatchKind.TheVariants.{Standard}
use Rattle.daachorse_model.specs.Kinds.{is_leftmost}
use Rattle.daachorse_model.specs.Units.{byte_width}
use Rattle.daachorse_array.specs.Machines.{dead_in}
use Rattle.daachorse_array.specs.Texts.{IsReached, text_of}
use Rattle.daachorse_checker.specs.Sound.{IsSoundArray}
use Rattle.daachorse_search.specs.Views.{AutomatonView, HasNone}
use Rattle.daachorse_bytewise_states.specs.Grouped.{IsGrouped}
use Rattle.daachorse_bytewise_states.specs.Parts.{Parts, child, content, count, machine, word_at}

-- elements that may be looked at, and are a sound array
pub record IsValid {V : Type 0} (p : Parts V) : Type 0 where
  pub grouped : IsGrouped p
  pub sound : IsSoundArray byte_width (machine p) (is_leftmost p.kind) (count p) p.num_states

-- the element of the child of each byte below n, the root where there is none, and the word of that element
pub record IsRootTable (child : ℕ → Option ℕ) (word : ℕ → ℕ) (n : ℕ) (table : List (ℕ × ℕ)) : Type 0 where
  pub size : length table ≡ n
  pub right : (c : ℕ) → c < n → slice_index_or table c (0, 0) ≡ (unwrap_or (child c) 0, word (unwrap_or (child c) 0))

-- what an automaton keeps: valid parts, and the table of the root if the searches are standard
pub record IsStored {V : Type 0} (p : Parts V) (root : List (ℕ × ℕ)) : Type 0 where
  pub valid : IsValid p
  pub table : p.kind ≡ Standard → IsRootTable (child p 0) (word_at p) 256 root

-- ---- what a search sees
module _ {V : Type 0} (p : Parts V) where
  -- the text of an element
  abbrev pub text : ℕ → List ℕ
  text i = text_of (child p) 256 (count p) i

  -- an element that a text leads to
  abbrev pub IsState : ℕ → Type 0
  IsState i = IsReached (child p) 256 (count p) i

  -- the texts whose link is dead: none where the searches are standard
  abbrev pub dead : List ℕ → Type 0
  dead = dead_in byte_width (machine p) (is_leftmost p.kind)

  -- what a search sees of it all, in which some look may tell a link
  abbrev pub sees : AutomatonView V
  sees = record {
    content = content p;
    reached = IsState;
    text = text;
    dead = dead;
    has_label = λ unit. true;
    has_output = λ position. position ≤ length p.outputs;
    outputs = λ position. outputs_at p.outputs position;
    most_outputs = length p.outputs;
    ends_at_once = ⊥;
  }

-- position 0 stands for no output
pub no_output : {V : Type 0} (p : Parts V) → HasNone (sees p)
no_output p = (omega arith, refl)
