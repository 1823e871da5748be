-- What a view shows of the elements that it borrows: valid parts, read off these and what stands beside them.
use Rattle.std.specs.Prelude.{◌≡◌, ℕ, ◌<◌, Bool, cond, List, length, slice_index_or}
use Rattle.daachorse_core.specs.declared.outputs.Empty.{Empty}
use Rattle.daachorse_core.specs.declared.outputs.Output.{Output}
use Rattle.daachorse_model.specs.declared.MatchKind.{MatchKind}
use Rattle.daachorse_model.specs.Kinds.{is_leftmost}
use Rattle.daachorse_bytewise_states.specs.declared.state.State.{State}
use Rattle.daachorse_bytewise_states.specs.Elements.{base_in, check_in, output_in}
use Rattle.daachorse_bytewise_states.specs.Parts.{Parts, base_of, check_of, count, fail_of, output_of, parts_with}
use Rattle.daachorse_bytewise_states.specs.Valid.{IsStored}

-- the elements with their links; those without, and the links
abbrev pub ElementLists : Type 0
ElementLists = List (State ℕ) × List (State Empty) × List ℕ

abbrev pub seen_parts : {V : Type 0} → MatchKind → ElementLists → List (Output V) → ℕ → Parts V
seen_parts kind lists outputs n = parts_with kind lists.0 lists.1 lists.2 outputs n

-- Valid parts for leftmost searches or for standard ones, whose elements are these, whatever stands past the last.
pub record IsSeen {V F B : Type 0} (leftmost : Bool) (link : State F → List B → ℕ → ℕ) (elements : List (State F)) (beside : List B) (root : List (ℕ × ℕ)) (p : Parts V) : Type 0 where
  pub stored : IsStored p root
  pub kind : is_leftmost p.kind ≡ leftmost
  pub size : count p ≡ length elements
  pub size_beside : length beside ≡ cond leftmost (length elements) 256
  pub base : (i : ℕ) (d : State F) → i < length elements → base_of p i ≡ base_in (slice_index_or elements i d)
  pub check : (i : ℕ) (d : State F) → i < length elements → check_of p i ≡ check_in (slice_index_or elements i d)
  pub fail : (i : ℕ) (d : State F) → i < length elements → fail_of p i ≡ link (slice_index_or elements i d) beside i
  pub output : (i : ℕ) (d : State F) → i < length elements → output_of p i ≡ output_in (slice_index_or elements i d)
