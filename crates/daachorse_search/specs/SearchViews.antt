-- The walks of the standard searches as contracts see them.
use Rattle.std.specs.Prelude.{◌≢◌, ℕ, [], take}
use Rattle.daachorse_core.specs.Seen.{units}
use Rattle.daachorse_search.specs.Searches.{all_found, first_found, standard_found}
use Rattle.daachorse_search.specs.Stepwise.{StepView, AreBounded, AreBoundedSince, looks_unless_empty}
use Rattle.daachorse_search.specs.Views.{AutomatonView, HasDepths}
use Rattle.daachorse_search.specs.Walks.{Walked, HasPlace, matches_from}

module _ {V A : Type 0} (width : ℕ → ℕ) (sees : A → AutomatonView V) where
  -- all matches are found
  abbrev pub all_view : StepView V A (Walked A)
  all_view = record {
    automaton = λ s. s.automaton;
    content = λ a. (sees a).content;
    has_depths = λ a depths. HasDepths (sees a) depths;
    read = λ s. units s.seen;
    turns = λ s. s.turns;
    found = all_found width sees;
    most_found = λ a. (sees a).most_outputs;
    has_output = λ s position. HasPlace width (sees s.automaton) s.seen position;
    given_from = λ s position. matches_from width (sees s.automaton) s.seen position;
    everywhere = λ s. ⊥;
    looks_at = λ a. (sees a).has_label;
    ends_at_once = λ a. (sees a).ends_at_once;
    bounds = λ a read turns. AreBounded (sees a) read turns;
  }

  -- the first of those at each end
  abbrev pub first_view : StepView V A (Walked A)
  first_view = record all_view {
    found = first_found width sees;
    most_found = λ a. 1;
    given_from = λ s position. take 1 (matches_from width (sees s.automaton) s.seen position);
  }

  -- the standard search's
  abbrev pub standard_view : StepView V A (Walked A)
  standard_view = record first_view {
    found = standard_found width sees;
    everywhere = λ s. (sees s.automaton).content [] ≢ [];
    looks_at = λ a. looks_unless_empty (sees a);
    bounds = λ a read turns. AreBoundedSince width (sees a) read turns;
  }
