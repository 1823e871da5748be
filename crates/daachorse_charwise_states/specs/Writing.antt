-- How the elements come about: each state is written at its place, and then each child is given its parent's place for a check.
use Rattle.std.specs.Prelude.{◌≡◌, ◌≢◌, ℕ, ◌<◌, List, length, slice_index}
use Rattle.daachorse_placement.specs.declared.build_helper.SiblingGroup.{SiblingGroup}
use Rattle.daachorse_placement.specs.Placement.{child_id, children_of, group_parent}
use Rattle.daachorse_charwise_states.specs.declared.state.State.{State}
use Rattle.daachorse_charwise_states.specs.Elements.{base_in, check_in, fail_in, output_in, vacant}
use Rattle.daachorse_charwise_states.specs.Packing.{element_at}
use Rattle.daachorse_patterns.specs.Settled.{AreWritten}

-- the first m states but the dead one are written, with the dead state for a check, and nothing else
abbrev pub HasWritten : ℕ → List ℕ → List ℕ → List ℕ → List ℕ → List State → List State → Type 0
HasWritten m idx bases = AreWritten vacant base_in check_in fail_in output_in m idx bases (λ t. 1)

-- no element differs but in its check
pub record DifferInChecks (old new : List State) : Type 0 where
  pub size : length new ≡ length old
  pub base : (i : ℕ) → base_in (element_at new i) ≡ base_in (element_at old i)
  pub fail : (i : ℕ) → fail_in (element_at new i) ≡ fail_in (element_at old i)
  pub output : (i : ℕ) → output_in (element_at new i) ≡ output_in (element_at old i)

-- the place of child j
abbrev pub place_of : List ℕ → List (ℕ × ℕ) → ℕ → ℕ
place_of idx cs j = slice_index idx (child_id cs j)

-- the first n children have this check, and nothing else has changed
pub record HaveCheck (cs : List (ℕ × ℕ)) (n check : ℕ) (idx : List ℕ) (old new : List State) : Type 0 where
  pub parts : DifferInChecks old new
  pub set : (j : ℕ) → j < n → check_in (element_at new (place_of idx cs j)) ≡ check
  pub kept : (i : ℕ) → ((j : ℕ) → j < n → place_of idx cs j ≢ i) → check_in (element_at new i) ≡ check_in (element_at old i)

-- the children of the first m groups have their parents' places for checks, and nothing else has changed
pub record HaveChecks {A : Type 0} (gs : List (SiblingGroup A)) (m : ℕ) (idx : List ℕ) (old new : List State) : Type 0 where
  pub parts : DifferInChecks old new
  pub set : (k j : ℕ) → k < m → j < length (children_of gs k) → check_in (element_at new (place_of idx (children_of gs k) j)) ≡ slice_index idx (group_parent gs k)
  pub kept : (i : ℕ) → ((k j : ℕ) → k < m → j < length (children_of gs k) → place_of idx (children_of gs k) j ≢ i) → check_in (element_at new i) ≡ check_in (element_at old i)

-- children of two groups have two places
abbrev pub AreGroupsApart : {A : Type 0} → List (SiblingGroup A) → List ℕ → Type 0
AreGroupsApart gs idx =
    (k l i j : ℕ) → k < length gs → l < length gs → i < length (children_of gs k) → j < length (children_of gs l) → place_of idx (children_of gs k) i ≡ place_of idx (children_of gs l) j → k ≡ l
