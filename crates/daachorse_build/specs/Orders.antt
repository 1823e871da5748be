-- The breadth-first order of the states, and the failure links.
use Rattle.std.specs.Prelude.{◌≡◌, ℕ, Bool, ◌<◌, ◌≤◌, ◌⊎◌, List, [], ◌++◌, length, take, slice_index, slice_index_or, Contains}
use Rattle.std.specs.declared.cmp.Ordering.{Ordering}
use Rattle.std.specs.List.{flat_map}
use Rattle.std.specs.Map.{values_of}
use Rattle.daachorse_build.specs.declared.nfa_builder.NfaBuilderState.{NfaBuilderState}
use Rattle.daachorse_build.specs.Trie.{IsFailOf}
use Rattle.daachorse_build.specs.Left.{IsLeftFailOf}
use Rattle.daachorse_build.specs.Tables.{child_in, edges_of, fails_of, stops_of}

-- the root, or an element
abbrev pub IsKnown : List ℕ → ℕ → Type 0
IsKnown xs t = (t ≡ 0) ⊎ Contains xs t

-- the children of a state, by rising labels
abbrev pub children : {L : Type 0} → List (List (L × ℕ)) → ℕ → List ℕ
children edges s = values_of (slice_index_or edges s [])

-- the states but the root, those nearer to it first
abbrev pub IsBreadthFirst : {L : Type 0} → List (List (L × ℕ)) → List ℕ → Type 0
IsBreadthFirst edges order = order ≡ children edges 0 ++ flat_map (children edges) order

-- each state's link is the root or stands before it
abbrev pub LinksComeFirst : List ℕ → List ℕ → Type 0
LinksComeFirst fails order = (i : ℕ) → i < length order → IsKnown (take i order) (slice_index fails (slice_index order i))

-- no state stands twice
abbrev pub StandOnce : List ℕ → Type 0
StandOnce order = (i : ℕ) → i < length order → Contains (take i order) (slice_index order i) → ⊥

-- each state's link is right
abbrev pub AllLinked : {L : Type 0} → (L → L → Ordering) → List (List (L × ℕ)) → List ℕ → List ℕ → Type 0
AllLinked cmp edges fails order = (t : ℕ) → Contains order t → IsFailOf (child_in cmp edges) t (slice_index fails t)

-- the order is breadth-first, and the links of its states are right
pub record IsLinked {L : Type 0} (cmp : L → L → Ordering) (edges : List (List (L × ℕ))) (fails order : List ℕ) : Type 0 where
  pub first : IsBreadthFirst edges order
  pub linked : AllLinked cmp edges fails order
  pub earlier : LinksComeFirst fails order
  pub once : StandOnce order

abbrev pub HoldLinks : {L V A : Type 0} → (L → L → Ordering) → List (NfaBuilderState L V A) → List ℕ → Type 0
HoldLinks cmp states order = IsLinked cmp (edges_of states) (fails_of states) order

-- dead, or known
abbrev pub IsLinkAmong : List ℕ → ℕ → Type 0
IsLinkAmong xs t = (t ≡ 1) ⊎ IsKnown xs t

-- each state's link is dead, or the root, or stands before it
abbrev pub LeftLinksComeFirst : List ℕ → List ℕ → Type 0
LeftLinksComeFirst fails order = (i : ℕ) → i < length order → IsLinkAmong (take i order) (slice_index fails (slice_index order i))

-- each state's leftmost link is right
abbrev pub AllLeftLinked : {L : Type 0} → (L → L → Ordering) → (ℕ → Bool) → List (List (L × ℕ)) → List ℕ → List ℕ → Type 0
AllLeftLinked cmp stops edges fails order = (t : ℕ) → Contains order t → IsLeftFailOf (child_in cmp edges) stops t (slice_index fails t)

-- the order is breadth-first, and the leftmost links of its states are right
pub record IsLeftLinked {L : Type 0} (cmp : L → L → Ordering) (stops : ℕ → Bool) (edges : List (List (L × ℕ))) (fails order : List ℕ) : Type 0 where
  pub first : IsBreadthFirst edges order
  pub linked : AllLeftLinked cmp stops edges fails order
  pub earlier : LeftLinksComeFirst fails order
  pub once : StandOnce order

-- the links are leftmost, where the states with own outputs stop; with no such state they are the standard ones
abbrev pub HoldLeftLinks : {L V A : Type 0} → (L → L → Ordering) → Bool → List (NfaBuilderState L V A) → List ℕ → Type 0
HoldLeftLinks cmp leftmost states order = IsLeftLinked cmp (stops_of leftmost states) (edges_of states) (fails_of states) order

-- the links are of that kind, the root's is the root, and the states of the order are neither the root nor dead
pub record HaveLinks {L V A : Type 0} (cmp : L → L → Ordering) (leftmost : Bool) (states : List (NfaBuilderState L V A)) (order : List ℕ) : Type 0 where
  pub links : HoldLeftLinks cmp leftmost states order
  pub root : slice_index (fails_of states) 0 ≡ 0
  pub within : (t : ℕ) → Contains order t → (1 < t) × (t < length states)

-- a traversal whose first next states have been left, and which stands at the children pending of the one after them; of the root's children the list start is in the queue, and the root's link is the root
pub record IsTraversal {L : Type 0} (cmp : L → L → Ordering) (stops : ℕ → Bool) (edges : List (List (L × ℕ))) (start fails order : List ℕ) (next : ℕ) (pending : List ℕ) : Type 0 where
  pub queue : order ≡ (start ++ flat_map (children edges) (take next order)) ++ pending
  pub within : next ≤ length order
  pub states : (t : ℕ) → Contains order t → (1 < t) × (t < length edges)
  pub one_each : length fails ≡ length edges
  pub root : slice_index fails 0 ≡ 0
  pub linked : AllLeftLinked cmp stops edges fails order
  pub earlier : LeftLinksComeFirst fails order
  pub once : StandOnce order
