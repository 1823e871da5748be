-- What holds of a `BreadthFirstTraversal` between two calls.
use Rattle.std.specs.Prelude.{◌≡◌, ℕ, ◌<◌, Bool, ◌⊎◌, List, [], ◌∷◌, ◌++◌, Some, length, slice_index, unwrap_or}
use Rattle.std.specs.declared.cmp.Ordering.{Ordering}
use Rattle.daachorse_model.specs.Paths.{Leads}
use Rattle.daachorse_build.specs.declared.nfa_builder.NfaBuilderState.{NfaBuilderState}
use Rattle.daachorse_build.specs.declared.nfa_builder.links.BreadthFirstTraversal.{BreadthFirstTraversal}
use Rattle.daachorse_build.specs.Left.{long_unless_stop, IsStateOf}
use Rattle.daachorse_build.specs.Tables.{edges_of, child_in, stops_of}
use Rattle.daachorse_build.specs.Orders.{IsTraversal, IsKnown, children}

-- the traversal is of these states, and the children pending of the next state are in the queue
abbrev pub Traverses : {L V A : Type 0} → (L → L → Ordering) → List (NfaBuilderState L V A) → BreadthFirstTraversal A → List ℕ → Type 0
Traverses cmp states traversal pending =
    IsTraversal cmp (stops_of traversal.leftmost states) (edges_of states) (children (edges_of states) 0) traversal.links.items traversal.order.items traversal.next pending

-- t is what a label leads to from start or the links after it
abbrev pub LeadsTo : {L : Type 0} → (L → L → Ordering) → (ℕ → Bool) → List (List (L × ℕ)) → ℕ → L → ℕ → Type 0
LeadsTo {L} cmp stops edges start c t =
    (w : List L) → Leads (child_in cmp edges) w start → IsStateOf (child_in cmp edges) (long_unless_stop (child_in cmp edges) stops (w ++ c ∷ [])) t

-- t is dead, or the root, or a child of a state that is known
abbrev pub ComesFrom : {L : Type 0} → (L → L → Ordering) → List (List (L × ℕ)) → List ℕ → L → ℕ → Type 0
ComesFrom cmp edges done c r = (r ≡ 1) ⊎ ((r ≡ 0) ⊎ ((f : ℕ) × IsKnown done f × (child_in cmp edges f c ≡ Some r)))

-- at each number below 256 that a label has stands the id of the root's child by that label, and 0 where the root has none
pub record AreRootChildren {L : Type 0} (cmp : L → L → Ordering) (unit : L → ℕ) (edges : List (List (L × ℕ))) (ids : List ℕ) : Type 0 where
  pub each_number : length ids ≡ 256
  pub right : (c : L) → unit c < 256 → slice_index ids (unit c) ≡ unwrap_or (child_in cmp edges 0 c) 0
