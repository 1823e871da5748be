-- The groups of siblings of a trie: each state that has edges is the parent of one, with its children in order of labels.
use Rattle.std.specs.Prelude.{◌≡◌, ◌≢◌, ℕ, ◌+◌, ◌-◌, ◌^◌, ◌<◌, ◌≤◌, ◌⊎◌, min, sum_by, Bool, true, false, List, [], ◌∷◌, length, map, slice_index, slice_index_or, Contains, Some}
use Rattle.std.specs.declared.cmp.Ordering.{Ordering}
use Rattle.std.specs.List.{All, AllZip, AllAdjacentBelow}
use Rattle.daachorse_model.specs.Paths.{Leads}
use Rattle.daachorse_placement.specs.declared.build_helper.SiblingGroup.{SiblingGroup}
use Rattle.daachorse_placement.specs.declared.build_helper.profile.Profile.{Profile}
use Rattle.daachorse_placement.specs.Placement.{children_of, group_parent, AreGroups}
use Rattle.daachorse_build.specs.declared.nfa_builder.NfaBuilderState.{NfaBuilderState}
use Rattle.daachorse_build.specs.Tables.{edges_of, child_in, child_of}
use Rattle.daachorse_build.specs.Orders.{StandOnce, children}

-- ---- labels and their codes
-- the edges of a state, by rising labels
abbrev pub edges_at : {L : Type 0} → List (List (L × ℕ)) → ℕ → List (L × ℕ)
edges_at edges s = slice_index_or edges s []

-- edges with the code of each label in its place
abbrev pub with_codes : {L : Type 0} → (L → ℕ) → List (L × ℕ) → List (ℕ × ℕ)
with_codes code es = map (λ e. (code e.0, e.1)) es

-- what is given for the label of an edge is its code
abbrev pub GivesCodes : {L : Type 0} → (L → L → Ordering) → List (List (L × ℕ)) → (L → ℕ → Type 0) → (L → ℕ) → Type 0
GivesCodes {L} cmp edges gives code =
    (s : ℕ) (c : L) (t : ℕ) → child_in cmp edges s c ≡ Some t → (r : ℕ) → gives c r → r ≡ code c

-- what is given for labels is below the length of a block, and the codes tell the children of a state apart
pub record AreCodes {L : Type 0} (cmp : L → L → Ordering) (edges : List (List (L × ℕ))) (gives : L → ℕ → Type 0) (code : L → ℕ) (block : ℕ) : Type 0 where
  pub below : (c : L) (r : ℕ) → gives c r → r < block
  pub apart : (s : ℕ) (c d : L) (t u : ℕ) → child_in cmp edges s c ≡ Some t → child_in cmp edges s d ≡ Some u → code c ≡ code d → c ≡ d

-- the groups of a trie, one for each state with an edge
pub record AreTrieGroups {L V A : Type 0} (cmp : L → L → Ordering) (code : L → ℕ) (states : List (NfaBuilderState L V A)) (gs : List (SiblingGroup A)) : Type 0 where
  pub children : (k : ℕ) → k < length gs → children_of gs k ≡ with_codes code (edges_at (edges_of states) (group_parent gs k))
  pub some : (k : ℕ) → k < length gs → 0 < length (edges_at (edges_of states) (group_parent gs k))
  pub reached : (k : ℕ) → k < length gs → (w : List L) × Leads (child_of cmp states) w (group_parent gs k)
  pub one_each : (k l : ℕ) → k < length gs → l < length gs → group_parent gs k ≡ group_parent gs l → k ≡ l
  pub all : (s : ℕ) (c : L) (t : ℕ) → child_of cmp states s c ≡ Some t → (k : ℕ) × (k < length gs) × (group_parent gs k ≡ s)

-- no count, or one of each kind for each of n states
abbrev pub IsProfileOf : {A : Type 0} → ℕ → Profile A → Type 0
IsProfileOf n p = (p.visits.items ≡ []) ⊎ ((length p.visits.items ≡ n) × (length p.probes.items ≡ n))

-- a number, and 0 where nothing was counted
abbrev pub if_counted : List ℕ → ℕ → ℕ
if_counted [] n = 0
if_counted (v ∷ vs) n = n

-- how often a search would read the block of a state's group: its probes and the visits of its children, as far as a count goes
abbrev pub weight_at : {L A : Type 0} → List (List (L × ℕ)) → Profile A → ℕ → ℕ
weight_at edges p s =
    if_counted p.visits.items (min (slice_index p.probes.items s + sum_by (slice_index p.visits.items) (children edges s)) (2 ^ 64 - 1))

-- each group weighs what its parent's does
abbrev pub AreWeighed : {L A B : Type 0} → List (List (L × ℕ)) → Profile B → List (SiblingGroup A) → Type 0
AreWeighed edges p gs = All (λ g. g.weight ≡ weight_at edges p g.parent) gs

-- no group is heavier than the one before it
abbrev pub AreFalling : {A : Type 0} → List (SiblingGroup A) → Type 0
AreFalling gs = AllAdjacentBelow (λ g h. h.weight ≤ g.weight) gs (length gs)

-- ---- the walk over the states
-- whether there is an edge
abbrev pub is_some_edge : {L : Type 0} → List (L × ℕ) → Bool
is_some_edge [] = false
is_some_edge (e ∷ es) = true

-- whether a state has an edge
abbrev pub has_edges : {L : Type 0} → List (List (L × ℕ)) → ℕ → Bool
has_edges edges s = is_some_edge (edges_at edges s)

-- each state that a text leads to stands once
pub record VisitsEachState {L : Type 0} (edges : List (List (L × ℕ))) (order : List ℕ) : Type 0 where
  pub states : (t : ℕ) → Contains order t → (t < length edges) × (t ≢ 1)
  pub all : (t : ℕ) → t < length edges → t ≢ 1 → Contains order t
  pub once : StandOnce order

-- the states of the order have been taken off the stack, and their children put on it
pub record IsStackWalk {L : Type 0} (edges : List (List (L × ℕ))) (order stack : List ℕ) : Type 0 where
  pub once : StandOnce order
  pub once_stack : StandOnce stack
  pub apart : (t : ℕ) → Contains order t → Contains stack t → ⊥
  pub states : (t : ℕ) → Contains order t ⊎ Contains stack t → (t < length edges) × (t ≢ 1)
  pub root : Contains order 0 ⊎ Contains stack 0
  pub covers : (s t : ℕ) → Contains order s → Contains (children edges s) t → Contains order t ⊎ Contains stack t
  pub from : (t : ℕ) → Contains order t ⊎ Contains stack t → (t ≡ 0) ⊎ ((s : ℕ) × Contains order s × Contains (children edges s) t)

-- ---- one group
-- the edges, with what was given for each label
abbrev pub AreGiven : {L : Type 0} → (L → ℕ → Type 0) → List (L × ℕ) → List (ℕ × ℕ) → Type 0
AreGiven gives es cs = AllZip (λ e c. gives e.0 c.0 × (c.1 ≡ e.1)) es cs

-- the parents of groups
abbrev pub parents_of : {A : Type 0} → List (SiblingGroup A) → List ℕ
parents_of gs = map (λ g. g.parent) gs

-- each group has the children of its parent
abbrev pub AreFamilies : {L A : Type 0} → (L → ℕ → Type 0) → List (List (L × ℕ)) → List (SiblingGroup A) → Type 0
AreFamilies gives edges gs = All (λ g. AreGiven gives (edges_at edges g.parent) g.children.items) gs

-- no group asks to be placed well
abbrev pub AreLight : {A : Type 0} → List (SiblingGroup A) → Type 0
AreLight gs = All (λ g. g.weight ≡ 0) gs

-- The groups of the states, with what was given for each label. Where that is a code, they are a trie's, and may be placed.
pub record AreSiblingGroups {L V A : Type 0} (cmp : L → L → Ordering) (gives : L → ℕ → Type 0) (states : List (NfaBuilderState L V A)) (profile : Profile A) (gs : List (SiblingGroup A)) : Type 0 where
  pub trie : (code : L → ℕ) → GivesCodes cmp (edges_of states) gives code → AreTrieGroups cmp code states gs
  pub groups : (code : L → ℕ) (block : ℕ) → GivesCodes cmp (edges_of states) gives code → AreCodes cmp (edges_of states) gives code block → AreGroups gs (length states) block
  pub bound : length gs < length states
  pub weights : AreWeighed (edges_of states) profile gs
  pub falling : AreFalling gs
  -- where nothing was counted
  pub light : profile.visits.items ≡ [] → AreLight gs
