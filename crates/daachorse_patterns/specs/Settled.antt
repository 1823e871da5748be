-- A trie whose groups of siblings are placed in a double array, and what stands at the places.
use Rattle.std.specs.Prelude.{◌≡◌, ◌≢◌, ℕ, ◌+◌, ◌*◌, ◌<◌, ◌≤◌, ◌^◌, Bool, List, length, slice_index, slice_index_or, Some}
use Rattle.std.specs.Int.{IsPowerOfTwo}
use Rattle.std.specs.Ordering.{nat_cmp}
use Rattle.daachorse_placement.specs.declared.build_helper.SiblingGroup.{SiblingGroup}
use Rattle.daachorse_placement.specs.Layout.{Layout}
use Rattle.daachorse_placement.specs.Placement.{AreGroups, HasSizes, IsPlaced, children_of, group_parent}
use Rattle.daachorse_build.specs.declared.nfa_builder.NfaBuilderState.{NfaBuilderState}
use Rattle.daachorse_build.specs.Tables.{child_in, edges_of, IsTable}
use Rattle.daachorse_build.specs.Groups.{with_codes, edges_at}
use Rattle.daachorse_array.specs.Copies.{LinkedTrie}

-- the trie with these edges, links and positions
abbrev pub trie_of : List (List (ℕ × ℕ)) → List ℕ → List ℕ → LinkedTrie
trie_of edges fails positions = record { child = child_in nat_cmp edges; fail = slice_index fails; output = slice_index positions }

-- Groups that are the edges of a trie, with a code below `block` in the place of each unit: one for each state that has some.
pub record AreGroupsOf {A : Type 0} (code : ℕ → ℕ) (block : ℕ) (gs : List (SiblingGroup A)) (edges : List (List (ℕ × ℕ))) : Type 0 where
  pub table : IsTable nat_cmp edges
  pub groups : AreGroups gs (length edges) block
  pub children : (k : ℕ) → k < length gs → children_of gs k ≡ with_codes code (edges_at edges (group_parent gs k))
  pub all : (s c t : ℕ) → child_in nat_cmp edges s c ≡ Some t → (k : ℕ) × (k < length gs) × (group_parent gs k ≡ s)

-- The groups of a trie were placed.
pub record AreSettled {A : Type 0} (code : ℕ → ℕ) (block : ℕ) (tracked : Bool) (gs : List (SiblingGroup A)) (l : Layout) (edges : List (List (ℕ × ℕ))) : Type 0 where
  pub power : IsPowerOfTwo block
  pub of_trie : AreGroupsOf code block gs edges
  pub placed : IsPlaced gs (length gs) tracked l
  pub sizes : HasSizes l block (length edges)

-- element i is that of none of n states; the dead one has none
abbrev pub IsVacantAt : Layout → ℕ → ℕ → Type 0
IsVacantAt l n i = (t : ℕ) → t < n → t ≢ 1 → slice_index l.idx t ≢ i

-- An array by the base, the link and the output position of an element: each of n states but the dead one stands at its place, and a vacant element has no base, no output and the link `none`.
pub record HoldStates (l : Layout) (n : ℕ) (fails positions : List ℕ) (none : ℕ) (base_of fail_of output_of : ℕ → ℕ) : Type 0 where
  pub base : (t : ℕ) → t < n → t ≢ 1 → base_of (slice_index l.idx t) ≡ slice_index l.bases t
  pub fail : (t : ℕ) → t < n → t ≢ 1 → fail_of (slice_index l.idx t) ≡ slice_index l.idx (slice_index fails t)
  pub output : (t : ℕ) → t < n → t ≢ 1 → output_of (slice_index l.idx t) ≡ slice_index positions t
  pub no_base : (i : ℕ) → i < length l.used → IsVacantAt l n i → base_of i ≡ 0
  pub no_fail : (i : ℕ) → i < length l.used → IsVacantAt l n i → fail_of i ≡ none
  pub no_output : (i : ℕ) → i < length l.used → IsVacantAt l n i → output_of i ≡ 0

-- the groups of these states need a block more than there may be
abbrev pub HasManyGroups : {V A : Type 0} → (ℕ → ℕ) → ℕ → List (NfaBuilderState ℕ V A) → Type 0
HasManyGroups {V} {A} code block states = (gs : List (SiblingGroup A)) × AreGroupsOf code block gs (edges_of states) × (2 ^ 32 ≤ (length gs + 1) * block)

-- each of n states but the dead one has a place of its own, among so many elements
pub record HavePlaces (idx : List ℕ) (n elements : ℕ) : Type 0 where
  pub size : length idx ≡ n
  pub inside : (t : ℕ) → t < n → slice_index idx t < elements
  pub apart : (t v : ℕ) → t < n → v < n → t ≢ 1 → v ≢ 1 → slice_index idx t ≡ slice_index idx v → t ≡ v

-- The first m states but the dead one are written at their places, with these checks, and nothing else. An element is read by its parts.
pub record AreWritten {E : Type 0} (vacant : E) (base_in check_in fail_in output_in : E → ℕ) (m : ℕ) (idx bases : List ℕ) (checks : ℕ → ℕ) (fails positions : List ℕ) (old new : List E) : Type 0 where
  pub size : length new ≡ length old
  pub base : (t : ℕ) → t < m → t ≢ 1 → base_in (slice_index_or new (slice_index idx t) vacant) ≡ slice_index bases t
  pub check : (t : ℕ) → t < m → t ≢ 1 → check_in (slice_index_or new (slice_index idx t) vacant) ≡ checks t
  pub fail : (t : ℕ) → t < m → t ≢ 1 → fail_in (slice_index_or new (slice_index idx t) vacant) ≡ slice_index idx (slice_index fails t)
  pub output : (t : ℕ) → t < m → t ≢ 1 → output_in (slice_index_or new (slice_index idx t) vacant) ≡ slice_index positions t
  pub others : (i : ℕ) → ((t : ℕ) → t < m → t ≢ 1 → slice_index idx t ≢ i) → slice_index_or new i vacant ≡ slice_index_or old i vacant
