-- The states of a builder as lists, and the trie that they hold.
use Rattle.std.specs.Prelude.{Bool, not, ◌&&◌, ◌==◌, ℕ, List, [], Option, map, length, slice_index_or, unwrap_or, option_map, sum_by}
use Rattle.std.specs.declared.cmp.Ordering.{Ordering}
use Rattle.daachorse_model.specs.Paths.{walk}
use Rattle.daachorse_build.specs.declared.nfa_builder.NfaBuilderState.{NfaBuilderState}
use Rattle.daachorse_build.specs.Few.{items_of}
use Rattle.daachorse_build.specs.EdgeMaps.{id_at, IsOrdered}
use Rattle.daachorse_build.specs.Trie.{IsTrie}

-- ---- one state
-- the edges, by rising labels
abbrev pub edge_map : {L V A : Type 0} → NfaBuilderState L V A → List (L × ℕ)
edge_map s = s.edges

-- its own outputs: the values of its text, each with the length of the pattern in bytes
abbrev pub own_outputs_of : {L V A : Type 0} → NfaBuilderState L V A → List (V × ℕ)
own_outputs_of s = items_of s.output

-- the failure link
abbrev pub link_of : {L V A : Type 0} → NfaBuilderState L V A → ℕ
link_of s = s.fail

-- where the list of outputs begins, or 0
abbrev pub position_of : {L V A : Type 0} → NfaBuilderState L V A → ℕ
position_of s = s.output_pos

-- ---- all states
-- the edges of each state, by rising labels
abbrev pub edges_of : {L V A : Type 0} → List (NfaBuilderState L V A) → List (List (L × ℕ))
edges_of states = map (λ s. s.edges) states

-- the failure link of each state
abbrev pub fails_of : {L V A : Type 0} → List (NfaBuilderState L V A) → List ℕ
fails_of states = map (λ s. s.fail) states

-- the own outputs of each state
abbrev pub own_of : {L V A : Type 0} → List (NfaBuilderState L V A) → List (List (V × ℕ))
own_of states = map (λ s. items_of s.output) states

-- where the list of outputs of each state begins, or 0
abbrev pub positions_of : {L V A : Type 0} → List (NfaBuilderState L V A) → List ℕ
positions_of states = map (λ s. s.output_pos) states

-- the own outputs of a state; none past the end
abbrev pub own_at : {V : Type 0} → List (List (V × ℕ)) → ℕ → List (V × ℕ)
own_at own s = slice_index_or own s []

-- how many own outputs there are
abbrev pub output_count : {V : Type 0} → List (List (V × ℕ)) → ℕ
output_count own = sum_by length own

-- whether links stop at a state: at each with an own output, if matches are leftmost
abbrev pub stops_of : {L V A : Type 0} → Bool → List (NfaBuilderState L V A) → ℕ → Bool
stops_of leftmost states s = leftmost && not (length (own_at (own_of states) s) == 0)

-- ---- the trie
-- what a label leads to
abbrev pub child_in : {L : Type 0} → (L → L → Ordering) → List (List (L × ℕ)) → ℕ → L → Option ℕ
child_in cmp edges s c = id_at cmp (slice_index_or edges s []) c

abbrev pub child_of : {L V A : Type 0} → (L → L → Ordering) → List (NfaBuilderState L V A) → ℕ → L → Option ℕ
child_of cmp states s c = child_in cmp (edges_of states) s c

-- the own outputs of a text; none where it leads nowhere
abbrev pub own_outputs_at : {L V A : Type 0} → (L → L → Ordering) → List (NfaBuilderState L V A) → List L → List (V × ℕ)
own_outputs_at cmp states w = unwrap_or (option_map (own_at (own_of states)) (walk (child_of cmp states) 0 w)) []

-- the edges of each state are in order, and together they make a trie
pub record IsTable {L : Type 0} (cmp : L → L → Ordering) (edges : List (List (L × ℕ))) : Type 0 where
  pub ordered : (s : ℕ) → IsOrdered cmp (slice_index_or edges s [])
  pub trie : IsTrie (child_in cmp edges) (length edges)

abbrev pub HoldTrie : {L V A : Type 0} → (L → L → Ordering) → List (NfaBuilderState L V A) → Type 0
HoldTrie cmp states = IsTable cmp (edges_of states)
