-- How a trie grows.
use Rattle.std.specs.Prelude.{◌≡◌, ◌≢◌, ℕ, ◌+◌, ◌<◌, ◌≤◌, ◌⊎◌, List, [], ◌∷◌, ◌++◌, Option, Some, None, length}
use Rattle.std.specs.declared.cmp.Ordering.{Ordering}
use Rattle.daachorse_model.specs.Paths.{Leads}
use Rattle.daachorse_build.specs.declared.nfa_builder.NfaBuilderState.{NfaBuilderState}
use Rattle.daachorse_build.specs.Tables.{child_of, edges_of, own_of, own_at, own_outputs_at, output_count, HoldTrie}

-- w is a beginning of p
abbrev pub IsPrefixOf : {A : Type 0} → List A → List A → Type 0
IsPrefixOf {A} w p = (rest : List A) × (w ++ rest ≡ p)

-- one more edge, from s by c to a state t without edges
pub record AddsEdge {A : Type 0} (old new : ℕ → A → Option ℕ) (s : ℕ) (c : A) (t : ℕ) : Type 0 where
  pub was : old s c ≡ None
  pub leaf : (a : A) → new t a ≡ None
  pub cases : (u : ℕ) (a : A) → ((u ≡ s) × (a ≡ c) × (new u a ≡ Some t)) ⊎ (new u a ≡ old u a)

-- The texts of states are the old ones, with their states, and the beginnings of p.
pub record Grows {L : Type 0} (old new : ℕ → L → Option ℕ) (n : ℕ) (p : List L) : Type 0 where
  pub keeps : (w : List L) (v : ℕ) → Leads old w v → Leads new w v
  pub news : (w : List L) (v : ℕ) → Leads new w v → Leads old w v ⊎ ((n ≤ v) × IsPrefixOf w p)

-- The states have a child of s by c, t, which is new where there was none.
pub record Extends {L V A : Type 0} (cmp : L → L → Ordering) (old new : List (NfaBuilderState L V A)) (s : ℕ) (c : L) (t : ℕ) : Type 0 where
  pub trie : HoldTrie cmp new
  pub leads : child_of cmp new s c ≡ Some t
  pub outputs : (v : ℕ) → own_at (own_of new) v ≡ own_at (own_of old) v
  pub count : output_count (own_of new) ≡ output_count (own_of old)
  pub longer : length old ≤ length new
  pub grows : (edges_of new ≡ edges_of old) ⊎ (AddsEdge (child_of cmp old) (child_of cmp new) s c t × (t ≡ length old))

-- The states of the beginnings of p are there, of which id is the last.
pub record IsAdding {L V A : Type 0} (cmp : L → L → Ordering) (old new : List (NfaBuilderState L V A)) (p : List L) (id : ℕ) : Type 0 where
  pub trie : HoldTrie cmp new
  pub here : Leads (child_of cmp new) p id
  pub outputs : (v : ℕ) → own_at (own_of new) v ≡ own_at (own_of old) v
  pub count : output_count (own_of new) ≡ output_count (own_of old)
  pub longer : length old ≤ length new
  pub grows : Grows (child_of cmp old) (child_of cmp new) (length old) p

-- The pattern p was added with the output out.
pub record IsAdded {L V A : Type 0} (cmp : L → L → Ordering) (old new : List (NfaBuilderState L V A)) (p : List L) (out : V × ℕ) : Type 0 where
  pub trie : HoldTrie cmp new
  -- a state keeps its id
  pub keeps : (w : List L) (v : ℕ) → Leads (child_of cmp old) w v → Leads (child_of cmp new) w v
  -- the texts are the old ones and the beginnings of the pattern
  pub begins : (w : List L) → IsPrefixOf w p → (v : ℕ) × Leads (child_of cmp new) w v
  pub only : (w : List L) (v : ℕ) → Leads (child_of cmp new) w v → Leads (child_of cmp old) w v ⊎ IsPrefixOf w p
  -- the pattern has one output more, and each other text keeps its outputs
  pub here : own_outputs_at cmp new p ≡ own_outputs_at cmp old p ++ out ∷ []
  pub others : (w : List L) → w ≢ p → own_outputs_at cmp new w ≡ own_outputs_at cmp old w
  -- and so does the dead state
  pub dead : own_at (own_of new) 1 ≡ own_at (own_of old) 1
  pub count : output_count (own_of new) ≡ output_count (own_of old) + 1

-- new has the trie of old, and its outputs
pub record HasTrieOf {L V A : Type 0} (old new : List (NfaBuilderState L V A)) : Type 0 where
  pub edges : edges_of new ≡ edges_of old
  pub outputs : own_of new ≡ own_of old

-- Each id up to the limit is taken, and the pattern needs a state more, after the beginnings of it that are added first.
pub record Overflows {L V A : Type 0} (cmp : L → L → Ordering) (old : List (NfaBuilderState L V A)) (p : List L) (limit : ℕ) : Type 0 where
  pub mid : List (NfaBuilderState L V A)
  pub front : List L
  pub label : L
  pub rest : List L
  pub splits : front ++ label ∷ rest ≡ p
  pub id : ℕ
  pub adding : IsAdding cmp old mid front id
  pub full : limit < length mid
  pub none : child_of cmp mid id label ≡ None
