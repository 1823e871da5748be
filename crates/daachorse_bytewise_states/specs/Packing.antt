-- Elements that hold a trie, as they are written at the places of its states.
use Rattle.std.specs.Prelude.{◌≡◌, ◌≢◌, ℕ, ◌<◌, ◌/◌, bit_xor, true, List, length, slice_index, slice_index_or, Some}
use Rattle.std.specs.Ordering.{nat_cmp}
use Rattle.daachorse_placement.specs.declared.build_helper.SiblingGroup.{SiblingGroup}
use Rattle.daachorse_placement.specs.Layout.{IsLeastUnused, Layout}
use Rattle.daachorse_placement.specs.Placement.{AreBlocksFull}
use Rattle.daachorse_build.specs.declared.nfa_builder.NfaBuilderState.{NfaBuilderState}
use Rattle.daachorse_build.specs.Tables.{child_in as edge_to, edges_of, fails_of, positions_of}
use Rattle.daachorse_build.specs.declared.nfa_builder.NfaBuilder.{NfaBuilder}
use Rattle.daachorse_model.specs.declared.MatchKind.{MatchKind}
use Rattle.daachorse_model.specs.Dictionary.{Dictionary}
use Rattle.daachorse_model.specs.Units.{byte_width}
use Rattle.daachorse_patterns.specs.Tries.{IsBuilt}
use Rattle.daachorse_patterns.specs.Settled.{AreGroupsOf, AreSettled, HoldStates, IsVacantAt}
use Rattle.daachorse_bytewise_states.specs.declared.state.State.{State}
use Rattle.daachorse_bytewise_states.specs.Elements.{base_in, check_in, fail_in, output_in, vacant}

-- the element at an index
abbrev pub element_at : List (State ℕ) → ℕ → State ℕ
element_at es i = slice_index_or es i vacant

-- A vacant element i: its check is what leads to it from an unused base of its block, if there is one, so that it is nobody's child.
pub record IsVacant (l : Layout) (i : ℕ) (e : State ℕ) : Type 0 where
  pub base : base_in e ≡ 0
  pub fail : fail_in e ≡ 0
  pub output : output_in e ≡ 0
  pub check : (u : ℕ) → IsLeastUnused l.marks 256 (i / 256) u → check_in e ≡ bit_xor i u

-- The elements hold the trie: each state but the dead one stands at its index, and all other elements are vacant. A child's check is its byte, and nothing leads to the root.
pub record ElementsHoldTrie (l : Layout) (edges : List (List (ℕ × ℕ))) (fails positions : List ℕ) (es : List (State ℕ)) : Type 0 where
  pub size : length es ≡ length l.used
  pub states : HoldStates l (length edges) fails positions 0 (λ i. base_in (element_at es i)) (λ i. fail_in (element_at es i)) (λ i. output_in (element_at es i))
  pub children : (s c t : ℕ) → t < length edges → t ≢ 1 → edge_to nat_cmp edges s c ≡ Some t → check_in (element_at es (slice_index l.idx t)) ≡ c
  pub root : check_in (element_at es (slice_index l.idx 0)) ≡ 0
  pub others : (i : ℕ) → i < length es → IsVacantAt l (length edges) i → (u : ℕ) → IsLeastUnused l.marks 256 (i / 256) u → check_in (element_at es i) ≡ bit_xor i u

-- Groups that are the edges of a trie over bytes: a byte is its own code.
abbrev pub AreByteGroups : {A : Type 0} → List (SiblingGroup A) → List (List (ℕ × ℕ)) → Type 0
AreByteGroups gs edges = AreGroupsOf (λ b. b) 256 gs edges

-- The groups of a trie over bytes were placed, and the elements hold it.
pub record ArePacked {A : Type 0} (gs : List (SiblingGroup A)) (l : Layout) (edges : List (List (ℕ × ℕ))) (fails positions : List ℕ) (es : List (State ℕ)) : Type 0 where
  pub settled : AreSettled (λ b. b) 256 true gs l edges
  -- a block without an unused base has no vacant element
  pub full : AreBlocksFull l
  pub held : ElementsHoldTrie l edges fails positions es

-- the elements hold the trie of these states, by some groups and some placement of them
pub record ArePackedOf {V A : Type 0} (states : List (NfaBuilderState ℕ V A)) (es : List (State ℕ)) : Type 0 where
  pub groups : List (SiblingGroup A)
  pub layout : Layout
  pub packed : ArePacked groups layout (edges_of states) (fails_of states) (positions_of states) es

-- the links and outputs of a builder over bytes are built, and it holds the dictionary K; an automaton can number its outputs and its states
abbrev pub IsBuiltFor : {V A : Type 0} → MatchKind → NfaBuilder ℕ V A → Dictionary V → Type 0
IsBuiltFor kind b K = IsBuilt nat_cmp (λ u. u) byte_width (Some 16777215) kind b K
