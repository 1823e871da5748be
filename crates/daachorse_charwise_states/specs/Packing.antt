-- Elements that hold a trie over characters, at the places of its states.
use Rattle.std.specs.Prelude.{◌≡◌, ℕ, ◌-◌, ◌/◌, ◌<◌, ◌^◌, false, max, List, ◌∷◌, ◌++◌, length, slice_index, slice_index_or, unwrap_or, None, Some, IsSome}
use Rattle.std.specs.Int.{IsNextPowerOfTwo}
use Rattle.std.specs.Ordering.{nat_cmp}
use Rattle.daachorse_placement.specs.declared.build_helper.SiblingGroup.{SiblingGroup}
use Rattle.daachorse_placement.specs.Layout.{Layout}
use Rattle.daachorse_build.specs.declared.nfa_builder.NfaBuilder.{NfaBuilder}
use Rattle.daachorse_build.specs.declared.nfa_builder.NfaBuilderState.{NfaBuilderState}
use Rattle.daachorse_build.specs.Tables.{child_in, edges_of, fails_of, positions_of}
use Rattle.daachorse_model.specs.declared.MatchKind.{MatchKind}
use Rattle.daachorse_model.specs.Dictionary.{Dictionary}
use Rattle.daachorse_model.specs.Prefixes.{IsKey}
use Rattle.daachorse_model.specs.Units.{char_width}
use Rattle.daachorse_charwise_states.specs.Codings.{Coding, code_of}
use Rattle.daachorse_patterns.specs.Prefixes.{HasMoreProperPrefixes}
use Rattle.daachorse_patterns.specs.Tries.{IsBuilt}
use Rattle.daachorse_patterns.specs.Settled.{AreSettled, HoldStates, IsVacantAt}
use Rattle.daachorse_charwise_states.specs.declared.state.State.{State}
use Rattle.daachorse_charwise_states.specs.Elements.{base_in, check_in, fail_in, output_in, vacant}
use Rattle.daachorse_charwise_states.specs.Parts.{char_code}

-- the element at an index
abbrev pub element_at : List State → ℕ → State
element_at es i = slice_index_or es i vacant

-- the code of a character, 0 where it has none
abbrev pub code_in : Coding → ℕ → ℕ
code_in coding u = unwrap_or (code_of coding u) 0

-- The elements hold the trie: each state but the dead one stands at its place, and all other elements are vacant. A child's check is its parent's place; that of the root and of a vacant element is the dead state.
pub record HoldElements (l : Layout) (edges : List (List (ℕ × ℕ))) (fails positions : List ℕ) (es : List State) : Type 0 where
  pub size : length es ≡ length l.used
  pub states : HoldStates l (length edges) fails positions 1 (λ i. base_in (element_at es i)) (λ i. fail_in (element_at es i)) (λ i. output_in (element_at es i))
  pub children : (s c t : ℕ) → child_in nat_cmp edges s c ≡ Some t → check_in (element_at es (slice_index l.idx t)) ≡ slice_index l.idx s
  pub root : check_in (element_at es (slice_index l.idx 0)) ≡ 1
  pub others : (i : ℕ) → i < length es → IsVacantAt l (length edges) i → check_in (element_at es i) ≡ 1

-- the elements hold the trie of these states, by some groups and some placement of them
pub record ArePackedOf {V A : Type 0} (coding : Coding) (block : ℕ) (states : List (NfaBuilderState ℕ V A)) (es : List State) : Type 0 where
  pub groups : List (SiblingGroup A)
  pub layout : Layout
  pub settled : AreSettled (code_in coding) block false groups layout (edges_of states)
  pub held : HoldElements layout (edges_of states) (fails_of states) (positions_of states) es

-- each label of an edge is a character that has a code
abbrev pub AreEdgesCoded : Coding → List (List (ℕ × ℕ)) → Type 0
AreEdgesCoded coding edges = (s c t : ℕ) → child_in nat_cmp edges s c ≡ Some t → IsSome (char_code coding c)

-- each unit of a key is a character that has a code
abbrev pub AreCoded : {V : Type 0} → Coding → Dictionary V → Type 0
AreCoded coding K = (v w : List ℕ) (u : ℕ) → IsKey K (v ++ u ∷ w) → IsSome (char_code coding u)

-- The links and outputs of a builder over characters are built, without a limit of outputs, and it holds the dictionary K.
abbrev pub IsBuiltFor : {V A : Type 0} → MatchKind → NfaBuilder ℕ V A → Dictionary V → Type 0
IsBuiltFor kind b K = IsBuilt nat_cmp (λ u. u) char_width None kind b K

-- More texts begin longer keys than there may be blocks behind the first: all blocks have at most 2^32 elements less a block, and each such text needs at most one.
pub record NeedsManyBlocks {V : Type 0} (coding : Coding) (K : Dictionary V) : Type 0 where
  pub block : ℕ
  pub least : IsNextPowerOfTwo (max 2 coding.alphabet_size) block
  pub prefixes : HasMoreProperPrefixes K ((2 ^ 32 - block) / block - 1)
