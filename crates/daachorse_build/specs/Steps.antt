-- What each step of a build makes of a builder: a pattern that is added, the links, the outputs.
use Rattle.std.specs.Prelude.{◌≡◌, ◌≢◌, ℕ, ◌<◌, ◌≤◌, ◌⊎◌, Bool, true, false, List, [], ◌∷◌, ◌++◌, length, map, slice_index}
use Rattle.std.specs.declared.cmp.Ordering.{Ordering}
use Rattle.daachorse_core.specs.Outputs.{outputs_at}
use Rattle.daachorse_model.specs.declared.MatchKind.{MatchKind}
use Rattle.daachorse_model.specs.Dictionary.{dictionary, kept_registrations}
use Rattle.daachorse_model.specs.Outputs.{outputs_of_ends, IsChain}
use Rattle.daachorse_model.specs.Paths.{Leads}
use Rattle.daachorse_model.specs.Prefixes.{IsDead}
use Rattle.daachorse_model.specs.Units.{size}
use Rattle.daachorse_build.specs.declared.nfa_builder.NfaBuilderState.{NfaBuilderState}
use Rattle.daachorse_build.specs.Builders.{Builder, Registered, states_of, outputs_of, count_of, kind_of}
use Rattle.daachorse_build.specs.Growth.{HasTrieOf}
use Rattle.daachorse_build.specs.Holds.{in_units, HasMorePrefixes}
use Rattle.daachorse_build.specs.Left.{LinksLeft}
use Rattle.daachorse_build.specs.Lists.{IsChainedAt}
use Rattle.daachorse_build.specs.Orders.{HoldLinks, HoldLeftLinks}
use Rattle.daachorse_build.specs.Tables.{child_of, fails_of, own_of, output_count, positions_of, HoldTrie}
use Rattle.daachorse_build.specs.Trie.{LinksTo}

-- new has the patterns of old: their kind, how many are kept, and their trie
pub record KeepsPatterns {L V A : Type 0} (old new : Builder L V A) : Type 0 where
  pub kind : kind_of new ≡ kind_of old
  pub patterns : count_of new ≡ count_of old
  pub kept : HasTrieOf (states_of old) (states_of new)

-- in the trie of `old` each nonempty text has its link in `new`, for the patterns that were registered
abbrev pub AreStandard : {L V A : Type 0} → (L → L → Ordering) → (L → ℕ) → MatchKind → List (NfaBuilderState L V A) → List (NfaBuilderState L V A) → List (List L × V) → Type 0
AreStandard {L} cmp unit kind old new rs =
    (w : List L) (t : ℕ) → w ≢ [] → Leads (child_of cmp old) w t
    → LinksTo (dictionary kind (in_units unit rs)) unit (child_of cmp old) w (slice_index (fails_of new) t)

-- in the trie of `old` each nonempty text has its leftmost link in `new`, for the patterns that were registered
abbrev pub AreLeft : {L V A : Type 0} → (L → L → Ordering) → (L → ℕ) → MatchKind → List (NfaBuilderState L V A) → List (NfaBuilderState L V A) → List (List L × V) → Type 0
AreLeft {L} cmp unit kind old new rs =
    (w : List L) (t : ℕ) → w ≢ [] → Leads (child_of cmp old) w t
    → LinksLeft (dictionary kind (in_units unit rs)) unit (child_of cmp old) w (slice_index (fails_of new) t)

-- standard links in this order, or leftmost ones
abbrev pub HoldEitherLinks : {L V A : Type 0} → (L → L → Ordering) → List (NfaBuilderState L V A) → List ℕ → Type 0
HoldEitherLinks cmp states order = HoldLinks cmp states order ⊎ HoldLeftLinks cmp true states order

module _ {L V A : Type 0} (cmp : L → L → Ordering) (unit : L → ℕ) (width : ℕ → ℕ) where
  -- the pattern was added to `old` with its value, behind those that were registered
  pub record AddsPattern (old new : Builder L V A) (pattern : List L) (value : V) : Type 0 where
    pub trie : HoldTrie cmp (states_of new)
    pub registered : (rs : List (List L × V)) → Registered cmp unit width old rs → Registered cmp unit width new (rs ++ (pattern, value) ∷ [])
    pub short : size width (map unit pattern) ≤ 4294967295
    -- each state has an id, where each had one before
    pub fits : length (states_of old) ≤ 4294967296 → length (states_of new) ≤ 4294967296

  -- the pattern is short enough, and with it there are more states than ids
  pub record IsOneTooMany (old : Builder L V A) (pattern : List L) (value : V) : Type 0 where
    pub short : size width (map unit pattern) ≤ 4294967295
    pub more : (rs : List (List L × V)) → Registered cmp unit width old rs → HasMorePrefixes (dictionary (kind_of old) (in_units unit (rs ++ (pattern, value) ∷ []))) 4294967295

  -- the states of `old` have their links in `new`, standard or leftmost ones, and the order is breadth-first
  pub record HasLinksOf (is_leftmost : Bool) (old new : Builder L V A) (order : List ℕ) : Type 0 where
    pub standard : is_leftmost ≡ false → HoldLinks cmp (states_of new) order
    pub leftmost : is_leftmost ≡ true → HoldLeftLinks cmp true (states_of new) order
    -- the links are those of the dictionary
    pub standard_links : is_leftmost ≡ false → (rs : List (List L × V)) → Registered cmp unit width old rs → AreStandard cmp unit (kind_of old) (states_of old) (states_of new) rs
    pub left : is_leftmost ≡ true → (rs : List (List L × V)) → Registered cmp unit width old rs → AreLeft cmp unit (kind_of old) (states_of old) (states_of new) rs
    pub root : slice_index (fails_of (states_of new)) 0 ≡ 0

  -- the states of `old`, whose links are in this order, have their lists of outputs in `new`
  pub record HasOutputsOf (old new : Builder L V A) (order : List ℕ) : Type 0 where
    pub positions : (w : List L) (t : ℕ) → Leads (child_of cmp (states_of old)) w t → slice_index (positions_of (states_of new)) t ≤ length (outputs_of new)
    -- over standard links, the values of a text and of its suffixes
    pub lists : HoldLinks cmp (states_of old) order → (rs : List (List L × V)) → Registered cmp unit width old rs → (w : List L) (t : ℕ) → Leads (child_of cmp (states_of old)) w t
        → outputs_at (outputs_of new) (slice_index (positions_of (states_of new)) t) ≡ outputs_of_ends width (dictionary (kind_of old) (in_units unit rs)) (map unit w)
    -- over leftmost links, the values of those that a dead link does not cut off
    pub chains : HoldLeftLinks cmp true (states_of old) order → (rs : List (List L × V)) → Registered cmp unit width old rs → (w : List L) (t : ℕ) → Leads (child_of cmp (states_of old)) w t
        → IsChain width (dictionary (kind_of old) (in_units unit rs)) (IsDead (dictionary (kind_of old) (in_units unit rs))) (map unit w) (outputs_at (outputs_of new) (slice_index (positions_of (states_of new)) t))
    -- a state's own outputs, and then those at the position of its link
    pub follows : (w : List L) (t : ℕ) → Leads (child_of cmp (states_of old)) w t → IsChainedAt (own_of (states_of old)) (fails_of (states_of old)) (outputs_of new) (positions_of (states_of new)) t
    pub bound : length (outputs_of new) ≤ output_count (own_of (states_of old))
    pub few : length (outputs_of new) ≤ 4294967295
    pub all_kept : (rs : List (List L × V)) → Registered cmp unit width old rs → length (outputs_of new) ≡ count_of old

  -- more than n of the patterns that were registered are kept
  abbrev pub KeepsMoreThan : ℕ → Builder L V A → Type 0
  KeepsMoreThan n b = (rs : List (List L × V)) → Registered cmp unit width b rs → n < length (kept_registrations (kind_of b) (in_units unit rs))
