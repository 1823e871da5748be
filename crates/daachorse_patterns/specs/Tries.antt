-- Builders whose links and outputs are built, and the dictionary that each holds.
use Rattle.std.specs.Prelude.{◌≡◌, ℕ, ◌≤◌, List, length, slice_index, Option, Some, unwrap_or}
use Rattle.std.specs.declared.cmp.Ordering.{Ordering}
use Rattle.daachorse_model.specs.declared.MatchKind.{MatchKind}
use Rattle.daachorse_model.specs.Dictionary.{Dictionary}
use Rattle.daachorse_model.specs.Kinds.{is_leftmost}
use Rattle.daachorse_model.specs.Paths.{Leads}
use Rattle.daachorse_build.specs.declared.nfa_builder.NfaBuilder.{NfaBuilder}
use Rattle.daachorse_build.specs.Builders.{Registered, outputs_of, states_of}
use Rattle.daachorse_build.specs.Holds.{in_units}
use Rattle.daachorse_build.specs.Tables.{HoldTrie, child_in, edges_of, fails_of, positions_of}
use Rattle.daachorse_array.specs.Copies.{HoldsDictionary, LinkedTrie}

-- a unit leads where its label does, and a unit of no label leads nowhere
pub record LeadsByUnit {L : Type 0} (cmp : L → L → Ordering) (unit : L → ℕ) (edges : List (List (L × ℕ))) (child : ℕ → ℕ → Option ℕ) : Type 0 where
  pub same : (s : ℕ) (c : L) → child s (unit c) ≡ child_in cmp edges s c
  pub only : (s u t : ℕ) → child s u ≡ Some t → (c : L) × (unit c ≡ u)

-- the trie with these children, links and positions
abbrev pub trie_by : (ℕ → ℕ → Option ℕ) → List ℕ → List ℕ → LinkedTrie
trie_by child fails positions = record { child = child; fail = slice_index fails; output = slice_index positions }

-- The links and outputs of a builder are built, and its trie, read by units, holds the dictionary K; there are at most so many outputs, and no more than a `u32` counts where no limit is given, and each state has an id.
pub record IsBuilt {L V A : Type 0} (cmp : L → L → Ordering) (unit : L → ℕ) (width : ℕ → ℕ) (most : Option ℕ) (kind : MatchKind) (b : NfaBuilder L V A) (K : Dictionary V) : Type 0 where
  pub trie : HoldTrie cmp (states_of b)
  pub holds : (child : ℕ → ℕ → Option ℕ) → LeadsByUnit cmp unit (edges_of (states_of b)) child → HoldsDictionary width K (is_leftmost kind) (trie_by child (fails_of (states_of b)) (positions_of (states_of b))) (outputs_of b)
  pub root : slice_index (fails_of (states_of b)) 0 ≡ 0
  pub positions : (w : List L) (t : ℕ) → Leads (child_in cmp (edges_of (states_of b))) w t → slice_index (positions_of (states_of b)) t ≤ length (outputs_of b)
  pub few_outputs : length (outputs_of b) ≤ unwrap_or most 4294967295
  pub few_states : length (states_of b) ≤ 4294967296

-- just these texts were registered, in this order
pub record HasTexts {L V A : Type 0} (cmp : L → L → Ordering) (unit : L → ℕ) (width : ℕ → ℕ) (b : NfaBuilder L V A) (rs : List (List ℕ × V)) : Type 0 where
  pub labels : List (List L × V)
  pub registered : Registered cmp unit width b labels
  pub units : in_units unit labels ≡ rs
