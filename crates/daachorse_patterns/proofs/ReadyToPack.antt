-- A builder whose links and outputs are built has what packing asks for: its links are those of states, and its positions those of outputs.
use Rattle.std.proofs.Common.{◌≡◌, ◌≢◌, ℕ, ◌<◌, ◌≤◌, ◌-◌, ◌/◌, ◌^◌, List, length, Option, sym, arith}
use Rattle.std.specs.Prelude.{slice_index}
use Rattle.std.specs.Ordering.{nat_cmp}
use Rattle.std.proofs.lemmas.List.{length-map}
use Rattle.daachorse_model.specs.declared.MatchKind.{MatchKind}
use Rattle.daachorse_model.specs.Dictionary.{Dictionary}
use Rattle.daachorse_model.specs.Paths.{Leads}
use Rattle.daachorse_build.specs.declared.nfa_builder.NfaBuilder.{NfaBuilder}
use Rattle.daachorse_build.specs.Builders.{outputs_of, states_of}
use Rattle.daachorse_build.specs.Tables.{child_in, edge_map, edges_of, fails_of, positions_of}
use Rattle.daachorse_build.proofs.Walks.{text_of}
use Rattle.daachorse_model.specs.Kinds.{is_leftmost}
use Rattle.daachorse_array.specs.Copies.{HoldsDictionary}
use Rattle.daachorse_patterns.specs.Prefixes.{HasMoreProperPrefixes}
use Rattle.daachorse_patterns.specs.Tries.{IsBuilt}
use Rattle.daachorse_patterns.proofs.UnitTries.{own_units}
use Rattle.daachorse_patterns.specs.Settled.{HasManyGroups, trie_of}
use Rattle.daachorse_patterns.proofs.Counted.{many-groups}
use Rattle.daachorse_patterns.proofs.Held.{link-inside}

module _ {V A : Type 0} (width : ℕ → ℕ) (most : Option ℕ) (kind : MatchKind) (b : NfaBuilder ℕ V A) (K : Dictionary V) (built : IsBuilt nat_cmp (λ u. u) width most kind b K) where
  -- a label is its own unit, so that the trie itself holds the dictionary
  pub built-holds : HoldsDictionary width K (is_leftmost kind) (trie_of (edges_of (states_of b)) (fails_of (states_of b)) (positions_of (states_of b))) (outputs_of b)
  built-holds = built.holds (child_in nat_cmp (edges_of (states_of b))) (own_units nat_cmp (edges_of (states_of b)))

  pub built-count : length (states_of b) ≡ length (edges_of (states_of b))
  built-count = sym (length-map (states_of b) edge_map)

  -- a text leads to each state but the dead one
  pub built-text : (t : ℕ) → t < length (states_of b) → t ≢ 1 → (w : List ℕ) × Leads (child_in nat_cmp (edges_of (states_of b))) w t
  built-text t less alive = text_of (child_in nat_cmp (edges_of (states_of b))) (length (edges_of (states_of b))) built.trie.trie t (omega (arith, less, built-count)) alive

  pub built-links : (t : ℕ) → t < length (states_of b) → t ≢ 1 → slice_index (fails_of (states_of b)) t < length (states_of b)
  built-links t less alive =
      let x = built-text t less alive in
      omega (arith, link-inside width (is_leftmost kind) K (edges_of (states_of b)) (fails_of (states_of b)) (positions_of (states_of b)) (outputs_of b) built.trie.trie built-holds built.root t x.0 x.1, built-count)

  pub built-positions : (t : ℕ) → t < length (states_of b) → t ≢ 1 → slice_index (positions_of (states_of b)) t ≤ length (outputs_of b)
  built-positions t less alive = let x = built-text t less alive in built.positions x.0 t x.1

  -- too many groups are too many texts that begin a longer key
  pub built-many : (code : ℕ → ℕ) (block : ℕ) → 0 < block → block < 2 ^ 32 → HasManyGroups {A = A} code block (states_of b) → HasMoreProperPrefixes K ((2 ^ 32 - block) / block - 1)
  built-many code block some fits many = many-groups many.1 K some fits built-holds.only many.2
