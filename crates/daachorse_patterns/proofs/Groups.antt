-- Groups whose labels are the codes of units are those of a trie, and so are their places.
use Rattle.std.proofs.Common.{◌≡◌, ℕ, Bool, List, length, sym, subst}
use Rattle.std.specs.Int.{IsPowerOfTwo}
use Rattle.std.specs.Ordering.{nat_cmp}
use Rattle.std.proofs.lemmas.List.{length-map}
use Rattle.daachorse_placement.specs.declared.build_helper.SiblingGroup.{SiblingGroup}
use Rattle.daachorse_placement.specs.Layout.{Layout}
use Rattle.daachorse_placement.specs.Placement.{AreGroups, HasSizes, IsPlaced}
use Rattle.daachorse_build.specs.declared.nfa_builder.NfaBuilderState.{NfaBuilderState}
use Rattle.daachorse_build.specs.Groups.{AreTrieGroups}
use Rattle.daachorse_build.specs.Tables.{edge_map, edges_of, HoldTrie}
use Rattle.daachorse_patterns.specs.Settled.{AreGroupsOf, AreSettled}

pub groups-of : {V A : Type 0} (code : ℕ → ℕ) (block : ℕ) (states : List (NfaBuilderState ℕ V A)) (gs : List (SiblingGroup A)) → HoldTrie nat_cmp states
    → AreTrieGroups nat_cmp code states gs → AreGroups gs (length states) block → AreGroupsOf code block gs (edges_of states)
groups-of code block states gs table trie groups = record {
  table = table;
  groups = subst (λ (n : ℕ). AreGroups gs n block) (sym (length-map states edge_map)) groups;
  children = trie.children;
  all = trie.all;
}

-- what the placement promises of them, of which it was lent a slice
pub settled-of : {V A : Type 0} (code : ℕ → ℕ) (block : ℕ) (tracked : Bool) (states : List (NfaBuilderState ℕ V A)) (gs lent : List (SiblingGroup A)) (l : Layout) → IsPowerOfTwo block
    → AreGroupsOf code block gs (edges_of states) → lent ≡ gs → IsPlaced lent (length lent) tracked l → HasSizes l block (length states) → AreSettled code block tracked gs l (edges_of states)
settled-of {V} {A} code block tracked states gs lent l power groups loan placed sizes =
    let P : List (SiblingGroup A) → Type 0 = λ x. IsPlaced x (length x) tracked l in
    let S : ℕ → Type 0 = λ n. HasSizes l block n in
    record { power = power; of_trie = groups; placed = subst P loan placed; sizes = subst S (sym (length-map states edge_map)) sizes }
