-- Machines into which a trie was copied, and tries that hold a dictionary. State 0 of a trie is its root, and a link to state 1 is dead.
use Rattle.std.specs.Prelude.{◌≡◌, ◌≢◌, ℕ, ◌<◌, ◌==◌, ◌⊎◌, Bool, true, false, cond, List, [], ◌∷◌, Option, option_map}
use Rattle.daachorse_core.specs.declared.outputs.Output.{Output}
use Rattle.daachorse_core.specs.Outputs.{ParentsFall}
use Rattle.daachorse_core.specs.Chains.{Passes}
use Rattle.daachorse_model.specs.Dictionary.{Dictionary}
use Rattle.daachorse_model.specs.Outputs.{own_outputs}
use Rattle.daachorse_model.specs.Paths.{Leads}
use Rattle.daachorse_model.specs.Prefixes.{IsPrefix, IsLink, IsDead}
use Rattle.daachorse_array.specs.Machines.{Machine}

-- a trie by what a unit leads to from a state, with the states' failure links and the positions of their first outputs
pub record LinkedTrie : Type 0 where
  pub child : ℕ → ℕ → Option ℕ
  pub fail : ℕ → ℕ
  pub output : ℕ → ℕ

-- the position where the chain of the state s with the text w goes on behind its own outputs: that of its link, and 0 for the root and behind a dead link
abbrev pub next_output : LinkedTrie → List ℕ → ℕ → ℕ
next_output t [] s = 0
next_output t (u ∷ w) s = cond (t.fail s == 1) 0 (t.output (t.fail s))

-- the texts whose link is dead by the dictionary: none for a standard machine
abbrev pub HasDeadLink : {V : Type 0} → Dictionary V → Bool → List ℕ → Type 0
HasDeadLink K true w = IsDead K w
HasDeadLink K false w = ⊥

-- f is the link of the text w: dead, or the state of the text's link
abbrev pub IsLinkedTo : {V : Type 0} → Dictionary V → Bool → LinkedTrie → List ℕ → ℕ → Type 0
IsLinkedTo K leftmost t w f =
    ((f ≡ 1) × HasDeadLink K leftmost w) ⊎ ((f ≢ 1) × (¬ HasDeadLink K leftmost w) × ((v : List ℕ) × Leads t.child v f × IsLink K w v))

-- the states of the trie are the prefixes of the keys, and their links and chains of outputs are those of the dictionary
pub record HoldsDictionary {V : Type 0} (width : ℕ → ℕ) (K : Dictionary V) (leftmost : Bool) (t : LinkedTrie) (outputs : List (Output V)) : Type 0 where
  -- no two texts lead to one state
  pub one_path : (s : ℕ) (v w : List ℕ) → Leads t.child v s → Leads t.child w s → v ≡ w
  -- each prefix of a key leads to a state
  pub begins : (w : List ℕ) → IsPrefix K w → (s : ℕ) × Leads t.child w s
  -- nothing else does
  pub only : (s : ℕ) (w : List ℕ) → Leads t.child w s → IsPrefix K w
  pub links : (u s : ℕ) (w : List ℕ) → Leads t.child (u ∷ w) s → IsLinkedTo K leftmost t (u ∷ w) (t.fail s)
  -- from a state's position the values of its text come, and then the chain of its link
  pub chains : (s : ℕ) (w : List ℕ) → Leads t.child w s → Passes outputs (t.output s) (own_outputs width K w) (next_output t w s)
  pub parents_fall : ParentsFall outputs

-- element idx s of the machine is the state s of the trie
pub record IsCopy {V : Type 0} (t : LinkedTrie) (outputs : List (Output V)) (a : Machine V) (idx : ℕ → ℕ) : Type 0 where
  -- the root is element 0, and all other states stand behind the dead one
  pub root : idx 0 ≡ 0
  pub above : (u s : ℕ) (w : List ℕ) → Leads t.child (u ∷ w) s → 1 < idx s
  -- no two states have one element
  pub apart : (r s : ℕ) (v w : List ℕ) → Leads t.child v r → Leads t.child w s → idx r ≡ idx s → r ≡ s
  -- a unit leads to the element of the state to which it leads in the trie, and nowhere if it leads nowhere there
  pub children : (s c : ℕ) (w : List ℕ) → Leads t.child w s → a.child (idx s) c ≡ option_map idx (t.child s c)
  pub links : (u s : ℕ) (w : List ℕ) → Leads t.child (u ∷ w) s → a.fail (idx s) ≡ cond (t.fail s == 1) 1 (idx (t.fail s))
  pub positions : (s : ℕ) (w : List ℕ) → Leads t.child w s → a.output (idx s) ≡ t.output s
  pub same_outputs : a.outputs ≡ outputs

-- the states are 0 and 2 to n - 1: texts lead to each of them, and to no other
pub record HasStates (t : LinkedTrie) (n : ℕ) : Type 0 where
  pub two : 1 < n
  pub reached : (s : ℕ) → s < n → s ≢ 1 → (w : List ℕ) × Leads t.child w s
  pub only : (s : ℕ) (w : List ℕ) → Leads t.child w s → (s < n) × (s ≢ 1)
