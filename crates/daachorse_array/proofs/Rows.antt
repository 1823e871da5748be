-- Machines with small dictionaries: the rules can be met, and what they compute is what a reader expects.
use Rattle.std.proofs.Common.{◌≡◌, ℕ, ◌<◌, ◌==◌, ◌&&◌, Bool, true, false, cond, List, [], ◌∷◌, map, Option, Some, None, refl, ap, inl, inr, codes, arith}
use Rattle.std.proofs.lemmas.Option.{none-some, same_Some}
use Rattle.daachorse_core.specs.Outputs.{outputs_at}
use Rattle.daachorse_core.specs.Chains.{Passes}
use Rattle.daachorse_model.specs.Units.{byte_width}
use Rattle.daachorse_model.specs.Paths.{walk, Leads}
use Rattle.daachorse_model.specs.Prefixes.{IsPrefix}
use Rattle.daachorse_array.specs.Texts.{text_of}
use Rattle.daachorse_array.specs.Machines.{Machine, own, content, right_fail, IsMachine}
use Rattle.daachorse_array.specs.Copies.{LinkedTrie, next_output, HoldsDictionary, IsCopy}

-- ---- no patterns

-- no unit leads anywhere
abbrev pub nowhere : ℕ → ℕ → Option ℕ
nowhere i u = None

-- a machine that knows the root alone
abbrev pub empty : {V : Type 0} → Machine V
empty = record { child = nowhere; fail = λ i. 0; output = λ i. 0; outputs = [] }

only_root : (u i : ℕ) (w : List ℕ) → ¬ Leads nowhere (u ∷ w) i
only_root u i w e = none-some i e

one_text : (i : ℕ) (v w : List ℕ) → Leads nowhere v i → Leads nowhere w i → v ≡ w
one_text i [] [] d e = refl
one_text i (u ∷ v) w d e = absurd (only_root u i v d)
one_text i [] (u ∷ w) d e = absurd (only_root u i w e)

not_dead : (w : List ℕ) → ¬ Leads nowhere w 1
not_dead [] e = let bad : 0 ≡ 1 = same_Some 0 1 e in omega (arith, bad)
not_dead (u ∷ w) e = only_root u 1 w e

-- a trie of the root alone
abbrev pub bare : LinkedTrie
bare = record { child = nowhere; fail = λ s. 0; output = λ s. 0 }

module _ {V : Type 0} (width : ℕ → ℕ) where
  -- it is right, however many elements it has
  pub empty-machine : (leftmost : Bool) (n m : ℕ) → 0 < n → IsMachine width (empty {V = V}) leftmost n m
  empty-machine leftmost n m some = record {
    some = some;
    inside = λ i c j e. absurd (none-some j e);
    outputs_inside = λ i low. omega arith;
    parents_fall = λ i o e. absurd (none-some o e);
    right = record {
      dead_no_child = not_dead;
      one_path = one_text;
      leaf_has_own = λ u i w e leaf. absurd (only_root u i w e);
      links = λ u i w e. absurd (only_root u i w e);
      chains = λ u i w e. absurd (only_root u i w e);
      root_chain = refl;
    };
  }

  -- and no text has a value
  pub empty-content : (w : List ℕ) → content width (empty {V = V}) w ≡ []
  empty-content [] = refl
  empty-content (u ∷ w) = refl

  -- the bare trie holds the dictionary without a key
  pub bare-holds : (leftmost : Bool) → HoldsDictionary {V = V} width (λ w. []) leftmost bare []
  bare-holds leftmost = record {
    one_path = one_text;
    begins = λ w p. (0, elim p [ inl e ↦ ap (λ x. walk nowhere 0 x) e | inr (x, key) ↦ absurd (key refl) ]);
    only = only;
    links = λ u s w e. absurd (only_root u s w e);
    chains = chains;
    parents_fall = λ i o e. absurd (none-some o e);
  }
    where
      only : (s : ℕ) (w : List ℕ) → Leads nowhere w s → IsPrefix {V = V} (λ x. []) w
      only s [] e = inl refl
      only s (u ∷ w) e = absurd (only_root u s w e)

      chains : (s : ℕ) (w : List ℕ) → Leads nowhere w s → Passes {V = V} [] 0 [] (next_output bare w s)
      chains s [] e = refl
      chains s (u ∷ w) e = absurd (only_root u s w e)

-- the machine is a copy of the bare trie
pub bare-copy : {V : Type 0} → IsCopy {V = V} bare [] empty (λ s. s)
bare-copy = record {
  root = refl;
  above = λ u s w e. absurd (only_root u s w e);
  apart = λ r s v w d e same. same;
  children = λ s c w e. refl;
  links = λ u s w e. absurd (only_root u s w e);
  positions = λ s w e. refl;
  same_outputs = refl;
}

-- ---- the patterns "ab" with the value 0, and "b" with 1

-- "a" leads to element 4, "b" to 7 and "ab" to 2
abbrev child : ℕ → ℕ → Option ℕ
child i u =
    cond (i == 0 && u == 97) (Some 4) (cond (i == 0 && u == 98) (Some 7) (cond (i == 4 && u == 98) (Some 2) None))

-- the outputs of "ab" begin at position 2, those of "b" at position 1
abbrev ab_b : Machine ℕ
ab_b = record {
  child = child;
  fail = λ i. cond (i == 2) 7 0;
  output = λ i. cond (i == 2) 2 (cond (i == 7) 1 0);
  outputs = record { value = 1; length = 1; parent = 0 } ∷ record { value = 0; length = 2; parent = 1 } ∷ [];
}

row_content : map (content byte_width ab_b) (codes "ab" ∷ codes "b" ∷ codes "a" ∷ codes "abb" ∷ [] ∷ []) ≡ (0 ∷ []) ∷ (1 ∷ []) ∷ [] ∷ [] ∷ [] ∷ []
row_content = refl

-- behind its own output, "ab" goes on with those of "b"
row_own : own byte_width ab_b (codes "ab") 2 ≡ (0 ∷ [], 1)
row_own = refl

row_outputs : outputs_at ab_b.outputs 2 ≡ (0, 2) ∷ (1, 1) ∷ []
row_outputs = refl

-- the link of "ab" is "b"; in a leftmost machine it is dead, as the key "ab" starts before "b"
row_links : map (λ leftmost. right_fail byte_width ab_b leftmost (codes "ab")) (false ∷ true ∷ []) ≡ Some 7 ∷ Some 1 ∷ []
row_links = refl

row_text : text_of child 256 8 2 ≡ codes "ab"
unfolding text_of
row_text = refl
