-- The parts that elements make up have the bases, checks, links and positions of these, whatever the kind, and so they are a copy of the trie.
use Rattle.std.proofs.Common.{◌≡◌, ℕ, ◌==◌, cond, List, length, map, get_or, Some, None, refl, ap, ◌∙◌}
use Rattle.std.specs.Prelude.{bit_xor, nat_lt}
use Rattle.std.proofs.Math.ListN.{get_or-map}
use Rattle.std.proofs.lemmas.List.{length-map}
use Rattle.daachorse_core.specs.declared.outputs.Output.{Output}
use Rattle.daachorse_model.specs.declared.MatchKind.{MatchKind}
use Rattle.daachorse_model.specs.declared.MatchKind.TheVariants.{Standard, LeftmostLongest, LeftmostFirst}
use Rattle.daachorse_placement.specs.declared.build_helper.SiblingGroup.{SiblingGroup}
use Rattle.daachorse_placement.specs.Layout.{Layout}
use Rattle.daachorse_array.specs.Copies.{IsCopy}
use Rattle.daachorse_bytewise_states.specs.declared.state.State.{State}
use Rattle.daachorse_bytewise_states.specs.Elements.{base_in, check_in, fail_in, output_in, vacant, vacant_left}
use Rattle.daachorse_bytewise_states.specs.Parts.{base_of, check_of, child, child_by_check, count, fail_of, machine, output_of, parts_of, without_link}
use Rattle.daachorse_bytewise_states.specs.Packing.{element_at, ArePacked}
use Rattle.daachorse_patterns.specs.Settled.{trie_of}
use Rattle.daachorse_patterns.proofs.Held.{held-IsCopy}
use Rattle.daachorse_bytewise_states.proofs.PackedTrie.{element_at-child}

-- ---- what the parts say of an element
module _ {V : Type 0} (es : List (State ℕ)) (outputs : List (Output V)) (n : ℕ) where
  left : (i : ℕ) → get_or (map without_link es) i vacant_left ≡ without_link (element_at es i)
  left i = get_or-map without_link es i vacant

  pub parts-count : (kind : MatchKind) → count (parts_of kind es outputs n) ≡ length es
  parts-count Standard = refl
  parts-count LeftmostLongest = length-map es without_link
  parts-count LeftmostFirst = length-map es without_link

  pub parts-base : (kind : MatchKind) (i : ℕ) → base_of (parts_of kind es outputs n) i ≡ base_in (element_at es i)
  parts-base Standard i = refl
  parts-base LeftmostLongest i = ap base_in (left i)
  parts-base LeftmostFirst i = ap base_in (left i)

  pub parts-check : (kind : MatchKind) (i : ℕ) → check_of (parts_of kind es outputs n) i ≡ check_in (element_at es i)
  parts-check Standard i = refl
  parts-check LeftmostLongest i = ap check_in (left i)
  parts-check LeftmostFirst i = ap check_in (left i)

  pub parts-output : (kind : MatchKind) (i : ℕ) → output_of (parts_of kind es outputs n) i ≡ output_in (element_at es i)
  parts-output Standard i = refl
  parts-output LeftmostLongest i = ap output_in (left i)
  parts-output LeftmostFirst i = ap output_in (left i)

  pub parts-fail : (kind : MatchKind) (i : ℕ) → fail_of (parts_of kind es outputs n) i ≡ fail_in (element_at es i)
  parts-fail Standard i = refl
  parts-fail LeftmostLongest i = get_or-map fail_in es i vacant
  parts-fail LeftmostFirst i = get_or-map fail_in es i vacant

-- elements of which a double array sees the same lead to the same
same_child : (m n : ℕ) (base base' check check' : ℕ → ℕ) (i c : ℕ) → m ≡ n → ((i : ℕ) → base i ≡ base' i) → ((i : ℕ) → check i ≡ check' i) → child_by_check m base check i c ≡ child_by_check n base' check' i c
same_child m n base base' check check' i c size bases checks =
    ap (λ b. cond (b == 0) None (cond (nat_lt (bit_xor b c) m) (cond (check (bit_xor b c) == c) (Some (bit_xor b c)) None) None)) (bases i)
    ∙ ap (λ k. cond (base' i == 0) None (cond (nat_lt (bit_xor (base' i) c) m) (cond (k == c) (Some (bit_xor (base' i) c)) None) None)) (checks (bit_xor (base' i) c))
    ∙ ap (λ k. cond (base' i == 0) None (cond (nat_lt (bit_xor (base' i) c) k) (cond (check' (bit_xor (base' i) c) == c) (Some (bit_xor (base' i) c)) None) None)) size

pub parts-child : {V : Type 0} (es : List (State ℕ)) (outputs : List (Output V)) (n : ℕ) (kind : MatchKind) (i c : ℕ) → child (parts_of kind es outputs n) i c ≡ child_by_check (length es) (λ i. base_in (element_at es i)) (λ i. check_in (element_at es i)) i c
parts-child es outputs n kind i c =
    same_child (count (parts_of kind es outputs n)) (length es) (base_of (parts_of kind es outputs n)) (λ i. base_in (element_at es i)) (check_of (parts_of kind es outputs n)) (λ i. check_in (element_at es i)) i c
    (parts-count es outputs n kind) (parts-base es outputs n kind) (parts-check es outputs n kind)

module _ {A : Type 0} {gs : List (SiblingGroup A)} {l : Layout} {edges : List (List (ℕ × ℕ))} {fails positions : List ℕ} {es : List (State ℕ)} (p : ArePacked gs l edges fails positions es) where
  -- the parts are a copy of the trie
  pub packed-IsCopy : {V : Type 0} (kind : MatchKind) (outputs : List (Output V)) (n : ℕ) → IsCopy (trie_of edges fails positions) outputs (machine (parts_of kind es outputs n)) (λ t. get_or l.idx t 0)
  packed-IsCopy kind outputs n =
      held-IsCopy p.settled fails positions p.held.states (machine (parts_of kind es outputs n)) outputs (λ k. λ i. parts-fail es outputs n kind i k) (λ k. λ i. parts-output es outputs n kind i k) refl
      (λ s c less alive. parts-child es outputs n kind (get_or l.idx s 0) c ∙ element_at-child p s c less alive)
