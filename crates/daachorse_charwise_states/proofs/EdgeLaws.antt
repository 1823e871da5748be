-- The elements of valid parts are a tree, and checks, bases and codes tell the children.
use Rattle.std.proofs.Common.{◌≡◌, ◌≢◌, ℕ, zero, suc, ◌<◌, ◌==◌, Bool, true, false, cond, bit_xor, List, [], ◌∷◌, length, slice_index_or, Option, Some, None, refl, sym, ap, ◌∙◌, arith}
use Rattle.std.specs.Prelude.{option_map}
use Rattle.std.proofs.lemmas.Option.{same_Some}
use Rattle.std.proofs.lemmas.Nat.{xor_comm}
use Rattle.daachorse_core.proofs.Xor.{xor_back}
use Rattle.daachorse_model.specs.Kinds.{is_leftmost}
use Rattle.daachorse_model.specs.Units.{char_width}
use Rattle.daachorse_array.proofs.ChildLaws.{child_at-from, child_at-inside, child_at-some}
use Rattle.daachorse_array.proofs.PathLaws.{and_then_inv}
use Rattle.daachorse_array.specs.Edges.{IsTree, TellChildren}
use Rattle.daachorse_array.proofs.MachineTrees.{machine_tree}
use Rattle.daachorse_charwise_states.specs.declared.state.State.{State}
use Rattle.daachorse_charwise_states.specs.Edges.{AreCharacters, Lettered, character_of, edge_between, edge_of}
use Rattle.daachorse_charwise_states.specs.Elements.{base_in, check_in, vacant}
use Rattle.daachorse_charwise_states.specs.Parts.{Parts, base_of, char_code, check_of, child, child_among, count, machine}
use Rattle.daachorse_charwise_states.specs.Valid.{IsValid}
use Rattle.daachorse_charwise_states.proofs.CharLaws.{child_by_code, valid_machine}
use Rattle.daachorse_charwise_states.proofs.Codes.{coded_inside}

pub valid_tree : {V : Type 0} (p : Parts V) → IsValid p → p.num_states < 4294967296 → IsTree (child p) (count p) (length p.coding.table)
valid_tree p valid few = machine_tree char_width (machine p) (is_leftmost p.kind) (count p) (length p.coding.table) p.num_states (valid_machine p valid) valid.sound.counted few

-- a choice by a test that takes the second way
second : {X : Type 0} (b : Bool) (o : Option X) (x : X) → cond b None o ≡ Some x → (b ≡ false) × (o ≡ Some x)
second true o x e = absurd (cc)
second false o x e = (refl, e)

-- an edge is by the character that is found
edge_is : (o : Option ℕ) (i g u : ℕ) → option_map {U = ℕ × ℕ} (λ v. (i, v)) o ≡ Some (g, u) → (i ≡ g) × (o ≡ Some u)
edge_is None i g u e = absurd (cc)
edge_is (Some v) i g u e =
    let both : (i, v) ≡ (g, u) = same_Some (i, v) (g, u) e in
    (ap (λ x. x.0) both, ap (λ x. Some x.1) both)

-- past the last element there is no base
based : (es : List State) (i : ℕ) → base_in (slice_index_or es i vacant) ≢ 0 → i < length es
based [] i some = absurd (some refl)
based (x ∷ es) zero some = omega arith
based (x ∷ es) (suc i) some = let less : i < length es = based es i some in omega (arith, less)

module _ {V : Type 0} (a : Lettered V) (letters : AreCharacters a.parts.coding (length a.parts.coding.table) a.characters) where
  abbrev check_at : ℕ → ℕ
  check_at j = check_in (slice_index_or a.parts.states j vacant)

  -- the parts of an edge
  pub edge_parts : (j g u : ℕ) → edge_of a j ≡ Some (g, u) → (check_of a.parts j ≡ g) × (base_of a.parts g ≢ 0) × (char_code a.parts.coding u ≡ Some (bit_xor (base_of a.parts g) j))
  edge_parts j g u e =
      let i : ℕ = check_of a.parts j in
      let way = second (base_of a.parts i == 0) (option_map {U = ℕ × ℕ} (λ v. (i, v)) (character_of a (bit_xor (base_of a.parts i) j))) (g, u) e in
      let edge = edge_is (character_of a (bit_xor (base_of a.parts i) j)) i g u way.1 in
      let base : base_of a.parts i ≢ 0 = grind (arith, way.0) in
      let code = letters.to_code u (bit_xor (base_of a.parts i) j) edge.1 in
      (edge.0, λ none. base (ap (base_of a.parts) edge.0 ∙ none), code ∙ ap (λ k. Some (bit_xor (base_of a.parts k) j)) edge.0)

  -- an edge is from an element, by a character of the table
  pub edge_inside : (j g u : ℕ) → edge_of a j ≡ Some (g, u) → (g < count a.parts) × (u < length a.parts.coding.table)
  edge_inside j g u e = let parts = edge_parts j g u e in (based a.parts.states g parts.1, coded_inside a.parts.coding u _ parts.2)

  pub valid_tells : TellChildren (child a.parts) (λ i. Some i) (edge_of a) (count a.parts)
  valid_tells = record {
    inside = λ i g h e. (let same = same_Some i g e in omega (arith, same, h));
    alone = λ i u h e. absurd (let bad : ◌≡◌ {A = Option ℕ} (Some i) None = e in cc);
    from_child = λ i g u j h own e. from i g u j own e;
    to_child = λ i g u j h own less e. to i g u j own less e;
  }
    where
      from : (i g u j : ℕ) → Some i ≡ Some g → child a.parts i u ≡ Some j → edge_of a j ≡ Some (g, u)
      from i g u j own e =
          let code = and_then_inv (λ c. child_among a.parts.states i c) (char_code a.parts.coding u) j e in
          let c : ℕ = code.0 in
          let at = child_at-from (count a.parts) i (base_of a.parts i) c j check_at code.2 in
          let check : check_of a.parts j ≡ i = (child_at-inside (count a.parts) i (base_of a.parts i) c j check_at code.2).1 in
          let back : bit_xor (base_of a.parts i) j ≡ c =
          ap (bit_xor (base_of a.parts i)) (sym at.1 ∙ xor_comm (base_of a.parts i) c) ∙ (xor_comm (base_of a.parts i) (bit_xor c (base_of a.parts i)) ∙ xor_back c (base_of a.parts i)) in
          let entry : character_of a c ≡ Some u = letters.from_code u c (coded_inside a.parts.coding u c code.1) code.1 in
          let test : (base_of a.parts i == 0) ≡ false = grind (arith, at.0) in
          let group : i ≡ g = same_Some i g own in
          ap (λ k. edge_between a k j) check
          ∙ (ap (λ b. cond b None (option_map {U = ℕ × ℕ} (λ v. (i, v)) (character_of a (bit_xor (base_of a.parts i) j)))) test
          ∙ (ap (λ k. option_map {U = ℕ × ℕ} (λ v. (i, v)) (character_of a k)) back
          ∙ (ap (option_map {U = ℕ × ℕ} (λ v. (i, v))) entry ∙ ap (λ k. Some (k, u)) group)))

      to : (i g u j : ℕ) → Some i ≡ Some g → j < count a.parts → edge_of a j ≡ Some (g, u) → child a.parts i u ≡ Some j
      to i g u j own less e =
          let group : i ≡ g = same_Some i g own in
          let parts = edge_parts j g u e in
          let c : ℕ = bit_xor (base_of a.parts i) j in
          let code : char_code a.parts.coding u ≡ Some c = parts.2 ∙ ap (λ k. Some (bit_xor (base_of a.parts k) j)) (sym group) in
          let some : base_of a.parts i ≢ 0 = λ zero. parts.1 (ap (base_of a.parts) (sym group) ∙ zero) in
          let check : check_of a.parts j ≡ i = parts.0 ∙ sym group in
          let moved : bit_xor (base_of a.parts i) c ≡ j =
          ap (bit_xor (base_of a.parts i)) (xor_comm (base_of a.parts i) j) ∙ (xor_comm (base_of a.parts i) (bit_xor j (base_of a.parts i)) ∙ xor_back j (base_of a.parts i)) in
          child_by_code a.parts.states a.parts.coding i u c code ∙ child_at-some (count a.parts) i (base_of a.parts i) c j check_at some moved less check
