-- The elements of valid parts are a tree, and bases and checks tell the children.
use Rattle.std.proofs.Common.{◌≡◌, ◌≢◌, ℕ, zero, suc, ◌<◌, bit_xor, Some, None, refl, sym, ap, ◌∙◌, arith}
use Rattle.std.proofs.lemmas.Option.{same_Some}
use Rattle.daachorse_core.proofs.Xor.{xor_back}
use Rattle.daachorse_model.specs.Kinds.{is_leftmost}
use Rattle.daachorse_model.specs.Units.{byte_width}
use Rattle.daachorse_array.proofs.ChildLaws.{child_at-from, child_at-inside, child_at-some}
use Rattle.daachorse_array.specs.Edges.{IsTree, TellChildren}
use Rattle.daachorse_array.proofs.MachineTrees.{machine_tree}
use Rattle.daachorse_bytewise_states.specs.Parts.{Parts, base_of, check_of, child, child_by, count, machine}
use Rattle.daachorse_bytewise_states.specs.Valid.{IsValid}
use Rattle.daachorse_bytewise_states.specs.Edges.{nonzero, group_of, edge_of}
use Rattle.daachorse_bytewise_states.proofs.ByteLaws.{valid_machine}

nonzero-is : (b g : ℕ) → nonzero b ≡ Some g → (b ≡ g) × (b ≢ 0)
nonzero-is zero g e = absurd (cc)
nonzero-is (suc b) g e = (same_Some (suc b) g e, λ zero. omega arith)

nonzero-none : (b : ℕ) → nonzero b ≡ None → b ≡ 0
nonzero-none zero e = refl
nonzero-none (suc b) e = absurd (cc)

module _ {V : Type 0} (p : Parts V) where
  pub valid_tree : IsValid p → p.num_states < 4294967296 → IsTree (child p) (count p) 256
  valid_tree valid few = machine_tree byte_width (machine p) (is_leftmost p.kind) (count p) 256 p.num_states (valid_machine p valid) valid.sound.counted few

  -- bases that are elements are enough
  pub bases_tell : ((i : ℕ) → i < count p → base_of p i < count p) → TellChildren (child p) (group_of p) (edge_of p) (count p)
  bases_tell bases = record {
    inside = λ i g h e. (let same = (nonzero-is (base_of p i) g e).0 in let inner : base_of p i < count p = bases i h in omega (arith, same, inner));
    alone = λ i c h e. none i c (nonzero-none (base_of p i) e);
    from_child = λ i g c j h own e. from i g c j own e;
    to_child = λ i g c j h own less e. to i g c j own less e;
  }
    where
      none : (i c : ℕ) → base_of p i ≡ 0 → child p i c ≡ None
      none i c e = ap (λ b. child_by (count p) b (check_of p) c) e

      from : (i g c j : ℕ) → group_of p i ≡ Some g → child p i c ≡ Some j → edge_of p j ≡ Some (g, c)
      from i g c j own e =
          let at : bit_xor (base_of p i) c ≡ j = (child_at-from (count p) c (base_of p i) c j (check_of p) e).1 in
          let check : check_of p j ≡ c = (child_at-inside (count p) c (base_of p i) c j (check_of p) e).1 in
          let base : base_of p i ≡ g = (nonzero-is (base_of p i) g own).0 in
          let back : bit_xor j c ≡ g = ap (λ k. bit_xor k c) (sym at) ∙ (xor_back (base_of p i) c ∙ base) in
          ap (λ k. Some (bit_xor j k, k)) check ∙ ap (λ k. Some (k, c)) back

      to : (i g c j : ℕ) → group_of p i ≡ Some g → j < count p → edge_of p j ≡ Some (g, c) → child p i c ≡ Some j
      to i g c j own less e =
          let both : (bit_xor j (check_of p j), check_of p j) ≡ (g, c) = same_Some _ _ e in
          let check : check_of p j ≡ c = ap (λ x. x.1) both in
          let group : bit_xor j (check_of p j) ≡ g = ap (λ x. x.0) both in
          let base = nonzero-is (base_of p i) g own in
          let moved : bit_xor (base_of p i) c ≡ j =
          ap (λ b. bit_xor b c) (base.0 ∙ sym group) ∙ (ap (λ k. bit_xor (bit_xor j k) c) check ∙ xor_back j c) in
          child_at-some (count p) c (base_of p i) c j (check_of p) base.1 moved less check

  pub valid_tells : IsValid p → TellChildren (child p) (group_of p) (edge_of p) (count p)
  valid_tells valid = bases_tell valid.grouped.bases
