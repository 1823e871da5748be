-- The bytes that lead to an element from the base of one are all that some pattern has.
use Rattle.std.proofs.Common.{◌≡◌, ◌⊎◌, inl, inr, ℕ, ◌+◌, ◌<◌, ◌≤◌, Bool, true, false, cond, List, length, bit_xor, Option, Some, None, refl, sym, ap, ◌∙◌, subst, arith}
use Rattle.std.specs.Prelude.{slice_index, slice_index_or, slice_set}
use Rattle.std.proofs.Math.ListN.{get_or-eq_default}
use Rattle.std.proofs.lemmas.Bool.{cases_eq}
use Rattle.std.proofs.lemmas.List.{get_or-set_same, get_or-set_other, length-set}
use Rattle.daachorse_core.proofs.Xor.{xor_back}
use Rattle.daachorse_core.specs.declared.outputs.Empty.{Empty}
use Rattle.daachorse_core.specs.Looks.{IsForeign}
use Rattle.daachorse_model.specs.Kinds.{is_leftmost}
use Rattle.daachorse_model.specs.Units.{byte_width}
use Rattle.daachorse_array.proofs.ChildLaws.{child_at-from, child_at-inside}
use Rattle.daachorse_array.proofs.MachineLaws.{foreign}
use Rattle.daachorse_rows.specs.Rows.{AreLabels, IsListOf}
use Rattle.daachorse_bytewise_states.specs.declared.state.State.{State}
use Rattle.daachorse_bytewise_states.specs.Elements.{base_in, vacant, vacant_left}
use Rattle.daachorse_bytewise_states.specs.EdgeBytes.{IsMarked, MarksBases, MarksEdges}
use Rattle.daachorse_bytewise_states.specs.Parts.{Parts, base_of, check_of, child, child_by, content, count, machine}
use Rattle.daachorse_bytewise_states.specs.Valid.{IsValid}
use Rattle.daachorse_model.proofs.Suffixes.{le_or_lt}
use Rattle.daachorse_model.proofs.Lists.{below_or_at}
use Rattle.daachorse_bytewise_states.proofs.ByteLaws.{valid_machine}

-- past the last element there is no base
base_past : (b : Bool) (left : List (State Empty)) (standard : List (State ℕ)) (i : ℕ) → cond b (length left) (length standard) ≤ i → cond b (base_in (slice_index_or left i vacant_left)) (base_in (slice_index_or standard i vacant)) ≡ 0
base_past true left standard i past = ap base_in (get_or-eq_default left vacant_left past)
base_past false left standard i past = ap base_in (get_or-eq_default standard vacant past)

-- a mark more leaves what is marked
still_marked : (marks : List Bool) (i j : ℕ) → i < length marks → slice_index_or marks j false ≡ true → slice_index_or (slice_set marks i true) j false ≡ true
still_marked marks i j inside marked = elim (cases_eq j i) [
  | inl same ↦ ap (λ k. slice_index_or (slice_set marks i true) k false) same ∙ get_or-set_same marks i true false inside
  | inr other ↦ get_or-set_other marks i j true false other ∙ marked
]

module _ {V : Type 0} (p : Parts V) where
  module _ (bases : List Bool) (n : ℕ) (marks : List Bool) (h : MarksEdges p bases n marks) where
    pub MarksEdges-skip : (check : ℕ) → check_of p n ≡ check → slice_index_or bases (bit_xor n check) false ≡ false → MarksEdges p bases (n + 1) marks
    MarksEdges-skip check is none = record {
      size = h.size;
      marked = λ i below led.
          elim (below_or_at i n below) [
            | inl less ↦ h.marked i less led
            | inr same ↦
                let at : slice_index_or bases (bit_xor i (check_of p i)) false ≡ false = ap (λ k. slice_index_or bases (bit_xor k (check_of p k)) false) same ∙ (ap (λ c. slice_index_or bases (bit_xor n c) false) is ∙ none) in
                let clash : true ≡ false = sym led ∙ at in
                absurd (cc)
          ];
    }

    pub MarksEdges-more : (check : ℕ) → check_of p n ≡ check → check < 256 → MarksEdges p bases (n + 1) (slice_set marks check true)
    MarksEdges-more check is byte = record {
      size = length-set marks check true ∙ h.size;
      marked = λ i below led.
          elim (below_or_at i n below) [
            | inl less ↦ still_marked marks check (check_of p i) (omega (arith, byte, h.size)) (h.marked i less led)
            | inr same ↦ ap (λ k. slice_index_or (slice_set marks check true) k false) (ap (check_of p) same ∙ is) ∙ get_or-set_same marks check true false (omega (arith, byte, h.size))
          ];
    }

  -- a byte that is not listed leads nowhere, so no pattern has it
  pub listed_labels : (bases marks : List Bool) (bytes : List ℕ) → IsValid p → MarksBases p (count p) bases → MarksEdges p bases (count p) marks → IsListOf (IsMarked marks) 256 bytes
      → AreLabels (content p) (λ label unit. label ≡ unit) bytes
  listed_labels bases marks bytes valid based edged listed = record {
    all = λ label unit low same. by label unit low same (slice_index_or marks label false) refl;
    below = λ k within. omega (arith, (listed.only k within).0);
    none_idle = λ k below. (_, refl);
  }
    where
      marked_edge : (i c j : ℕ) → i < count p → child p i c ≡ Some j → slice_index_or marks c false ≡ true
      marked_edge i c j here leads =
          let from = child_at-from (count p) c (base_of p i) c j (check_of p) leads in
          let inside = child_at-inside (count p) c (base_of p i) c j (check_of p) leads in
          let back : bit_xor j (check_of p j) ≡ base_of p i = ap (λ k. bit_xor j k) inside.1 ∙ (ap (λ k. bit_xor k c) (sym from.1) ∙ xor_back (base_of p i) c) in
          let led : slice_index_or bases (bit_xor j (check_of p j)) false ≡ true = ap (λ k. slice_index_or bases k false) back ∙ based.marked i here from.0 in
          ap (λ k. slice_index_or marks k false) (sym inside.1) ∙ edged.marked j inside.0 led

      nowhere : (c : ℕ) → slice_index_or marks c false ≡ false → (i : ℕ) → child p i c ≡ None
      nowhere c none i = by_child (child p i c) refl
        where
          by_child : (o : Option ℕ) → child p i c ≡ o → child p i c ≡ None
          by_child None e = e
          by_child (Some j) e = elim (le_or_lt (count p) i) [
            | inl past ↦ ap (λ b. child_by (count p) b (check_of p) c) (base_past (is_leftmost p.kind) p.leftmost p.standard i past)
            | inr here ↦
                let clash : true ≡ false = sym (marked_edge i c j here e) ∙ none in
                absurd (cc)
          ]

      by : (label unit : ℕ) → label < 638 → label ≡ unit → (b : Bool) → slice_index_or marks label false ≡ b → IsForeign (content p) unit ⊎ ((k : ℕ) × (k < length bytes) × (slice_index bytes k ≡ label))
      by label unit low same true is = elim (le_or_lt 256 label) [
        | inl past ↦
            let clash : true ≡ false = sym is ∙ get_or-eq_default marks false (omega (arith, past, edged.size)) in
            absurd (cc)
        | inr byte ↦ inr (listed.all label byte is)
      ]
      by label unit low same false is =
          let P : ℕ → Type 0 = λ u. IsForeign (content p) u in
          inl (subst P same (foreign byte_width (machine p) (is_leftmost p.kind) (count p) 256 (valid_machine p valid) label (nowhere label is)))
