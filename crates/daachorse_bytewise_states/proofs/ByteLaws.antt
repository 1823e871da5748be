-- Valid parts are a right machine, so that looks, chains and outputs are those of the dictionary that they hold.
use Rattle.std.proofs.Common.{◌≡◌, Bool, true, false, cond, ℕ, ◌<◌, ◌/◌, ◌%◌, List, Option, Some, None, refl, sym, ap, ◌∙◌, subst, arith}
use Rattle.std.specs.Prelude.{slice_index_or, unwrap_or}
use Rattle.std.specs.declared.num.NonZeroU32.{NonZeroU32}
use Rattle.daachorse_core.specs.Looks.{LooksOnce}
use Rattle.daachorse_core.specs.declared.turns.Look.{Look}
use Rattle.daachorse_core.specs.declared.turns.Look.TheVariants.{Next}
use Rattle.daachorse_model.specs.Kinds.{is_leftmost}
use Rattle.daachorse_model.specs.Units.{byte_width}
use Rattle.daachorse_array.specs.Machines.{IsMachine}
use Rattle.daachorse_array.proofs.ChildLaws.{child_at-inside}
use Rattle.daachorse_array.proofs.MachineLaws.{LooksOnce-gives, Reached-inside, turn-next, turn-root}
use Rattle.daachorse_search.specs.Views.{SeesLook}
use Rattle.daachorse_bytewise_states.specs.Elements.{output_in, vacant, vacant_left}
use Rattle.daachorse_bytewise_states.specs.Parts.{Parts, base_of, check_of, child, content, count, machine, output_of, word_at}
use Rattle.daachorse_bytewise_states.specs.Valid.{IsRootTable, IsState, IsValid, dead, sees, text}

below_256 : (b : Bool) (m n : ℕ) → cond b (m % 256) (n % 256) < 256
below_256 true m n = omega arith
below_256 false m n = omega arith

module _ {V : Type 0} (p : Parts V) where
  -- a byte leads to an element
  pub child_inside : (i c j : ℕ) → child p i c ≡ Some j → (j < count p) × (c < 256)
  child_inside i c j e =
      let parts = child_at-inside (count p) c (base_of p i) c j (check_of p) e in
      let check : check_of p j ≡ c = parts.1 in
      let below : check_of p j < 256 = below_256 (is_leftmost p.kind) _ _ in
      (parts.0, omega (arith, below, check))

  -- what a look at an element gives for a byte
  abbrev pub Gives : ℕ → ℕ → Look → Type 0
  Gives i c look = LooksOnce (content p) (IsState p) (text p) (dead p) (text p i) c look

  pub gives_label : (i c : ℕ) (look : Look) → Gives i c look → (unit : ℕ) → c ≡ unit → SeesLook (sees p) i unit look
  gives_label i c look gives unit same =
      let P : ℕ → Type 0 = λ u. SeesLook (sees p) i u look in
      subst P same (LooksOnce-gives (content p) (IsState p) (text p) (dead p) (text p i) c look gives)

  pub valid_machine : IsValid p → IsMachine byte_width (machine p) (is_leftmost p.kind) (count p) 256
  valid_machine valid = record {
    some = valid.grouped.some;
    inside = child_inside;
    outputs_inside = valid.sound.ranges.positions;
    parents_fall = valid.sound.parents_fall;
    right = valid.sound.right;
  }

  module _ (valid : IsValid p) where
    pub state_inside : (i : ℕ) → IsState p i → i < count p
    state_inside i r = Reached-inside _ _ _ _ _ (valid_machine valid) i r

    -- by the table of the root
    pub look_table : (root : List (ℕ × ℕ)) → IsRootTable (child p 0) (word_at p) 256 root → (i c j : ℕ) → IsState p i → c < 256 → i ≡ 0 → j ≡ (slice_index_or root c (0, 0)).0 → (o : Option NonZeroU32) → Gives i c (Next j o)
    look_table root table i c j r byte top is o =
        let P : ℕ → Type 0 = λ x. Gives i c (Next x o) in
        subst P (sym (is ∙ ap (λ e. e.0) (table.right c byte))) (go (child p 0 c) refl)
      where
        go : (x : Option ℕ) → child p 0 c ≡ x → Gives i c (Next (unwrap_or x 0) o)
        go None e = turn-root _ _ _ _ _ (valid_machine valid) i c r (ap (λ x. child p x c) top ∙ e) top o
        go (Some k) e = turn-next _ _ _ _ _ (valid_machine valid) i c k r (ap (λ x. child p x c) top ∙ e) o

    -- the table has the first output of each element that it has
    pub table_output : is_leftmost p.kind ≡ false → (root : List (ℕ × ℕ)) → IsRootTable (child p 0) (word_at p) 256 root → (c : ℕ) → c < 256 → output_of p (slice_index_or root c (0, 0)).0 ≡ (slice_index_or root c (0, 0)).1 / 256
    table_output standard root table c byte =
        let j : ℕ = (slice_index_or root c (0, 0)).0 in
        let at = table.right c byte in
        let word : word_at p j ≡ (slice_index_or root c (0, 0)).1 = ap (λ e. word_at p e.0) at ∙ sym (ap (λ e. e.1) at) in
        ap (λ b. cond b (output_in (slice_index_or p.leftmost j vacant_left)) (output_in (slice_index_or p.standard j vacant))) standard ∙ ap (λ w. w / 256) word
