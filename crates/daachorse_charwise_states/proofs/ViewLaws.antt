-- What is read of the parts that a view borrows, element by element.
use Rattle.std.proofs.Common.{◌≡◌, ◌≢◌, ℕ, ◌<◌, Bool, true, false, length, Option, Some, None, sym, ap, ◌∙◌, subst, arith, slice_index_or}
use Rattle.std.specs.Char.{IsScalar}
use Rattle.std.specs.Prelude.{MatchOption, is_some}
use Rattle.std.specs.declared.num.NonZeroU32.{NonZeroU32}
use Rattle.std.proofs.lemmas.List.{get_or_default}
use Rattle.daachorse_model.specs.Kinds.{is_leftmost}
use Rattle.daachorse_model.specs.Units.{char_width}
use Rattle.daachorse_array.specs.Machines.{IsMachine}
use Rattle.daachorse_core.specs.Looks.{IsForeign, LooksOnce}
use Rattle.daachorse_core.specs.Outputs.{number}
use Rattle.daachorse_core.specs.declared.turns.Look.{Look}
use Rattle.daachorse_array.proofs.DeadLaws.{kind_standard, none_dead}
use Rattle.daachorse_array.proofs.MachineLaws.{LooksOnce-gives, Reached-inside, Reached-root, standard-alive}
use Rattle.daachorse_charwise_states.specs.Codings.{code_of}
use Rattle.daachorse_search.specs.Views.{SeesLook}
use Rattle.daachorse_charwise_states.specs.declared.state.State.{State}
use Rattle.daachorse_charwise_states.specs.Elements.{base_in, check_in, fail_in, output_in, vacant}
use Rattle.daachorse_charwise_states.specs.Parts.{Parts, char_code, child, child_among, child_by, content, count, fail_of, machine, output_of}
use Rattle.daachorse_charwise_states.specs.Valid.{IsState, IsValid, dead, has_code, sees, text}
use Rattle.daachorse_charwise_states.specs.Views.{IsFor, IsRootOutput}
use Rattle.daachorse_charwise_states.proofs.CharLaws.{child_by_code, foreign_char, valid_machine}
use Rattle.daachorse_charwise_states.proofs.Codes.{char_code-of}

-- a look that follows no link gives what any look may
pub look_gives : {V : Type 0} (p : Parts V) (i u : ℕ) (look : Look) → LooksOnce (content p) (IsState p) (text p) (dead p) (text p i) u look → SeesLook (sees p) i u look
look_gives p i u look once = LooksOnce-gives (content p) (IsState p) (text p) (dead p) (text p i) u look once

-- q is what is borrowed, and p what contracts see of it
module _ {V : Type 0} (q p : Parts V) (leftmost : Bool) (is : q ≡ p) (kept : IsFor leftmost q) where
  pub view_kept : IsFor leftmost p
  view_kept = let P : Parts V → Type 0 = λ x. IsFor leftmost x in subst P is kept

  pub view_valid : IsValid p
  view_valid = view_kept.valid

  pub view_machine : IsMachine char_width (machine p) (is_leftmost p.kind) (count p) (length p.coding.table)
  view_machine = valid_machine p view_valid

  pub view_inside : (i : ℕ) → IsState p i → i < length q.states
  view_inside i r =
      let inside : i < count p = Reached-inside _ _ _ _ _ view_machine i r in
      let same : length q.states ≡ count p = ap count is in
      omega (arith, inside, same)

  -- what a code leads to is read off the element, whatever stands past the last
  pub view_child : (d : State) (i u c : ℕ) → IsState p i → char_code p.coding u ≡ Some c
      → child p i u ≡ child_by (length q.states) (λ j. check_in (slice_index_or q.states j vacant)) i (base_in (slice_index_or q.states i d)) c
  view_child d i u c r e =
      child_by_code p.states p.coding i u c e
      ∙ (ap (λ x. child_among x.states i c) (sym is)
      ∙ ap (λ s. child_by (length q.states) (λ j. check_in (slice_index_or q.states j vacant)) i (base_in s) c) (get_or_default q.states i vacant d (view_inside i r)))

  pub view_fail : (d : State) (i : ℕ) → IsState p i → fail_of p i ≡ fail_in (slice_index_or q.states i d)
  view_fail d i r = ap (λ x. fail_of x i) (sym is) ∙ ap fail_in (get_or_default q.states i vacant d (view_inside i r))

  pub view_output : (d : State) (i : ℕ) → IsState p i → output_of p i ≡ output_in (slice_index_or q.states i d)
  view_output d i r = ap (λ x. output_of x i) (sym is) ∙ ap output_in (get_or_default q.states i vacant d (view_inside i r))

  -- the output that was read of the root once is the root's
  pub view_root_output : (o : Option NonZeroU32) → IsRootOutput q.states o → output_of p 0 ≡ number o
  view_root_output o told = view_output vacant 0 (Reached-root _ _ _ _ _ view_machine) ∙ sym told

  -- no link is dead where the searches are standard
  pub view_alive : leftmost ≡ false → (i f : ℕ) → IsState p i → i ≢ 0 → fail_of p i ≡ f → f ≢ 1
  view_alive standard i f r other at one =
      let kind = kind_standard p.kind (view_kept.kind ∙ standard) in
      standard-alive _ _ _ _ _ view_machine i r other (none_dead char_width (machine p) p.kind kind) (at ∙ one)

  -- what the table has for a character
  pub view_label : (u : ℕ) → IsScalar u → (o : Option ℕ) → o ≡ code_of q.coding u → MatchOption o ((has_code p u ≡ false) × IsForeign (content p) u) (λ c. (char_code p.coding u ≡ Some c) × (has_code p u ≡ true))
  view_label u scalar None e = foreign_char p view_valid u (char_code-of p.coding u scalar ∙ sym (e ∙ ap (λ x. code_of x.coding u) is))
  view_label u scalar (Some c) e = let has : char_code p.coding u ≡ Some c = char_code-of p.coding u scalar ∙ sym (e ∙ ap (λ x. code_of x.coding u) is) in (has, ap is_some has)
