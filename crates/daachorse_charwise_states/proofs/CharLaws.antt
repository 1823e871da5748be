-- Valid parts are a right machine, whose units with a child are characters that have a code.
use Rattle.std.proofs.Common.{◌≡◌, ℕ, ◌<◌, ◌&&◌, false, List, [], ◌∷◌, length, Option, Some, None, refl, ap, ◌∙◌, slice_index_or}
use Rattle.std.specs.Prelude.{IsTrue, is_some, option_and_then}
use Rattle.std.specs.Str.{all_scalars}
use Rattle.daachorse_model.specs.Kinds.{is_leftmost}
use Rattle.daachorse_model.specs.Paths.{walk}
use Rattle.daachorse_model.specs.Prefixes.{IsKey}
use Rattle.daachorse_model.specs.Units.{char_width}
use Rattle.daachorse_core.specs.Looks.{IsForeign}
use Rattle.daachorse_array.specs.Machines.{IsMachine, values_at}
use Rattle.daachorse_array.proofs.PathLaws.{and_then_inv}
use Rattle.daachorse_array.proofs.MachineLaws.{foreign}
use Rattle.daachorse_array.proofs.ChildLaws.{child_at-inside}
use Rattle.daachorse_charwise_states.specs.Codings.{Coding}
use Rattle.daachorse_charwise_states.specs.declared.state.State.{State}
use Rattle.daachorse_charwise_states.specs.Elements.{base_in, check_in, vacant}
use Rattle.daachorse_charwise_states.specs.Parts.{Parts, char_code, child, child_among, coded_child, content, count, machine}
use Rattle.daachorse_charwise_states.specs.Valid.{IsValid, has_code}
use Rattle.daachorse_charwise_states.proofs.Codes.{char_code-is, coded_inside}

-- a character leads to what its code leads to
pub child_by_code : (es : List State) (coding : Coding) (i u c : ℕ) → char_code coding u ≡ Some c → coded_child es coding i u ≡ child_among es i c
child_by_code es coding i u c is = ap (λ o. option_and_then (λ k. child_among es i k) o) is

module _ (es : List State) (coding : Coding) where
  -- a text that leads somewhere is of characters
  text_leads : (w : List ℕ) (i j : ℕ) → walk (coded_child es coding) i w ≡ Some j → IsTrue (all_scalars w)
  text_leads [] i j e = refl
  text_leads (u ∷ w) i j e =
      let next = and_then_inv (λ k. walk (coded_child es coding) k w) (coded_child es coding i u) j e in
      let code = and_then_inv (λ c. child_among es i c) (char_code coding u) next.0 next.1 in
      ap (λ b. b && all_scalars w) (char_code-is coding u code.0 code.1).0 ∙ text_leads w next.0 j next.2

module _ {V : Type 0} (p : Parts V) where
  pub child_inside : (i u j : ℕ) → child p i u ≡ Some j → (j < count p) × (u < length p.coding.table)
  child_inside i u j e =
      let code = and_then_inv (λ c. child_among p.states i c) (char_code p.coding u) j e in
      let check : ℕ → ℕ = λ k. check_in (slice_index_or p.states k vacant) in
      let at = child_at-inside (count p) i (base_in (slice_index_or p.states i vacant)) code.0 j check code.2 in
      (at.0, coded_inside p.coding u code.0 code.1)

  -- a text with values is made of characters
  pub text_key : (w : List ℕ) → IsKey (content p) w → IsTrue (all_scalars w)
  text_key w key = go (walk (child p) 0 w) refl
    where
      go : (o : Option ℕ) → walk (child p) 0 w ≡ o → IsTrue (all_scalars w)
      go None e = absurd (key (ap (values_at char_width (machine p) w) e))
      go (Some j) e = text_leads p.states p.coding w 0 j e

  pub valid_machine : IsValid p → IsMachine char_width (machine p) (is_leftmost p.kind) (count p) (length p.coding.table)
  valid_machine valid = record {
    some = valid.grouped.some;
    inside = child_inside;
    outputs_inside = valid.sound.ranges.positions;
    parents_fall = valid.sound.parents_fall;
    right = valid.sound.right;
  }

  -- no key has a character without a code
  pub foreign_char : IsValid p → (u : ℕ) → char_code p.coding u ≡ None → (has_code p u ≡ false) × IsForeign (content p) u
  foreign_char valid u none =
      (ap (λ o. is_some o) none, foreign _ _ _ _ _ (valid_machine valid) u (λ i. ap (λ o. option_and_then (λ c. child_among p.states i c) o) none))
