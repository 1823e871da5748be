-- What is read of the elements that a view borrows is what its parts have.
use Rattle.std.proofs.Common.{◌≡◌, ◌≢◌, ℕ, ◌<◌, ◌/◌, Bool, false, List, length, Option, sym, ap, ◌∙◌, subst, arith, slice_index_or}
use Rattle.std.specs.declared.num.NonZeroU32.{NonZeroU32}
use Rattle.daachorse_core.specs.Outputs.{number}
use Rattle.daachorse_core.specs.declared.turns.Look.TheVariants.{Next}
use Rattle.daachorse_model.specs.Kinds.{is_leftmost}
use Rattle.daachorse_model.specs.Units.{byte_width}
use Rattle.daachorse_array.proofs.ChildLaws.{child_at-same}
use Rattle.daachorse_array.proofs.DeadLaws.{kind_standard, none_dead}
use Rattle.daachorse_array.proofs.MachineLaws.{standard-alive}
use Rattle.daachorse_array.specs.Machines.{IsMachine}
use Rattle.daachorse_bytewise_states.specs.Children.{child_from}
use Rattle.daachorse_bytewise_states.specs.declared.state.State.{State}
use Rattle.daachorse_bytewise_states.specs.Elements.{base_in, check_in, output_in}
use Rattle.daachorse_bytewise_states.specs.Parts.{Parts, base_of, check_of, child, child_by, count, fail_of, machine, output_of}
use Rattle.daachorse_bytewise_states.specs.Valid.{IsState}
use Rattle.daachorse_bytewise_states.specs.Views.{IsSeen}
use Rattle.daachorse_bytewise_states.proofs.ByteLaws.{Gives, look_table, state_inside, table_output, valid_machine}

-- q is what is borrowed, and p what contracts see of it
pub seen_by : {V F B : Type 0} {leftmost : Bool} {link : State F → List B → ℕ → ℕ} {es : List (State F)} {beside : List B} {root : List (ℕ × ℕ)} {q p : Parts V}
    → q ≡ p → IsSeen leftmost link es beside root q → IsSeen leftmost link es beside root p
seen_by {leftmost = leftmost} {link = link} {es = es} {beside = beside} {root = root} is seen = subst (λ x. IsSeen leftmost link es beside root x) is seen

module _ {V F B : Type 0} {leftmost : Bool} {link : State F → List B → ℕ → ℕ} {es : List (State F)} {beside : List B} {root : List (ℕ × ℕ)} {p : Parts V} (seen : IsSeen leftmost link es beside root p) where
  pub seen_machine : IsMachine byte_width (machine p) (is_leftmost p.kind) (count p) 256
  seen_machine = valid_machine p seen.stored.valid

  pub seen_inside : (i : ℕ) → IsState p i → i < length es
  seen_inside i r = let inside : i < count p = state_inside p seen.stored.valid i r in omega (arith, inside, seen.size)

  -- what is read off the element of a state
  module _ (e : State F) (i : ℕ) (is : e ≡ slice_index_or es i e) (r : IsState p i) where
    pub seen_child : (c : ℕ) → child p i c ≡ child_from es e c
    seen_child c =
        ap (λ n. child_by n (base_of p i) (check_of p) c) seen.size
        ∙ (ap (λ b. child_by (length es) b (check_of p) c) (seen.base i e (seen_inside i r) ∙ ap base_in (sym is))
        ∙ child_at-same (length es) c (base_in e) c (check_of p) (λ j. check_in (slice_index_or es j e)) (λ j below. seen.check j e (omega (arith, below))))

    pub seen_base : base_in e < length es
    seen_base =
        let inside = seen_inside i r in
        let base = seen.stored.valid.grouped.bases i (state_inside p seen.stored.valid i r) in
        let same : base_of p i ≡ base_in e = seen.base i e inside ∙ ap base_in (sym is) in
        omega (arith, base, same, seen.size)

    pub seen_link : fail_of p i ≡ link e beside i
    seen_link = seen.fail i e (seen_inside i r) ∙ ap (λ x. link x beside i) (sym is)

    pub seen_output : output_of p i ≡ output_in e
    seen_output = seen.output i e (seen_inside i r) ∙ ap output_in (sym is)

  -- no link is dead where the searches are standard
  pub seen_alive : leftmost ≡ false → (i f : ℕ) → IsState p i → i ≢ 0 → fail_of p i ≡ f → f ≢ 1
  seen_alive standard i f r other at one = standard-alive _ _ _ _ _ seen_machine i r other (none_dead byte_width (machine p) p.kind (kind_standard p.kind (seen.kind ∙ standard))) (at ∙ one)

  -- what the table of the root has for a byte, with the first output there
  pub seen_entry : leftmost ≡ false → (i c : ℕ) (to : ℕ × ℕ) → IsState p i → c < 256 → i ≡ 0 → to ≡ slice_index_or root c (0, 0) → (o : Option NonZeroU32) → number o ≡ to.1 / 256 → Gives p i c (Next to.0 o) × (output_of p to.0 ≡ number o)
  seen_entry standard i c to r byte top entry o at =
      let kind : is_leftmost p.kind ≡ false = seen.kind ∙ standard in
      let table = seen.stored.table (kind_standard p.kind kind) in (
        look_table p seen.stored.valid root table i c to.0 r byte top (ap (λ e. e.0) entry) o,
        ap (λ e. output_of p e.0) entry ∙ (table_output p seen.stored.valid kind root table c byte ∙ (sym (ap (λ e. e.1 / 256) entry) ∙ sym at)),
      )
