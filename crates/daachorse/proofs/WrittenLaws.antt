-- What was written of an automaton is read as that automaton, and refused for want of memory alone.
use Rattle.std.proofs.Common.{◌≡◌, ◌⊎◌, ℕ, List, ◌++◌, refl}
use Rattle.daachorse_core.specs.Refusals.{IsOutOfMemory}
use Rattle.daachorse_core.specs.declared.errors.DaachorseError.{DaachorseError}
use Rattle.daachorse_serializer.specs.Forms.{IsForm, Taken}
use Rattle.daachorse_checker.proofs.ReadLaws.{gives_back, refuses_written as refuses}
use Rattle.daachorse_bytewise_states.proofs.FormLaws.{automaton_law}
use Rattle.daachorse.specs.bytewise.Automata.{Automaton}
use Rattle.daachorse.specs.bytewise.ReadForms.{GivesAutomaton, GivesNoAutomaton}
use Rattle.daachorse.specs.bytewise.WrittenForms.{IsAutomaton, without_depths, written_form}

module _ {V : Type 0} {is_value : V → Type 0} {value : V → List ℕ} {take_value : List ℕ → Taken V} {n : ℕ} (law : IsForm is_value value take_value (λ _. n)) (bytes rest : List ℕ) (a : Automaton V) (is_one : IsAutomaton is_value a)
    (is : bytes ≡ written_form value a ++ rest) where
  -- the bytes give the automaton that was written, but for cached depths
  pub gives_written : (b : Automaton V) (left : List ℕ) → GivesAutomaton take_value bytes b left → without_depths b ≡ without_depths a
  gives_written b left given =
      let bare : GivesAutomaton take_value bytes (without_depths b) left = record { taken = given.taken; valid = given.valid; folded = given.folded; passes = given.passes } in
      (gives_back (automaton_law law) bytes rest a is_one is (without_depths b) left bare refl).0

  -- a read of them is refused for want of memory alone
  pub refuses_written : (e : DaachorseError) → IsOutOfMemory e ⊎ GivesNoAutomaton take_value bytes → IsOutOfMemory e
  refuses_written = refuses (automaton_law law) bytes rest a is_one is
