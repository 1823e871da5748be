-- What was written is read as the automaton that was written: so it is refused for want of memory alone, it is of the
-- kind that it was written for, and what it finds is what the pattern file asks for.
use Rattle.std.proofs.Common.{◌≡◌, ◌⊎◌, ◌^◌, ◌<◌, ℕ, false, List, ◌++◌, ap, subst, ◌∙◌, [], Option, append-nil, sym, refl}
use Rattle.std.specs.Int.{w32}
use Rattle.std.specs.Io.KnownBytes.{Appends}
use Rattle.daachorse.specs.DaachorseError.{DaachorseError}
use Rattle.daachorse.specs.Refusals.{IsOutOfMemory}
use Rattle.daachorse.specs.Replaced.{AppendsBeginning}
use Rattle.daachorse_model.specs.declared.MatchKind.{MatchKind}
use Rattle.daachorse_model.specs.Folding.{as_read}
use Rattle.daachorse_model.specs.Program.{match_text, pattern_lines}
use Rattle.daachorse.specs.Forms.{number_form, take_number}
use Rattle.daachorse.specs.Laws.{number_law}
use Rattle.daachorse.specs.bytewise.Automata.{Automaton as Searches, dictionary_of, kind_of}
use Rattle.daachorse.specs.bytewise.Building.{IsBuiltOf}
use Rattle.daachorse.specs.bytewise.ReadForms.{GivesAutomaton, GivesNoAutomaton}
use Rattle.daachorse.specs.bytewise.WrittenForms.{IsAutomaton, without_depths, written_form}
use Rattle.daachorse.proofs.WrittenLaws.{gives_written, refuses_written}
use Rattle.daacfind_command.specs.declared.mode.Mode.{Mode}
use Rattle.daacfind_command.specs.Modes.{found_by, kind_of_mode, text_of_mode}
use Rattle.daacfind_command.specs.Runs.{value_gives}
use Rattle.daacfind_command.specs.Written.{BeginsWithForm, IsFormOf, IsOfAnotherKind, IsTextBy}
use Rattle.daacfind_command.proofs.Built.{text_of_built}

-- where all was written, a beginning was
pub a_beginning_of_all : (old new : Option (List ℕ)) (bytes : List ℕ) → Appends old new bytes → AppendsBeginning old new bytes
a_beginning_of_all old new bytes whole = (bytes, [], sym (append-nil bytes), whole)

-- the bytes of an automaton that was built of the lines
pub form_of_built : (mode : Mode) (patterns : List ℕ) (kind : MatchKind) (a : Searches ℕ) (bytes : List ℕ)
    → kind ≡ kind_of_mode mode → IsBuiltOf value_gives kind false (pattern_lines patterns) a
    → IsAutomaton (λ v. v < 2 ^ 32) a → bytes ≡ written_form (number_form w32) a → IsFormOf (kind_of_mode mode) patterns bytes
form_of_built mode patterns kind a bytes is built is_one form =
    let P : MatchKind → Type 0 = λ k. IsBuiltOf value_gives k false (pattern_lines patterns) a in
    record { automaton = a; built = subst P is built; is_one = is_one; form = form }

module _ (mode : Mode) (patterns bytes : List ℕ) (written : BeginsWithForm mode patterns bytes) where
  abbrev wrote : Searches ℕ
  wrote = written.is_form.automaton

  begins : bytes ≡ written_form (number_form w32) wrote ++ written.rest
  begins = written.begins ∙ ap (λ l. l ++ written.rest) written.is_form.form

  -- what the bytes give is what was written
  gives_same : (a : Searches ℕ) (left : List ℕ) → GivesAutomaton (take_number w32) bytes a left → without_depths a ≡ without_depths wrote
  gives_same = gives_written (number_law w32) bytes written.rest wrote written.is_form.is_one begins

  -- a read refuses it for want of memory alone
  pub refused_for_memory : (e : DaachorseError) → IsOutOfMemory e ⊎ GivesNoAutomaton (take_number w32) bytes → IsOutOfMemory e
  refused_for_memory = refuses_written (number_law w32) bytes written.rest wrote written.is_form.is_one begins

  -- it is of the mode's kind
  pub kind_is_right : IsOfAnotherKind mode bytes → ⊥
  kind_is_right other = other.kind (ap kind_of (gives_same other.automaton other.rest other.given) ∙ written.is_form.built.2.kind)

  -- the mode finds with it what the pattern file asks for
  pub finds_same : (haystack text : List ℕ) → IsTextBy mode bytes haystack text → text ≡ text_of_mode mode patterns haystack
  finds_same haystack text read =
      let text_by : Searches ℕ → List ℕ = λ a. match_text (found_by mode (dictionary_of a) (as_read a.folds haystack)) in
      read.found ∙ ap text_by (gives_same read.automaton read.rest read.given)
      ∙ text_of_built mode patterns haystack wrote (kind_of_mode mode) refl written.is_form.built
