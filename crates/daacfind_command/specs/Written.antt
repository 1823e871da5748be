-- What is written of an automaton for later runs, and what a run finds by one that was written.
use Rattle.std.specs.Prelude.{◌≡◌, ◌≢◌, ◌<◌, ◌^◌, ◌++◌, ⊤, ℕ, List, false}
use Rattle.std.specs.Int.{w32}
use Rattle.daachorse.specs.DaachorseError.{DaachorseError}
use Rattle.daachorse_model.specs.declared.MatchKind.{MatchKind}
use Rattle.daachorse_model.specs.Folding.{as_read}
use Rattle.daachorse_model.specs.Program.{match_text, pattern_lines}
use Rattle.daachorse.specs.Forms.{number_form, take_number}
use Rattle.daachorse.specs.bytewise.Automata.{Automaton as Searches, dictionary_of, kind_of}
use Rattle.daachorse.specs.bytewise.Building.{IsBuiltOf}
use Rattle.daachorse.specs.bytewise.ReadForms.{GivesAutomaton}
use Rattle.daachorse.specs.bytewise.WrittenForms.{IsAutomaton, written_form}
use Rattle.daacfind_command.specs.declared.mode.Mode.{Mode}
use Rattle.daacfind_command.specs.declared.index.written.IndexError.{IndexError}
use Rattle.daacfind_command.specs.declared.index.written.IndexError.TheVariants.{Refused, Kind, Write}
use Rattle.daacfind_command.specs.Modes.{found_by, kind_of_mode}
use Rattle.daacfind_command.specs.Runs.{value_gives}

-- the bytes are the written form of an automaton of the lines of a pattern file, for searches of the kind
pub record IsFormOf (kind : MatchKind) (patterns bytes : List ℕ) : Type 0 where
  pub automaton : Searches ℕ
  pub built : IsBuiltOf value_gives kind false (pattern_lines patterns) automaton
  pub is_one : IsAutomaton (λ v. v < 2 ^ 32) automaton
  pub form : bytes ≡ written_form (number_form w32) automaton

-- the bytes begin with the written form of an automaton of the lines of a pattern file, for searches of the mode's kind
pub record BeginsWithForm (mode : Mode) (patterns bytes : List ℕ) : Type 0 where
  pub form : List ℕ
  pub rest : List ℕ
  pub is_form : IsFormOf (kind_of_mode mode) patterns form
  pub begins : bytes ≡ form ++ rest

-- the bytes begin with an automaton for searches of the mode, which finds the matches of this text
pub record IsTextBy (mode : Mode) (bytes haystack text : List ℕ) : Type 0 where
  pub automaton : Searches ℕ
  pub rest : List ℕ
  pub given : GivesAutomaton (take_number w32) bytes automaton rest
  pub kind : kind_of automaton ≡ kind_of_mode mode
  pub found : text ≡ match_text (found_by mode (dictionary_of automaton) (as_read automaton.folds haystack))

-- the bytes begin with an automaton for other searches than the mode's
pub record IsOfAnotherKind (mode : Mode) (bytes : List ℕ) : Type 0 where
  pub automaton : Searches ℕ
  pub rest : List ℕ
  pub given : GivesAutomaton (take_number w32) bytes automaton rest
  pub kind : kind_of automaton ≢ kind_of_mode mode

-- where the bytes were refused, P holds of the cause
abbrev pub IfRefused : IndexError → (DaachorseError → Type 0) → Type 0
IfRefused (Refused e) P = P e
IfRefused Kind P = ⊤
IfRefused Write P = ⊤

-- where the automaton is of another kind, P holds
abbrev pub OnKind : IndexError → Type 0 → Type 0
OnKind (Refused e) P = ⊤
OnKind Kind P = P
OnKind Write P = ⊤

-- where the bytes or the automaton were refused, P holds
abbrev pub OnRefusal : IndexError → Type 0 → Type 0
OnRefusal (Refused e) P = P
OnRefusal Kind P = P
OnRefusal Write P = ⊤

-- where writing failed, P holds
abbrev pub OnFailure : IndexError → Type 0 → Type 0
OnFailure (Refused e) P = ⊤
OnFailure Kind P = ⊤
OnFailure Write P = P
