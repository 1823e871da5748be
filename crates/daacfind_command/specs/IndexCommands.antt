-- What `daacindex` is asked for, and how it ends.
use Rattle.std.specs.Prelude.{◌≡◌, ◌⊎◌, ℕ, List, [], ◌∷◌, Option, Some, None, Result, codes}
use Rattle.std.specs.Borrow.{Bor}
use Rattle.std.specs.Int.{w32}
use Rattle.std.specs.Result.{IsErrAnd}
use Rattle.daachorse.specs.DaachorseError.{DaachorseError}
use Rattle.daachorse.specs.Forms.{IsReadRefusal, take_number}
use Rattle.daachorse.specs.bytewise.ReadForms.{GivesNoAutomaton}
use Rattle.daachorse.specs.Refusals.{IsOutOfMemory}
use Rattle.daacfind_command.specs.declared.index.command.Request.{Request}
use Rattle.daacfind_command.specs.declared.index.command.Request.TheVariants.{Form, Matches}
use Rattle.daacfind_command.specs.declared.index.written.IndexError.{IndexError}
use Rattle.daacfind_command.specs.declared.index.written.IndexError.TheVariants.{Refused, Kind}
use Rattle.daacfind_command.specs.declared.mode.Mode.{Mode}
use Rattle.daacfind_command.specs.declared.status.CommandError.{CommandError}
use Rattle.daacfind_command.specs.declared.status.CommandError.TheVariants.{Read, Run}
use Rattle.daacfind_command.specs.Commands.{Ends, IsFirstUnread, IsNotBuilt, Tells, status_of}
use Rattle.daacfind_command.specs.Modes.{kind_of_mode, mode_word}
use Rattle.daacfind_command.specs.Written.{IsFormOf, IsOfAnotherKind, IsTextBy}

-- the words ask for the written automaton of a file of patterns, or for what the one in a file finds in a haystack
abbrev pub Ask : List (Option (List ℕ)) → Request → Type 0
Ask words (Form mode patterns) = words ≡ Some (codes "write") ∷ Some (mode_word mode) ∷ Some patterns.now ∷ []
Ask words (Matches mode automaton haystack) =
    words ≡ Some (codes "search") ∷ Some (mode_word mode) ∷ Some automaton.now ∷ Some haystack.now ∷ []

-- the words ask for neither
abbrev pub AskNothing : List (Option (List ℕ)) → Type 0
AskNothing words = (request : Request) → Ask words request → ⊥

module _ (given : Option (List ℕ → Option (List ℕ))) where
  -- the bytes are the written automaton of the lines of the file of this name
  pub record IsForm (mode : Mode) (name bytes : List ℕ) : Type 0 where
    pub patterns : List ℕ
    pub has_patterns : Tells given name (Some patterns)
    pub form : IsFormOf (kind_of_mode mode) patterns bytes

  -- the text is of the matches that the automaton in the first file finds in the second
  pub record IsText (mode : Mode) (automaton_name haystack_name text : List ℕ) : Type 0 where
    pub automaton : List ℕ
    pub haystack : List ℕ
    pub has_automaton : Tells given automaton_name (Some automaton)
    pub has_haystack : Tells given haystack_name (Some haystack)
    pub found : IsTextBy mode automaton haystack text

  -- these bytes are asked for
  abbrev pub Gives : Request → List ℕ → Type 0
  Gives (Form mode patterns) bytes = IsForm mode patterns.now bytes
  Gives (Matches mode automaton haystack) bytes = IsText mode automaton.now haystack.now bytes

  -- the file of this name begins with no automaton, or there was no memory to read it
  pub record IsNoAutomaton (name : List ℕ) (refusal : DaachorseError) : Type 0 where
    pub bytes : List ℕ
    pub has_bytes : Tells given name (Some bytes)
    pub none : IsOutOfMemory refusal ⊎ GivesNoAutomaton (take_number w32) bytes
    pub cause : IsReadRefusal (λ _. ⊥) refusal

  -- the file of this name begins with an automaton for other searches than the mode's
  abbrev pub IsForOthers : Mode → List ℕ → Type 0
  IsForOthers mode name = (bytes : List ℕ) × Tells given name (Some bytes) × IsOfAnotherKind mode bytes

  -- why nothing of what is asked for was written: the first of its files that cannot be read, or what the bytes are refused for
  abbrev pub IsCause : Request → CommandError IndexError → Type 0
  IsCause (Form mode patterns) e =
      ((e ≡ Read patterns) × Tells given patterns.now None)
      ⊎ ((refusal : DaachorseError) × (e ≡ Run (Refused refusal)) × IsNotBuilt given mode patterns.now refusal)
  IsCause (Matches mode automaton haystack) e =
      ((name : Bor (List ℕ)) × (e ≡ Read name) × IsFirstUnread given automaton.now haystack.now name.now)
      ⊎ (((refusal : DaachorseError) × (e ≡ Run (Refused refusal)) × IsNoAutomaton automaton.now refusal)
      ⊎ ((e ≡ Run Kind) × IsForOthers mode automaton.now))

  -- how an attempt of a request ends
  abbrev pub EndsFor : {T : Type 0} → Request → Option (List ℕ) → Option (List ℕ) → ℕ → ℕ → Result T (CommandError IndexError) → Type 0
  EndsFor request old new failures_old failures_new result =
      Ends (Gives request) (IsErrAnd result (IsCause request)) ⊥ old new failures_old failures_new (status_of result)

module _ (words : List (Option (List ℕ))) (given : Option (List ℕ → Option (List ℕ))) where
  -- the words ask for these bytes
  abbrev pub IsAsked : List ℕ → Type 0
  IsAsked bytes = (request : Request) × Ask words request × Gives given request bytes

  -- how an attempt ends of the request that the words are
  abbrev pub Attempts : {T : Type 0} → Option (List ℕ) → Option (List ℕ) → ℕ → ℕ → Result T (CommandError IndexError) → Type 0
  Attempts old new failures_old failures_new result =
      Ends IsAsked ((request : Request) × Ask words request × IsErrAnd result (IsCause given request)) (AskNothing words)
      old new failures_old failures_new (status_of result)

  -- what a status says, where nothing is written for a cause of the request that the words are
  abbrev pub EndsBy : Option (List ℕ) → Option (List ℕ) → ℕ → ℕ → ℕ → Type 0
  EndsBy =
      Ends IsAsked ((request : Request) × Ask words request × ((e : CommandError IndexError) × IsCause given request e)) (AskNothing words)
