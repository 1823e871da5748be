-- What `daacfind` is asked for, and how it ends.
use Rattle.std.specs.Prelude.{◌≡◌, ◌⊎◌, ℕ, List, [], ◌∷◌, Option, Some}
use Rattle.daachorse.specs.DaachorseError.{DaachorseError}
use Rattle.daacfind_command.specs.declared.mode.Mode.{Mode}
use Rattle.daacfind_command.specs.declared.run.RunError.{RunError}
use Rattle.daacfind_command.specs.declared.run.RunError.TheVariants.{Build, Write}
use Rattle.daacfind_command.specs.declared.status.CommandError.{CommandError}
use Rattle.daacfind_command.specs.declared.status.CommandError.TheVariants.{Usage, Read, Run}
use Rattle.daacfind_command.specs.Commands.{Ends, IsFirstUnread, IsNotBuilt, Tells}
use Rattle.daacfind_command.specs.Modes.{mode_word, text_of_mode}

-- the words are a mode and the names of two files
abbrev pub Ask : List (Option (List ℕ)) → Mode → List ℕ → List ℕ → Type 0
Ask words mode patterns haystack = words ≡ Some (mode_word mode) ∷ Some patterns ∷ Some haystack ∷ []

-- the words are no such three
abbrev pub AskNothing : List (Option (List ℕ)) → Type 0
AskNothing words = (mode : Mode) (patterns haystack : List ℕ) → Ask words mode patterns haystack → ⊥

module _ (words : List (Option (List ℕ))) (given : Option (List ℕ → Option (List ℕ))) where
  -- the words name two files, of these bytes, and a mode, by which this text is to be written
  pub record IsAsked (text : List ℕ) : Type 0 where
    pub mode : Mode
    pub patterns_name : List ℕ
    pub haystack_name : List ℕ
    pub asked : Ask words mode patterns_name haystack_name
    pub patterns : List ℕ
    pub haystack : List ℕ
    pub has_patterns : Tells given patterns_name (Some patterns)
    pub has_haystack : Tells given haystack_name (Some haystack)
    pub is : text ≡ text_of_mode mode patterns haystack

  -- the words name two files, and the one of this name is the first of them that cannot be read
  pub record IsUnread (name : List ℕ) : Type 0 where
    pub mode : Mode
    pub patterns_name : List ℕ
    pub haystack_name : List ℕ
    pub asked : Ask words mode patterns_name haystack_name
    pub unread : IsFirstUnread given patterns_name haystack_name name

  -- the words name two files and a mode, and the build refuses the lines of the first
  pub record IsRefused (refusal : DaachorseError) : Type 0 where
    pub mode : Mode
    pub patterns_name : List ℕ
    pub haystack_name : List ℕ
    pub asked : Ask words mode patterns_name haystack_name
    pub refused : IsNotBuilt given mode patterns_name refusal

  -- what an error says: which file cannot be read, or why the build refuses
  abbrev pub IsCause : CommandError RunError → Type 0
  IsCause Usage = AskNothing words
  IsCause (Read name) = IsUnread name.now
  IsCause (Run (Build refusal)) = IsRefused refusal
  IsCause (Run Write) = (text : List ℕ) × IsAsked text

  -- what a status says, where nothing is written if a file cannot be read, or the build refuses
  abbrev pub EndsBy : Option (List ℕ) → Option (List ℕ) → ℕ → ℕ → ℕ → Type 0
  EndsBy = Ends IsAsked (((name : List ℕ) × IsUnread name) ⊎ ((refusal : DaachorseError) × IsRefused refusal)) (AskNothing words)
