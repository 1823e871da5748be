-- Why a command ends with nothing written.
use Rattle.std.specs.Prelude.{◌≡◌, ◌⊎◌, ◌<◌, ℕ, List, Some, None, alloc_error, false, map}
use Rattle.std.specs.Borrow.{Bor}
use Rattle.std.specs.Int.{w32}
use Rattle.std.specs.List.{Contains}
use Rattle.daachorse_model.specs.Folding.{all_as_read}
use Rattle.daachorse.specs.bytewise.Automata.{Automaton}
use Rattle.daachorse.specs.bytewise.Building.{IsBuildRefusal}
use Rattle.daachorse.specs.DaachorseError.{DaachorseError}
use Rattle.daachorse.specs.Forms.{take_number}
use Rattle.daachorse.specs.bytewise.ReadForms.{GivesAutomaton, GivesNoAutomaton}
use Rattle.daachorse.specs.Refusals.{IsOutOfMemory}
use Rattle.daacfind_command.specs.Commands.{Tells}
use Rattle.daacfind_command.specs.Runs.{value_gives}
use Rattle.daacgrep_command.specs.declared.error.CommandError.{CommandError}
use Rattle.daacgrep_command.specs.declared.error.CommandError.TheVariants.{NoPattern, Read, Build, Load, OtherOptions, Save, OutOfMemory}
use Rattle.daacgrep_command.specs.declared.flag.Flag.{Flag}
use Rattle.daacgrep_command.specs.declared.flag.Flag.TheVariants.{IgnoreCase, Values}
use Rattle.daacgrep_command.specs.Asked.{AreFilesOf, GivenFile, IsSavedWith, has_unread, kind_asked, names_patterns, rules_asked}
use Rattle.daacgrep_command.specs.FileSystems.{Disk}
use Rattle.daacgrep_command.specs.Flags.{asks}
use Rattle.daacgrep_command.specs.Options.{Asked, last_of}
use Rattle.daacgrep_command.specs.Rules.{pattern_of}

-- the bytes begin with no automaton, or there was no memory to read it
abbrev pub IsNoForm : List ℕ → DaachorseError → Type 0
IsNoForm bytes cause = IsOutOfMemory cause ⊎ GivesNoAutomaton (take_number w32) bytes

module _ (old new : Disk) where
  -- the file of this name could not be read, and this was counted
  abbrev pub IsUnread : List ℕ → Type 0
  IsUnread name = Tells old.given name None × (old.failures < new.failures)

  -- there was no memory, or the error names a file among these that cannot be read
  abbrev pub IsNotRead : List (List ℕ) → CommandError → Type 0
  IsNotRead names e =
      (e ≡ OutOfMemory alloc_error) ⊎ ((name : Bor (List ℕ)) × (e ≡ Read name) × Contains names name.now × IsUnread name.now)

  -- the file begins with an automaton for other searches than those that are asked for
  pub record IsOfOtherOptions (flags : List Flag) (file : List ℕ) : Type 0 where
    pub bytes : List ℕ
    pub has : Tells old.given file (Some bytes)
    pub automaton : Automaton ℕ
    pub rest : List ℕ
    pub begins : GivesAutomaton (take_number w32) bytes automaton rest
    pub differs : IsSavedWith flags automaton → ⊥

  -- the file cannot be read, begins with no automaton, or with one for other searches
  abbrev pub IsNotLoaded : List Flag → Bor (List ℕ) → CommandError → Type 0
  IsNotLoaded flags name e =
      ((e ≡ Read name) × IsUnread name.now)
      ⊎ (((cause : DaachorseError) × (e ≡ Load name cause)
      × ((bytes : List ℕ) × Tells old.given name.now (Some bytes) × IsNoForm bytes cause))
      ⊎ ((e ≡ OtherOptions name) × IsOfOtherOptions flags name.now))

-- the build refuses the patterns of these lines
abbrev pub IsNotBuilt : List Flag → List (List ℕ) → CommandError → Type 0
IsNotBuilt flags rules e =
    (cause : DaachorseError) × (e ≡ Build cause)
    × IsBuildRefusal value_gives (kind_asked flags) (all_as_read (asks IgnoreCase flags) (map (pattern_of (asks Values flags)) rules)) cause

-- the file of this name cannot be written, or there was no memory for what it is to have
abbrev pub IsUnsaved : Bor (List ℕ) → CommandError → Type 0
IsUnsaved name e = (e ≡ Save name) ⊎ ((cause : DaachorseError) × (e ≡ Build cause) × IsOutOfMemory cause)

module _ (asked : Asked) (old new : Disk) where
  -- no pattern is named, or their files are not read
  abbrev pub IsNoText : CommandError → Type 0
  IsNoText e = ((e ≡ NoPattern) × (names_patterns asked ≡ false)) ⊎ IsNotRead old new asked.pattern_files e

  -- there is no automaton as it is asked for, where the patterns have these lines
  abbrev pub IsNoAutomaton : List (List ℕ) → CommandError → Type 0
  IsNoAutomaton rules e =
      IsNotBuilt asked.flags rules e
      ⊎ ((name : Bor (List ℕ)) × (last_of asked.loads ≡ Some name.now) × IsNotLoaded old new asked.flags name e)

  -- the patterns were read, and there is no automaton as it is asked for
  abbrev pub IsNoSearcher : CommandError → Type 0
  IsNoSearcher e =
      (files : List GivenFile) × AreFilesOf old.given asked.pattern_files files × (has_unread files ≡ false)
      × IsNoAutomaton (rules_asked asked files) e

  -- why nothing that is asked for is done
  abbrev pub IsCause : CommandError → Type 0
  IsCause e = IsNoText e ⊎ (IsNoSearcher e ⊎ ((name : Bor (List ℕ)) × (last_of asked.saves ≡ Some name.now) × IsUnsaved name e))
