-- How a command ends, whatever its words ask for.
use Rattle.std.specs.Prelude.{◌≡◌, ◌⊎◌, ◌+◌, ⊤, ℕ, zero, suc, List, Option, Some, None, map, Result, Ok, Err}
use Rattle.std.specs.Option.{option_map}
use Rattle.std.specs.Borrow.{Bor}
use Rattle.std.specs.Io.KnownBytes.{Appends, Keeps}
use Rattle.daachorse_model.specs.Program.{pattern_lines}
use Rattle.daachorse.specs.bytewise.Building.{IsBuildRefusal}
use Rattle.daachorse.specs.DaachorseError.{DaachorseError}
use Rattle.daachorse.specs.Replaced.{AppendsBeginning}
use Rattle.daacfind_command.specs.declared.mode.Mode.{Mode}
use Rattle.daacfind_command.specs.declared.status.CommandError.{CommandError}
use Rattle.daacfind_command.specs.declared.status.CommandError.TheVariants.{Usage, Read, Run}
use Rattle.daacfind_command.specs.Modes.{kind_of_mode}
use Rattle.daacfind_command.specs.Runs.{value_gives}

-- the arguments as texts, none where one is not UTF-8
abbrev pub words_of : List (Option (Bor (List ℕ))) → List (Option (List ℕ))
words_of = map (option_map (λ word. word.now))

-- the file of this name has these bytes, or cannot be read; files that do not tell say nothing
abbrev pub Tells : Option (List ℕ → Option (List ℕ)) → List ℕ → Option (List ℕ) → Type 0
Tells None name bytes = ⊤
Tells (Some given) name bytes = given name ≡ bytes

module _ (given : Option (List ℕ → Option (List ℕ))) where
  -- the file of this name is the first of the two that cannot be read
  abbrev pub IsFirstUnread : List ℕ → List ℕ → List ℕ → Type 0
  IsFirstUnread first second name =
      ((name ≡ first) × Tells given name None)
      ⊎ ((name ≡ second) × Tells given name None × ((bytes : List ℕ) × Tells given first (Some bytes)))

  -- the build refuses the lines of the file of this name
  pub record IsNotBuilt (mode : Mode) (name : List ℕ) (refusal : DaachorseError) : Type 0 where
    pub patterns : List ℕ
    pub has_patterns : Tells given name (Some patterns)
    pub refused : IsBuildRefusal value_gives (kind_of_mode mode) (pattern_lines patterns) refusal

-- the status that an attempt has
abbrev pub status_of : {T E : Type 0} → Result T (CommandError E) → ℕ
status_of (Ok x) = 0
status_of (Err Usage) = 2
status_of (Err (Read name)) = 1
status_of (Err (Run e)) = 1

module _ (IsAsked : List ℕ → Type 0) (Fails AsksNothing : Type 0) (old new : Option (List ℕ)) (failures_old failures_new : ℕ) where
  -- what a status says: 0 that all that is asked for was written, 1 that nothing was, for a cause, or a beginning,
  -- where writing failed, and 2 that nothing is asked for
  abbrev pub Ends : ℕ → Type 0
  Ends zero = (bytes : List ℕ) × IsAsked bytes × Appends old new bytes × (failures_new ≡ failures_old)
  Ends (suc zero) =
      (Fails × Keeps old new × (failures_new ≡ failures_old))
      ⊎ ((bytes : List ℕ) × IsAsked bytes × AppendsBeginning old new bytes × (failures_new ≡ failures_old + 1))
  Ends (suc (suc zero)) = AsksNothing × Keeps old new × (failures_new ≡ failures_old)
  Ends (suc (suc (suc n))) = ⊥
