-- How a command ends.
use Rattle.std.specs.Prelude.{◌≡◌, ◌⊎◌, ◌+◌, ◌<◌, ℕ, List, [], ◌++◌, Option, Result, Ok, Err}
use Rattle.std.specs.Io.KnownBytes.{Appends, Keeps}
use Rattle.daachorse.specs.Replaced.{AppendsBeginning}
use Rattle.daacgrep_command.specs.declared.error.CommandError.{CommandError}
use Rattle.daacgrep_command.specs.declared.error.CommandError.TheVariants.{Options, Write}
use Rattle.daacgrep_command.specs.declared.options.OptionError.{OptionError}
use Rattle.daacgrep_command.specs.declared.options.Role.TheVariants.{Any}
use Rattle.daacgrep_command.specs.Asked.{IsAnswer}
use Rattle.daacgrep_command.specs.Causes.{IsCause}
use Rattle.daacgrep_command.specs.FileSystems.{Disk, SavedFile, Stores}
use Rattle.daacgrep_command.specs.Messages.{AreWarnings, EndWith, Notice, Sends}
use Rattle.daacgrep_command.specs.Messages.Notice.{Failed}
use Rattle.daacgrep_command.specs.Options.{Asked, CanBeMet, IsRefusal, options_of, requests}
use Rattle.daacgrep_command.specs.Sending.{Sent}

-- nothing was written, neither to files nor to the output
pub record IsUnwritten (files_old files_new : Disk) (old new : Sent) : Type 0 where
  pub saved : files_new.saved ≡ files_old.saved
  pub taken : Keeps old.taken new.taken
  pub unfailed : new.failures ≡ old.failures

module _ (asked : Asked) (files_old files_new : Disk) (old new : Sent) where
  -- writing failed, after a beginning of what is asked for
  pub record IsCutOff : Type 0 where
    pub text : List ℕ
    pub notices : List Notice
    pub status : ℕ
    pub is_answer : IsAnswer asked files_old.given text [] notices status
    pub written : AppendsBeginning old.taken new.taken text
    pub kept : files_new.saved ≡ files_old.saved
    pub failed : new.failures ≡ old.failures + 1

  -- nothing was written, for this cause, or writing failed
  abbrev pub HasFailed : CommandError → Type 0
  HasFailed e = (IsUnwritten files_old files_new old new × IsCause asked files_old files_new e) ⊎ ((e ≡ Write) × IsCutOff)

  module _ (sent_old sent_new : Option (List Notice)) where
    -- all that is asked for was written and reported, after a warning at most; the status is 2 only where a file could not be read
    pub record IsDone (status : ℕ) : Type 0 where
      pub text : List ℕ
      pub saved : List SavedFile
      pub notices : List Notice
      pub is_answer : IsAnswer asked files_old.given text saved notices status
      pub written : Appends old.taken new.taken text
      pub stored : Stores files_old.saved files_new.saved saved
      pub unfailed : new.failures ≡ old.failures
      pub warnings : List Notice
      pub are_warnings : AreWarnings warnings
      pub reported : Sends sent_old sent_new (warnings ++ notices)
      pub trouble : status ≡ 2 → files_old.failures < files_new.failures

    -- how an attempt ends, by what it returns
    abbrev pub Ends : Result ℕ CommandError → Type 0
    Ends (Ok status) = IsDone status
    Ends (Err e) = HasFailed e

module _ (words : List (List ℕ)) (files_old files_new : Disk) (old new : Sent) where
  -- nothing was written, since the words cannot be met; or they can, and what they ask for failed
  abbrev pub Fails : CommandError → Type 0
  Fails e =
      (IsUnwritten files_old files_new old new × ((cause : OptionError) × (e ≡ Options cause) × IsRefusal cause (requests Any words)))
      ⊎ (CanBeMet (requests Any words) × HasFailed (options_of (requests Any words)) files_old files_new old new e)

  module _ (sent_old sent_new : Option (List Notice)) where
    -- the words can be met, and all that they ask for was written and reported, with the status that it has
    abbrev pub Succeeds : ℕ → Type 0
    Succeeds status =
        CanBeMet (requests Any words) × IsDone (options_of (requests Any words)) files_old files_new old new sent_old sent_new status

    -- how an attempt ends by its words, by what it returns
    abbrev pub AttemptEndsBy : Result ℕ CommandError → Type 0
    AttemptEndsBy (Ok status) = Succeeds status
    AttemptEndsBy (Err e) = Fails e

    -- What a status says: the words can be met, and all that they ask for was written; or the status is 2, and the last message
    -- is of a failure that is so.
    abbrev pub EndsBy : ℕ → Type 0
    EndsBy status = Succeeds status ⊎ ((status ≡ 2) × ((e : CommandError) × EndWith sent_new (Failed e) × Fails e))
