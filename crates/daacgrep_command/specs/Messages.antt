-- What is reported beside the text.
use Rattle.std.specs.Prelude.{◌≡◌, ◌⊎◌, ⊤, ℕ, List, [], ◌∷◌, ◌++◌, Option, Some, None}
use Rattle.std.specs.Option.{option_map}
use Rattle.daacgrep_command.specs.declared.error.CommandError.{CommandError}
use Rattle.daacgrep_command.specs.declared.messages.Message.{Message}
use Rattle.daacgrep_command.specs.declared.messages.Message.TheVariants.{Failure, Unread, CarriageReturn}

-- what a message says: that the command failed, that the file of a name cannot be read to its end, or that a line of the patterns ends with
-- a carriage return
pub data Notice : Type 0 where
  Failed : CommandError → Notice
  NotRead : List ℕ → Notice
  HasReturn : Notice

abbrev pub notice_of : Message → Notice
notice_of (Failure e) = Failed e
notice_of (Unread name) = NotRead name.now
notice_of CarriageReturn = HasReturn

-- these were sent after those before, where it is known which were
abbrev pub Sends : Option (List Notice) → Option (List Notice) → List Notice → Type 0
Sends old new notices = new ≡ option_map (λ before. before ++ notices) old

-- the messages end with this one, as far as they are known
abbrev pub EndWith : Option (List Notice) → Notice → Type 0
EndWith None notice = ⊤
EndWith (Some notices) notice = (before : List Notice) × (notices ≡ before ++ notice ∷ [])

-- a carriage return is reported, or nothing
abbrev pub AreWarnings : List Notice → Type 0
AreWarnings notices = (notices ≡ []) ⊎ (notices ≡ HasReturn ∷ [])

-- only such a warning was sent
abbrev pub Warns : Option (List Notice) → Option (List Notice) → Type 0
Warns old new = (notices : List Notice) × AreWarnings notices × Sends old new notices
