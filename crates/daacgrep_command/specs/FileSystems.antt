-- What is known of files, and of one that is read piece by piece.
use Rattle.std.specs.Prelude.{◌≡◌, ◌≤◌, ◌+◌, ⊤, ℕ, Bool, true, false, nat_lt, List, ◌++◌, Option, Some, None}
use Rattle.std.specs.Option.{option_map}
use Rattle.daacfind_command.specs.Commands.{Tells}

-- a file that was written: its name and its bytes
pub record SavedFile : Type 0 where
  pub name : List ℕ
  pub bytes : List ℕ

-- these files were written after those before, where it is known which were
abbrev pub Stores : Option (List SavedFile) → Option (List SavedFile) → List SavedFile → Type 0
Stores old new files = new ≡ option_map (λ before. before ++ files) old

-- the files' bytes by name, if known, and none for a file that cannot be read; the files that were written, in order, if known; and how
-- often a file could not be read
pub record Disk : Type 0 where
  pub given : Option (List ℕ → Option (List ℕ))
  pub saved : Option (List SavedFile)
  pub failures : ℕ

-- a read changes nothing, but a failure is counted
abbrev pub after_reading : Bool → Disk → Disk
after_reading true d = d
after_reading false d = record { given = d.given; saved = d.saved; failures = d.failures + 1 }

-- files were read, and none was written
pub record OnlyReads (old new : Disk) : Type 0 where
  pub given : new.given ≡ old.given
  pub saved : new.saved ≡ old.saved
  pub counted : old.failures ≤ new.failures

-- a file of this name was opened, and this is left of it
abbrev pub IsOpened : Option (List ℕ → Option (List ℕ)) → List ℕ → Option (List ℕ) → Type 0
IsOpened None name left = ⊤
IsOpened (Some given) name left = (bytes : List ℕ) × (given name ≡ Some bytes) × (left ≡ Some bytes)

-- the file has these bytes, or where it is cut off begins with them, as far as it is known
abbrev pub Has : Bool → Option (List ℕ) → List ℕ → Type 0
Has cut None bytes = ⊤
Has true (Some all) bytes = (rest : List ℕ) × (all ≡ bytes ++ rest)
Has false (Some all) bytes = all ≡ bytes

-- the file of this name has these bytes, or where it is cut off begins with them, or it cannot be read
abbrev pub TellsOf : Option (List ℕ → Option (List ℕ)) → List ℕ → Option (List ℕ) → Bool → Type 0
TellsOf given name bytes false = Tells given name bytes
TellsOf given name bytes true = (rest : List ℕ) × Tells given name (option_map (λ b. b ++ rest) bytes)

-- there was trouble just where a failure was counted
abbrev pub IsTrouble : Bool → ℕ → ℕ → Type 0
IsTrouble trouble before after = (before ≤ after) × (trouble ≡ nat_lt before after)
