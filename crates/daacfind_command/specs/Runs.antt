-- How a run ends.
use Rattle.std.specs.Prelude.{⊤, ℕ, ◌≡◌, ◌+◌, ◌<◌, ◌^◌, List, Option, Result, OnOk, OnErr}
use Rattle.std.specs.Io.KnownBytes.{Appends}
use Rattle.std.specs.Result.{OkIff}
use Rattle.std.specs.declared.num.TryFromIntError.{TryFromIntError}
use Rattle.daachorse.specs.DaachorseError.{DaachorseError}
use Rattle.daachorse.specs.Replaced.{AppendsBeginning}
use Rattle.daacfind_command.specs.declared.run.RunError.{RunError}
use Rattle.daacfind_command.specs.declared.run.RunError.TheVariants.{Build, Write}

-- where the build refused, P holds of its refusal
abbrev pub IfBuild : RunError → (DaachorseError → Type 0) → Type 0
IfBuild (Build e) P = P e
IfBuild Write P = ⊤

-- where writing failed, P holds
abbrev pub OnWrite : RunError → Type 0 → Type 0
OnWrite (Build e) P = ⊤
OnWrite Write P = P

-- the value of a pattern's number: the number itself, where it fits
abbrev pub value_gives : ℕ → Result ℕ TryFromIntError → Type 0
value_gives i r = OkIff r (i < 2 ^ 32) i

-- A sink took all of a text, and did not fail; or it failed once, and took a beginning.
pub record IsWritten {T E : Type 0} (old new : Option (List ℕ)) (failures_old failures_new : ℕ) (result : Result T E)
    (text : List ℕ) : Type 0 where
  pub whole : OnOk result (Appends old new text)
  pub unfailed : OnOk result (failures_new ≡ failures_old)
  pub beginning : OnErr result (AppendsBeginning old new text)
  pub failed : OnErr result (failures_new ≡ failures_old + 1)
