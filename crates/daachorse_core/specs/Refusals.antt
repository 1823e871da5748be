-- Why a call fails.
use Rattle.std.specs.Prelude.{◌≡◌}
use Rattle.daachorse_core.specs.declared.errors.Limit.{Limit}
use Rattle.daachorse_core.specs.declared.errors.DaachorseError.{DaachorseError}
use Rattle.daachorse_core.specs.declared.errors.DaachorseError.TheVariants.{InvalidArgument, AutomatonScale, InvalidConversion, InvalidAutomaton, OutOfMemory}

-- an allocation failed
abbrev pub IsOutOfMemory : DaachorseError → Type 0
IsOutOfMemory e = e ≡ OutOfMemory (record {})

-- a pattern is too long, the limit would be passed, or an allocation failed
abbrev pub IsRefusal : Type 0 → Limit → Type 0 → DaachorseError → Type 0
IsRefusal long limit passed (InvalidArgument _) = long
IsRefusal long limit passed (AutomatonScale e) = (e.limit ≡ limit) × passed
IsRefusal long limit passed (InvalidConversion _) = ⊥
IsRefusal long limit passed (InvalidAutomaton _) = ⊥
IsRefusal long limit passed (OutOfMemory _) = Unit
