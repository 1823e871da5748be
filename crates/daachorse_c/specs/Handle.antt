-- What a handle owns.
use mir.Syntax.{Ty}
use base.Fml.{Fml, ftrue, fex}
use denote.RattleType.{RattleType}
use denote.RawPtr.{Ptr, null_ptr}
use Rattle.std.specs.Prelude.{◌≡◌, Option, None, Some}
use Rattle.std.specs.Box.Ownership.{box_owns}

-- nothing, and p is null, or the box of the value at p
abbrev pub held_owns : (Ty → Ptr → Fml) → (R : RattleType) → Ptr → Option R.Denot → Fml
held_owns holds R p None = fex (p ≡ null_ptr) (λ _. ftrue)
held_owns holds R p (Some v) = box_owns holds R p v
