-- A position that there may be, by its number: 0 for none.
use Rattle.std.specs.Prelude.{◌≡◌, ℕ, zero, suc, ◌<◌, Option, Some, None, MatchOption, refl, List}
use Rattle.std.specs.declared.num.NonZeroU32.{NonZeroU32}
use Rattle.std.proofs.Common.{ap, sym, ◌∙◌, arith}
use Rattle.std.proofs.Math.Nat.{zero-lt-suc}
use Rattle.std.proofs.Props.{props}
use Rattle.std.specs.Int.{w32}
use Rattle.daachorse_core.specs.Outputs.{number}
use Rattle.daachorse_serializer.specs.Forms.{Taken, over, number_form, take_number}

abbrev pub position_from : ℕ → Option NonZeroU32
position_from zero = None
position_from (suc n) = Some (record { value = suc n; ok = zero-lt-suc n })

-- a number above 0 is that of one position
position_at : (n : ℕ) (h : 0 < n) → position_from n ≡ Some (record { value = n; ok = h })
position_at zero h = absurd (omega arith)
position_at (suc n) h =
    let only : (p q : 0 < suc n) → p ≡ q = hlevel props in
    ap (λ q. Some (record { value = suc n; ok = q })) (only (zero-lt-suc n) h)

pub position_back : (v : Option NonZeroU32) → position_from (number v) ≡ v
position_back None = refl
position_back (Some p) = position_at p.value p.ok

-- what `NonZeroU32::new` answers is the position of the number
pub position_made : (v : Option NonZeroU32) (n : ℕ) → MatchOption v (n ≡ 0) (λ p. p.value ≡ n) → position_from n ≡ v
position_made None n e = ap position_from e
position_made (Some p) n e = ap position_from (sym e) ∙ position_back (Some p)

-- its form is that of its number
abbrev pub position_form : Option NonZeroU32 → List ℕ
position_form v = number_form w32 (number v)

abbrev pub take_position : List ℕ → Taken (Option NonZeroU32)
take_position bytes = over position_from (take_number w32 bytes)
