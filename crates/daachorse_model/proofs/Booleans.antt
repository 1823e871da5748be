-- Tests: each is true or false, and what `&&` and `||` of them tell computes case by case.
use Rattle.std.proofs.Common.{◌≡◌, ◌⊎◌, inl, inr, Bool, true, false, ◌&&◌, ◌||◌, refl}

pub either : (b : Bool) → (b ≡ true) ⊎ (b ≡ false)
either true = inl refl
either false = inr refl

pub both-true : (a b : Bool) → (a && b) ≡ true → (a ≡ true) × (b ≡ true)
both-true true b e = (refl, e)
both-true false b e = cc

pub and-false : (b : Bool) → (b && false) ≡ false
and-false true = refl
and-false false = refl

pub or-none : (b : Bool) → (b || false) ≡ b
or-none true = refl
or-none false = refl

pub or-turned : (a b c : Bool) → (a || (b || c)) ≡ ((b || a) || c)
or-turned true true c = refl
or-turned true false c = refl
or-turned false true c = refl
or-turned false false c = refl
