-- The error of a call that is handed on.
use Rattle.std.proofs.Common.{◌≡◌, Result, Err, sym, subst}
use Rattle.std.specs.Borrow.{MutBor}
use Rattle.daachorse_model.specs.declared.Match.{Match}

-- the error that a call answered is the one returned
pub answered : {V P O E F : Type 0} (step : F → Match V → P → MutBor O → Result (Unit {0}) E → MutBor O → F → Type 0) {f g : F}
    {m : Match V} {part : P} {shown left : MutBor O} {e x : E}
    → x ≡ e → step f m part shown (Err e) left g → step f m part shown (Err x) left g
answered step {f} {g} {m} {part} {shown} {left} same call = subst (λ y. step f m part shown (Err y) left g) (sym same) call
