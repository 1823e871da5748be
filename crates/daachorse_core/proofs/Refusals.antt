-- Why a call fails, from why the call in it does.
use Rattle.std.proofs.Common.{◌≡◌, subst, sym, IfErr}
use Rattle.std.specs.Prelude.{Result}
use Rattle.std.specs.Result.{IsErrAnd}
use Rattle.std.specs.declared.result.Result.TheVariants.{Ok, Err}
use Rattle.daachorse_core.specs.declared.errors.Limit.{Limit}
use Rattle.daachorse_core.specs.declared.errors.DaachorseError.{DaachorseError}
use Rattle.daachorse_core.specs.declared.errors.DaachorseError.TheVariants.{InvalidArgument, AutomatonScale, InvalidConversion, InvalidAutomaton, OutOfMemory}
use Rattle.daachorse_core.specs.Refusals.{IsRefusal}

-- a refusal for one reason is a refusal for a weaker one
pub IsRefusal-weaker : (long long' : Type 0) (limit : Limit) (passed passed' : Type 0) → (long → long') → (passed → passed') → (e : DaachorseError) → IsRefusal long limit passed e → IsRefusal long' limit passed' e
IsRefusal-weaker long long' limit passed passed' f g (InvalidArgument _) h = f h
IsRefusal-weaker long long' limit passed passed' f g (AutomatonScale e) h = (h.0, g h.1)
IsRefusal-weaker long long' limit passed passed' f g (InvalidConversion _) h = h
IsRefusal-weaker long long' limit passed passed' f g (InvalidAutomaton _) h = h
IsRefusal-weaker long long' limit passed passed' f g (OutOfMemory _) h = h

-- what holds of the one error that a `?` returns holds of each error that is returned there
pub at_error : {T E : Type 0} (r : Result T E) (error : E) (P : E → Type 0) → IsErrAnd r (λ e. e ≡ error) → P error → IfErr r P
at_error (Ok x) error P is holds = tt
at_error (Err e) error P is holds = subst P (sym is) holds

-- and so does what holds of the error by its conversion
pub at_any_error : {T E : Type 0} (r : Result T E) (P : E → Type 0) → IsErrAnd r P → IfErr r P
at_any_error (Ok x) P holds = tt
at_any_error (Err e) P holds = holds
