-- A source of which nothing was read may be read, as it is or folded, where it may be read from there.
use Rattle.std.proofs.Common.{◌≡◌, ℕ, Bool, true, false, List, [], sym, subst}
use Rattle.daachorse_haystack.specs.Readings.{MayReadAsRead}

pub from_first : {S : Type 0} (may_read : S → List ℕ → Type 0) (folds : Bool) (source : S) (read : List ℕ) → read ≡ [] → may_read source [] → MayReadAsRead may_read folds source read
from_first may_read true source read none may = ([], may, sym none)
from_first may_read false source read none may =
    let P : List ℕ → Type 0 = λ r. may_read source r in
    subst P (sym none) may
