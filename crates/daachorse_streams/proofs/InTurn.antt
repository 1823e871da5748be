-- What comes of the matches that are left, behind what was written for those before them.
use Rattle.std.proofs.Common.{◌≡◌, inl, inr, ℕ, ◌-◌, List, [], ◌∷◌, length, take, drop, Option, Result, Ok, Err, sym, ap, ◌∙◌, subst}
use Rattle.std.proofs.lemmas.List.{take_rest}
use Rattle.std.specs.Prelude.{slice_range}
use Rattle.std.specs.Borrow.{MutBor}
use Rattle.std.specs.Io.KnownBytes.{Appends}
use Rattle.daachorse_model.specs.declared.Match.{Match}
use Rattle.daachorse_streams.specs.Replaced.{AppendsBeginning}
use Rattle.daachorse_streams.specs.ReplacedWith.{IsReplaced, IsReplacedFrom, IsReplacedSoFar, IsReplacedSoFarFrom, MayWrite}

-- the part up to the end is what is left
pub rest_is : (haystack : List ℕ) (s end : ℕ) → end ≡ length haystack → slice_range haystack s end ≡ drop s haystack
rest_is haystack s end e = ap (λ k. take (k - s) (drop s haystack)) e ∙ take_rest haystack s

-- from f and this output at s on, whatever comes of the matches that are left comes of all matches from the start
pub record LeadsTo {V P O E F : Type 0} (bytes : P → List ℕ) (taken : O → Option (List ℕ)) (haystack : List ℕ)
    (step : F → Match V → P → MutBor O → Result (Unit {0}) E → MutBor O → F → Type 0) (whole : List (Match V)) (first : F) (old : O)
    (s : ℕ) (ms : List (Match V)) (f : F) (out : O) : Type 0 where
  pub all : (new : O) → IsReplacedFrom bytes taken haystack step s ms f out new → IsReplaced bytes taken haystack step whole first old new
  pub some : (new : O) → IsReplacedSoFarFrom bytes taken haystack step s ms f out new
      → IsReplacedSoFar bytes taken haystack step whole first old new

module _ {V P O E F : Type 0} {bytes : P → List ℕ} {taken : O → Option (List ℕ)} {haystack : List ℕ}
    {step : F → Match V → P → MutBor O → Result (Unit {0}) E → MutBor O → F → Type 0} {whole ms : List (Match V)} {first f : F}
    {old out : O} {s : ℕ}
    (h : LeadsTo bytes taken haystack step whole first old s ms f out) where
  abbrev SoFar : O → Type 0
  SoFar new = IsReplacedSoFar bytes taken haystack step whole first old new

  module _ (m : Match V) (rest : List (Match V)) (is : ms ≡ m ∷ rest) where
    next_all : (new : O) → IsReplacedFrom bytes taken haystack step s (m ∷ rest) f out new
        → IsReplaced bytes taken haystack step whole first old new
    next_all new went = h.all new (subst (λ (l : List (Match V)). IsReplacedFrom bytes taken haystack step s l f out new) (sym is) went)

    next_some : (new : O) → IsReplacedSoFarFrom bytes taken haystack step s (m ∷ rest) f out new → SoFar new
    next_some new went =
        h.some new (subst (λ (l : List (Match V)). IsReplacedSoFarFrom bytes taken haystack step s l f out new) (sym is) went)

    pub leads_on : (at next : O) (g : F) → Appends (taken out) (taken at) (slice_range haystack s m.start)
        → MayWrite bytes taken haystack step f m at (Ok tt) next g → LeadsTo bytes taken haystack step whole first old m.end rest g next
    leads_on at next g before call = record {
      all = λ new went. next_all new (at, next, g, before, call, went);
      some = λ new went. next_some new (inr (at, before, inr (next, g, call, went)));
    }

    -- the output took a beginning of the bytes up to the next match
    pub stops_before : (new : O) → AppendsBeginning (taken out) (taken new) (slice_range haystack s m.start) → SoFar new
    stops_before new part = next_some new (inl part)

    -- the call for the next match returned an error
    pub stops_at : (at new : O) (e : E) (g : F) → Appends (taken out) (taken at) (slice_range haystack s m.start)
        → MayWrite bytes taken haystack step f m at (Err e) new g → SoFar new
    stops_at at new e g before call = next_some new (inr (at, before, inl (e, g, call)))

  module _ (none : ms ≡ []) (end : ℕ) (new : O) (e : end ≡ length haystack) where
    -- the output took what is left, or a beginning of it
    pub stops_behind : AppendsBeginning (taken out) (taken new) (slice_range haystack s end) → SoFar new
    stops_behind part =
        h.some new (subst (λ (l : List (Match V)). IsReplacedSoFarFrom bytes taken haystack step s l f out new) (sym none)
        (subst (AppendsBeginning (taken out) (taken new)) (rest_is haystack s end e) part))

    pub ends : Appends (taken out) (taken new) (slice_range haystack s end) → IsReplaced bytes taken haystack step whole first old new
    ends part =
        h.all new (subst (λ (l : List (Match V)). IsReplacedFrom bytes taken haystack step s l f out new) (sym none)
        (subst (Appends (taken out) (taken new)) (rest_is haystack s end e) part))
