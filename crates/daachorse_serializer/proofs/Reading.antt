-- Bytes that begin with a form: a read gives what was written and what follows it, or it is refused for want of memory.
use Rattle.std.proofs.Common.{◌≡◌, ℕ, List, ◌++◌, Some, None, sym, ap, ◌∙◌, refl}
use Rattle.daachorse_core.specs.Refusals.{IsOutOfMemory}
use Rattle.daachorse_core.specs.declared.errors.DaachorseError.{DaachorseError}
use Rattle.daachorse_core.specs.declared.errors.DaachorseError.TheVariants.{InvalidArgument, AutomatonScale, InvalidConversion, InvalidAutomaton, OutOfMemory}
use Rattle.daachorse_serializer.specs.Forms.{Taken, IsForm, IsReadRefusal, Refuses}

-- bytes that give a value are refused for want of memory alone
pub refuses-given : {X : Type 0} (e : DaachorseError) (t : Taken X) (p : X × List ℕ) → t ≡ Some p → Refuses e t → IsOutOfMemory e
refuses-given (InvalidArgument x) t p some none = cc
refuses-given (AutomatonScale x) t p some none = cc
refuses-given (InvalidConversion x) t p some none = cc
refuses-given (InvalidAutomaton x) t p some none = cc
refuses-given (OutOfMemory x) t p some r = refl

-- where each error of the one's own is one of the other's
pub IsReadRefusal-weaker : (own more : DaachorseError → Type 0) → ((x : DaachorseError) → own x → more x) → (e : DaachorseError) → IsReadRefusal own e → IsReadRefusal more e
IsReadRefusal-weaker own more f (InvalidArgument x) r = f (InvalidArgument x) r
IsReadRefusal-weaker own more f (AutomatonScale x) r = f (AutomatonScale x) r
IsReadRefusal-weaker own more f (InvalidConversion x) r = f (InvalidConversion x) r
IsReadRefusal-weaker own more f (InvalidAutomaton x) r = tt
IsReadRefusal-weaker own more f (OutOfMemory x) r = tt

-- an error of its own comes where nothing is taken
pub refuses-value : {X : Type 0} (t : Taken X) (own : DaachorseError → Type 0) (e : DaachorseError) → Refuses e t → IsReadRefusal own e → IsReadRefusal (λ x. (t ≡ None) × own x) e
refuses-value t own (InvalidArgument x) none r = (none, r)
refuses-value t own (AutomatonScale x) none r = (none, r)
refuses-value t own (InvalidConversion x) none r = (none, r)
refuses-value t own (InvalidAutomaton x) none r = tt
refuses-value t own (OutOfMemory x) none r = tt

-- what there is, if something was taken
taken_or : {X : Type 0} → X × List ℕ → Taken X → X × List ℕ
taken_or other None = other
taken_or other (Some p) = p

module _ {X : Type 0} {P : X → Type 0} {form : X → List ℕ} {taken : List ℕ → Taken X} {most : X → ℕ} (law : IsForm P form taken most) where
  -- what bytes give that begin with a form
  pub takes-written : (bytes : List ℕ) (v : X) (rest : List ℕ) → P v → bytes ≡ form v ++ rest → taken bytes ≡ Some (v, rest)
  takes-written bytes v rest h is = ap taken is ∙ law.reads_back v rest h

  -- a value that was taken of them is the one that was written
  pub takes-same : (bytes : List ℕ) (v : X) (rest : List ℕ) (p : X × List ℕ) → P v → bytes ≡ form v ++ rest → taken bytes ≡ Some p
      → (p.0 ≡ v) × (p.1 ≡ rest)
  unfolding taken_or
  takes-same bytes v rest p h is gives =
      let same : p ≡ (v, rest) = ap (taken_or p) (sym gives ∙ takes-written bytes v rest h is) in
      (ap (λ (q : X × List ℕ). q.0) same, ap (λ (q : X × List ℕ). q.1) same)

  -- they are refused for want of memory alone
  pub refuses-written : (bytes : List ℕ) (v : X) (rest : List ℕ) (e : DaachorseError) → P v → bytes ≡ form v ++ rest → Refuses e (taken bytes) → IsOutOfMemory e
  refuses-written bytes v rest e h is r = refuses-given e (taken bytes) (v, rest) (takes-written bytes v rest h is) r
