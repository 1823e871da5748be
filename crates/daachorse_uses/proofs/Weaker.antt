-- Where each call of one kind is one of another, what is replaced by calls of the first is replaced by calls of the second.
use Rattle.std.proofs.Common.{ℕ, inl, inr, List, [], ◌∷◌, ◌++◌, Option, Result, Ok, Err}
use Rattle.std.specs.Borrow.{MutBor}
use Rattle.daachorse_model.specs.declared.Match.{Match}
use Rattle.daachorse_streams.specs.ReplacedWith.{IsReplacedFrom, IsReplacedSoFarFrom, IsStoppedFrom, MayWrite}
use Rattle.daachorse_streams.specs.Streams.{IsHeldBack, ReplacesRead}

module _ {V P O E F G : Type 0} (bytes : P → List ℕ) (taken : O → Option (List ℕ))
    (step : F → Match V → P → MutBor O → Result (Unit {0}) E → MutBor O → F → Type 0)
    (other : G → Match V → P → MutBor O → Result (Unit {0}) E → MutBor O → G → Type 0) (of : F → G)
    (each : (f : F) (m : Match V) (part : P) (shown : MutBor O) (r : Result (Unit {0}) E) (left : MutBor O) (g : F)
    → step f m part shown r left g → other (of f) m part shown r left (of g)) where
  call : (haystack : List ℕ) (f : F) (m : Match V) (old : O) (r : Result (Unit {0}) E) (new : O) (g : F)
      → MayWrite bytes taken haystack step f m old r new g
      → MayWrite bytes taken haystack other (of f) m old r new (of g)
  call haystack f m old r new g (part, shown, left, matched, at, after, made) =
      (part, shown, left, matched, at, after, each f m part shown r left g made)

  replaced : (haystack : List ℕ) (s : ℕ) (ms : List (Match V)) (f : F) (old new : O)
      → IsReplacedFrom bytes taken haystack step s ms f old new → IsReplacedFrom bytes taken haystack other s ms (of f) old new
  replaced haystack s [] f old new rest = rest
  replaced haystack s (m ∷ ms) f old new (at, next, g, before, made, rest) =
      (at, next, of g, before, call haystack f m at (Ok tt) next g made, replaced haystack m.end ms g next new rest)

  so_far : (haystack : List ℕ) (s : ℕ) (ms : List (Match V)) (f : F) (old new : O)
      → IsReplacedSoFarFrom bytes taken haystack step s ms f old new → IsReplacedSoFarFrom bytes taken haystack other s ms (of f) old new
  so_far haystack s [] f old new rest = rest
  so_far haystack s (m ∷ ms) f old new (inl before) = inl before
  so_far haystack s (m ∷ ms) f old new (inr (at, before, inl (e, g, made))) =
      inr (at, before, inl (e, of g, call haystack f m at (Err e) new g made))
  so_far haystack s (m ∷ ms) f old new (inr (at, before, inr (next, g, made, rest))) =
      inr (at, before, inr (next, of g, call haystack f m at (Ok tt) next g made, so_far haystack m.end ms g next new rest))

  stopped : (haystack : List ℕ) (e : E) (s : ℕ) (ms : List (Match V)) (f : F) (old new : O)
      → IsStoppedFrom bytes taken haystack step e s ms f old new → IsStoppedFrom bytes taken haystack other e s ms (of f) old new
  stopped haystack e s [] f old new rest = rest
  stopped haystack e s (m ∷ ms) f old new (inl before) = inl before
  stopped haystack e s (m ∷ ms) f old new (inr (at, before, inl (g, made))) =
      inr (at, before, inl (of g, call haystack f m at (Err e) new g made))
  stopped haystack e s (m ∷ ms) f old new (inr (at, before, inr (next, g, made, rest))) =
      inr (at, before, inr (next, of g, call haystack f m at (Ok tt) next g made, stopped haystack e m.end ms g next new rest))

  held : {X : Type 0} {matches : X → List (Match V)} {text bytes_held : List ℕ} (f : F) (old new : O)
      → IsHeldBack bytes taken step matches text bytes_held f old new
      → IsHeldBack bytes taken other matches text bytes_held (of f) old new
  held f old new h =
      record {
        done = h.done;
        front = h.front;
        parts = h.parts;
        replaced = replaced h.front 0 h.done f old new h.replaced;
        certain = h.certain;
      }

  pub replaces_read : {T : Type 0} (is_unit : ℕ → Type 0) (spelled : List ℕ → List ℕ) (known : Option (List ℕ))
      (matches : List ℕ → List (Match V)) (no_longer : ℕ → Type 0)
      (r : Result T E) (f : F) (old new : O) → ReplacesRead bytes taken step is_unit spelled known matches no_longer r f old new
      → ReplacesRead bytes taken other is_unit spelled known matches no_longer r (of f) old new
  replaces_read is_unit spelled known matches no_longer (Ok x) f old new h = record {
    units = h.units;
    are = h.are;
    all = h.all;
    replaced = replaced (spelled h.units) 0 (matches h.units) f old new h.replaced;
  }
  replaces_read is_unit spelled known matches no_longer (Err e) f old new h = record {
    units = h.units;
    are = h.are;
    begins = h.begins;
    because = elim h.because [
      | inl (every, bytes_held, few, back) ↦ inl (
        (λ more. so_far (spelled (h.units ++ more)) 0 (matches (h.units ++ more)) f old new
            (every more)),
        bytes_held,
        few,
        held f old new back,
      )
      | inr (inl every) ↦ inr (inl (λ more. stopped (spelled (h.units ++ more)) e 0 (matches (h.units ++ more)) f old new (every more)))
      | inr (inr (ends, stops)) ↦ inr (inr (ends, stopped (spelled h.units) e 0 (matches h.units) f old new stops))
    ];
  }
