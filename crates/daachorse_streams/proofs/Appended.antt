-- Where each call only appends, what went to the output is the haystack with a piece in place of each match.
use Rattle.std.proofs.Common.{ℕ, List, [], ◌∷◌, ◌++◌, Option, Result, Ok}
use Rattle.std.specs.Prelude.{slice_range}
use Rattle.std.specs.Borrow.{MutBor}
use Rattle.std.specs.Io.KnownBytes.{Appends}
use Rattle.std.proofs.KnownBytes.{Appends-trans}
use Rattle.daachorse_model.specs.declared.Match.{Match}
use Rattle.daachorse_streams.specs.Replaced.{with_pieces_from, with_replacements, with_replacements_from}
use Rattle.daachorse_streams.specs.ReplacedWith.{IsReplaced, IsReplacedFrom, MayAppendEach, MayWrite, OfAppended, OnlyAppends}

module _ {V P O E F : Type 0} (bytes : P → List ℕ) (taken : O → Option (List ℕ)) (haystack : List ℕ)
    (step : F → Match V → P → MutBor O → Result (Unit {0}) E → MutBor O → F → Type 0) where
  appended_from : OnlyAppends bytes taken haystack step → (s : ℕ) (ms : List (Match V)) (f : F) (old new : O)
      → IsReplacedFrom bytes taken haystack step s ms f old new
      → (pieces : List (List ℕ)) × MayAppendEach bytes taken haystack step f ms pieces
      × Appends (taken old) (taken new) (with_pieces_from haystack s ms pieces)
  appended_from only s [] f old new rest = ([], tt, rest)
  appended_from only s (m ∷ ms) f old new (at, next, g, before, call, rest) =
      let one = only f m at next g call in
      let later = appended_from only m.end ms g next new rest in
      let said = Appends-trans (taken at) (taken next) (taken new) one.0 (with_pieces_from haystack m.end ms later.0) one.1 later.2 in (
        one.0 ∷ later.0,
        (g, (at, next, call, one.1), later.1),
        Appends-trans (taken old) (taken at) (taken new) (slice_range haystack s m.start)
            (one.0 ++ with_pieces_from haystack m.end ms later.0) before said,
      )

  pub OfAppended-replaced : (ms : List (Match V)) (f : F) (old new : O) → OnlyAppends bytes taken haystack step
      → IsReplaced bytes taken haystack step ms f old new
      → OfAppended bytes taken haystack step ms f (Appends (taken old) (taken new))
  OfAppended-replaced ms f old new only h = appended_from only 0 ms f old new h

  -- each call appends what `with` says of the match
  abbrev pub AppendsFor : (Match V → List ℕ) → Type 0
  AppendsFor with =
      (f : F) (m : Match V) (old new : O) (g : F) → MayWrite bytes taken haystack step f m old (Ok tt) new g
      → Appends (taken old) (taken new) (with m)

  exact_from : (with : Match V → List ℕ) → AppendsFor with → (s : ℕ) (ms : List (Match V)) (f : F) (old new : O)
      → IsReplacedFrom bytes taken haystack step s ms f old new
      → Appends (taken old) (taken new) (with_replacements_from with haystack s ms)
  exact_from with exact s [] f old new rest = rest
  exact_from with exact s (m ∷ ms) f old new (at, next, g, before, call, rest) =
      let later = exact_from with exact m.end ms g next new rest in
      let said = Appends-trans (taken at) (taken next) (taken new) (with m) (with_replacements_from with haystack m.end ms)
      (exact f m at next g call) later in
      Appends-trans (taken old) (taken at) (taken new) (slice_range haystack s m.start)
      (with m ++ with_replacements_from with haystack m.end ms) before said

  -- so what went to the output is the haystack with each match replaced by what `with` says of it
  pub IsReplaced-exact : (with : Match V → List ℕ) → AppendsFor with → (ms : List (Match V)) (f : F) (old new : O)
      → IsReplaced bytes taken haystack step ms f old new
      → Appends (taken old) (taken new) (with_replacements with haystack ms)
  IsReplaced-exact with exact ms f old new h = exact_from with exact 0 ms f old new h
