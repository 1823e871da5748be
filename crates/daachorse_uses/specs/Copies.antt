-- What is copied from a reader, with a text in place of each match.
use Rattle.std.specs.Prelude.{◌≡◌, ℕ, List, ◌++◌, codes, Option, IfSome, MatchResult, Result, ⊤}
use Rattle.std.specs.Borrow.{Bor, MutBor}
use Rattle.std.specs.Fmt.{decimal}
use Rattle.std.specs.Io.KnownBytes.{Appends}
use Rattle.std.specs.declared.io.Error.{Error}
use Rattle.daachorse_model.specs.declared.Match.{Match}
use Rattle.daachorse_model.specs.Dictionary.{Dictionary}
use Rattle.daachorse_model.specs.Folding.{as_read}
use Rattle.daachorse_model.specs.Units.{byte_width}
use Rattle.daachorse.specs.bytewise.Automata.{Automaton, dictionary_of, kind_of}
use Rattle.daachorse_streams.specs.ByKind.{non_overlapping}
use Rattle.daachorse_streams.specs.Replaced.{with_replacements}
use Rattle.daachorse_streams.specs.Streams.{HasNoLonger, ReplacesRead}

-- the matches in bytes that the automaton finds and that do not overlap
abbrev pub matches_of : Automaton ℕ → List ℕ → List (Match ℕ)
matches_of words bytes = non_overlapping (kind_of words) byte_width (dictionary_of words) (as_read words.folds bytes)

-- bytes that are all that a reader had left, where that is known, went to an output with this text in place of each match in them
pub record IsCopiedWith {V : Type 0} (left : Option (List ℕ)) (matches : List ℕ → List (Match V)) (text : Match V → List ℕ)
    (old new : Option (List ℕ)) : Type 0 where
  pub bytes : List ℕ
  pub all : IfSome left (λ rest. rest ≡ bytes)
  pub copied : Appends old new (with_replacements text bytes (matches bytes))

-- a number in brackets
abbrev pub in_brackets : ℕ → List ℕ
in_brackets n = codes "[" ++ (decimal n ++ codes "]")

-- for a match a call appends this text; `part` says what one does that returns an error
abbrev pub WritesText : {V O : Type 0} → (Option (List ℕ) → Option (List ℕ) → List ℕ → Type 0) → (O → Option (List ℕ)) → (Match V → List ℕ)
    → Unit {0} → Match V → Bor (List ℕ) → MutBor O → Result (Unit {0}) Error → MutBor O → Unit {0} → Type 0
WritesText part taken text f m matched old r new g =
    MatchResult r (λ x. Appends (taken old.now) (taken new.now) (text m)) (λ e. part (taken old.now) (taken new.now) (text m))

-- What a reader has left is copied with a text in place of each match, for which a call writes it. At an error what went out is right,
-- however the reader goes on, and no more is held back than the longest key and a block have.
abbrev pub CopiesRead : {V O : Type 0} → Dictionary V → Option (List ℕ) → (List ℕ → List (Match V))
    → (Option (List ℕ) → Option (List ℕ) → List ℕ → Type 0) → (O → Option (List ℕ)) → (Match V → List ℕ) → Result (Unit {0}) Error → O → O
    → Type 0
CopiesRead K known matches part taken text r old new =
    ReplacesRead (λ s. s.now) taken (WritesText part taken text) (λ byte. ⊤) (λ bytes. bytes) known matches
    (HasNoLonger byte_width K) r tt old new
