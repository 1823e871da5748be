-- A search over a reader: what callers see of the source that reads it, and what each call gives.
use Rattle.std.specs.Prelude.{◌≡◌, ◌≢◌, ℕ, ◌+◌, ◌*◌, ◌-◌, ◌^◌, ◌<◌, ◌⊎◌, List, [], ◌∷◌, ◌++◌, length, Option, Some, None, IfSome, IsSome, IsSomeAnd, Result, Ok, Err, ⊤}
use Rattle.std.specs.Char.{IsScalar, encode_utf8}
use Rattle.std.specs.Io.KnownBytes.{Consumes, IsAtEnd, Keeps, prepend_known}
use Rattle.std.specs.IoError.{error_kind}
use Rattle.std.specs.Io.Buffered.{reader_buffer, reader_inner, reader_remaining}
use Rattle.std.specs.declared.io.BufReader.{BufReader}
use Rattle.std.specs.Iterator.{Count, Yields, at_most, count_map}
use Rattle.std.specs.Option.{option_map}
use Rattle.std.specs.declared.io.Error.{Error}
use Rattle.std.specs.declared.io.ErrorKind.TheVariants.{FileTooLarge, Interrupted, InvalidData}
use Rattle.daachorse_model.specs.declared.Match.{Match}
use Rattle.daachorse_model.specs.Units.{byte_width, char_width, size}
use Rattle.daachorse_search.specs.Searches.{GivesFrom, SourceProgress}
use Rattle.daachorse_search.specs.Spellings.{BeginNone, SpellNone}

-- what callers see of a source that reads a reader R: the reader, the bytes that were taken from it in a block and are still to be given,
-- how many more bytes have places that fit, the error at which the source ended, if it did, and how the reader ended, with an error or
-- with none, if it did
pub record Reading (R : Type 0) : Type 0 where
  pub reader : R
  pub ahead : List ℕ
  pub left : ℕ
  pub failure : Option Error
  pub end : Option (Option Error)

-- nothing was read yet
abbrev pub to_read : {R : Type 0} → R → Reading R
to_read r = record { reader = r; ahead = []; left = 2 ^ 64 - 1; failure = None; end = None }

-- A reader with these bytes left, where they are known, gave the next of them, or was at its end.
abbrev pub TakesNext : Option (List ℕ) → Option ℕ → Option (List ℕ) → Type 0
TakesNext old (Some b) new = Consumes old new (b ∷ [])
TakesNext old None new = Keeps old new × IsAtEnd old

-- these bytes, and then those that a reader has left
abbrev pub behind : List ℕ → Option (List ℕ) → Option (List ℕ)
behind [] known = known
behind (b ∷ bytes) known = prepend_known (b ∷ bytes) known

-- the source ended as its reader did, or no place is left for a byte
abbrev pub HasEnded : {R : Type 0} → Reading R → Type 0
HasEnded t = (t.end ≡ Some t.failure) ⊎ ((t.left ≡ 0) × IsSomeAnd t.failure (λ e. error_kind e ≡ FileTooLarge))

-- the error of bytes that are no UTF-8
abbrev pub IsWrongText : Option Error → Type 0
IsWrongText failure = IsSomeAnd failure (λ e. error_kind e ≡ InvalidData)

-- where `known` is what a reader has left, if that is known
module _ {R : Type 0} (known : R → Option (List ℕ)) where
  -- what the source has still to give, if that is known
  abbrev pub to_give : Reading R → Option (List ℕ)
  to_give s = behind s.ahead (known s.reader)

  -- A call took the reader's next byte. Or it took none: the reader ended, with an error or at its end, or no place is left.
  abbrev pub GivesByte : Reading R → Option ℕ → Reading R → Type 0
  GivesByte s (Some b) t = Consumes (to_give s) (to_give t) (b ∷ []) × (t.left + 1 ≡ s.left)
  GivesByte s None t = Keeps (to_give s) (to_give t) × (t.left ≡ s.left) × HasEnded t × (t.failure ≡ None → IsAtEnd (to_give s))

  -- After the bytes `before` some were taken, and then the source failed: together they are no character. Either no more came, or no
  -- character begins with them.
  pub record Fails (before : List ℕ) (s t : Reading R) : Type 0 where
    pub bytes : List ℕ
    pub took : Consumes (to_give s) (to_give t) bytes
    pub fewer : t.left + length bytes ≡ s.left
    pub failed : IsSome t.failure
    pub none : SpellNone (before ++ bytes)
    pub cause : HasEnded t ⊎ (IsWrongText t.failure × ((t.end ≡ Some None) ⊎ BeginNone (before ++ bytes)))

  -- A call took the bytes of the reader's next character and no others. Or the source ended, or failed at bytes that are no UTF-8.
  abbrev pub GivesCharacter : Reading R → Option ℕ → Reading R → Type 0
  GivesCharacter s (Some c) t = IsScalar c × Yields GivesByte s (encode_utf8 c) t
  GivesCharacter s None t = GivesByte s None t ⊎ Fails [] s t

-- where these bytes were taken, the places of all that are left fit
abbrev pub MayReadBytes : {R : Type 0} → Reading R → List ℕ → Type 0
MayReadBytes s read = size byte_width read + s.left < 2 ^ 64

-- where these characters were taken, the places of all bytes that are left fit
abbrev pub MayReadCharacters : {R : Type 0} → Reading R → List ℕ → Type 0
MayReadCharacters s read = size char_width read + s.left < 2 ^ 64

-- the reader by blocks, with nothing read ahead
pub record IsInBlocks {R A : Type 0} (known : R → Option (List ℕ)) (reader : R) (blocks : BufReader R A) : Type 0 where
  pub inner : reader_inner blocks ≡ reader
  pub ahead : reader_buffer blocks ≡ []
  pub left : reader_remaining known blocks ≡ known reader

-- an error other than an interruption, after which a read is tried again
abbrev pub IsLasting : Error → Type 0
IsLasting e = error_kind e ≢ Interrupted

module _ {V A S U : Type 0} (found : A → List ℕ → List (Match V)) (steps : S → Option U → S → Type 0) (left : S → Count) (unit : U → ℕ)
    (width : ℕ → ℕ) (failure : S → Option Error)
    (bounds : A → List ℕ → ℕ → Type 0) where
  -- A call gives the next match. After the last match it gives the error at which the source ended, if it did, and then nothing for ever.
  -- The turns are bounded there, too.
  abbrev pub GivesRead : Option (SourceProgress V A S) → Option (Result (Match V) Error) → Option (SourceProgress V A S) → Type 0
  GivesRead (Some s) (Some (Ok m)) (Some t) = GivesFrom found steps left unit width s (Some m) t
  GivesRead (Some s) r None =
      (t : SourceProgress V A S) × GivesFrom found steps left unit width s None t × bounds t.automaton t.read t.turns ×
      (r ≡ option_map Err (failure t.source)) × IfSome (failure t.source) IsLasting
  GivesRead None None None = ⊤
  GivesRead s r t = ⊥

-- the most items that a call may still give: the matches, and an error
abbrev pub items_to_read : {V A S : Type 0} → (S → Count) → Option (SourceProgress V A S) → Count
items_to_read left None = at_most 0
items_to_read left (Some s) = count_map (λ n. length s.pending + s.most * n + 1) (left s.source)
