-- The secrets that a text lists, and why no automaton of them is built.
use Rattle.std.specs.Prelude.{◌≡◌, ◌⊎◌, ℕ, ◌<◌, ◌^◌, ◌==◌, List, Result, false, length, not}
use Rattle.std.specs.IoError.{error_kind}
use Rattle.std.specs.List.{filter}
use Rattle.std.specs.Result.{OkIff}
use Rattle.std.specs.Str.Lines.{lines}
use Rattle.std.specs.declared.io.Error.{Error}
use Rattle.std.specs.declared.num.TryFromIntError.{TryFromIntError}
use Rattle.daachorse_core.specs.Texts.{io_kind}
use Rattle.daachorse_core.specs.Refusals.{IsOutOfMemory}
use Rattle.daachorse_core.specs.declared.errors.DaachorseError.{DaachorseError}
use Rattle.daachorse_model.specs.declared.Match.{Match}
use Rattle.daachorse_model.specs.declared.MatchKind.TheVariants.{LeftmostLongest}
use Rattle.daachorse_model.specs.Dictionary.{Dictionary, dictionary}
use Rattle.daachorse_model.specs.Leftmost.{leftmost}
use Rattle.daachorse_model.specs.Program.{with_numbers}
use Rattle.daachorse_model.specs.Units.{byte_width}
use Rattle.daachorse.specs.bytewise.Automata.{Automaton}
use Rattle.daachorse.specs.bytewise.Building.{IsBuildRefusal, IsBuiltOf}

-- its lines that are not empty
abbrev pub secrets_in : List ℕ → List (List ℕ)
secrets_in text = filter (λ line. not (length line == 0)) (lines text)

-- each with its number
abbrev pub dictionary_in : List ℕ → Dictionary ℕ
dictionary_in text = dictionary LeftmostLongest (with_numbers 0 (secrets_in text))

-- where they are in a log: of those that begin together, the longest
abbrev pub secrets_found : List ℕ → List ℕ → List (Match ℕ)
secrets_found text log = leftmost byte_width (dictionary_in text) log

-- the value of a number: the number itself, if it fits
abbrev pub value_gives : ℕ → Result ℕ TryFromIntError → Type 0
value_gives i r = OkIff r (i < 2 ^ 32) i

-- an automaton of them
abbrev pub IsOfSecrets : List ℕ → Automaton ℕ → Type 0
IsOfSecrets text = IsBuiltOf value_gives LeftmostLongest false (secrets_in text)

-- an allocation failed, or the build refuses them
abbrev pub IsSecretsRefusal : List ℕ → DaachorseError → Type 0
IsSecretsRefusal text refusal = IsOutOfMemory refusal ⊎ IsBuildRefusal value_gives LeftmostLongest (secrets_in text) refusal

-- the error of such a refusal
abbrev pub AreRefused : List ℕ → Error → Type 0
AreRefused text e = (refusal : DaachorseError) × (error_kind e ≡ io_kind refusal) × IsSecretsRefusal text refusal
