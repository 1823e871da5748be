-- What a build of an automaton over bytes promises.
use Rattle.std.specs.Prelude.{◌≡◌, ℕ, Bool, List, [], Option, Result, Some}
use Rattle.daachorse_core.specs.declared.errors.DaachorseError.{DaachorseError}
use Rattle.daachorse_model.specs.declared.MatchKind.{MatchKind}
use Rattle.daachorse_model.specs.Dictionary.{dictionary}
use Rattle.daachorse_model.specs.Folding.{texts_as_read}
use Rattle.daachorse_model.specs.Units.{byte_width}
use Rattle.daachorse_patterns.specs.Building.{IsBuildRefusalWithin, IsRefusalWithin, Limits}
use Rattle.daachorse_patterns.specs.Filters.{kept_filter as filter_kept}
use Rattle.daachorse_patterns.specs.Patterns.{AreIndexed}
use Rattle.daachorse_prefilter.specs.Filters.{Filter}
use Rattle.daachorse.specs.bytewise.Automata.{Automaton, dictionary_of, kind_of}

-- 16,777,215 patterns may be kept, and as long as 16,777,214 texts begin longer patterns elements do not run out
abbrev pub byte_limits : Limits
byte_limits = record { patterns = Some 16777215; parents = Some 16777214 }

-- the automaton holds these patterns with their values, less those that its kind leaves out
abbrev pub HoldsPatterns : {V : Type 0} → MatchKind → List (List ℕ × V) → Automaton V → Type 0
HoldsPatterns kind rs a = (w : List ℕ) → dictionary_of a w ≡ dictionary kind rs w

-- what a build of these patterns with their values makes: an automaton of this kind and with this option that holds them, as the option reads them, and has no depths cached
pub record IsBuiltWith {V : Type 0} (its_kind : MatchKind) (insensitive : Bool) (rs : List (List ℕ × V)) (a : Automaton V) : Type 0 where
  pub holds : HoldsPatterns its_kind (texts_as_read insensitive rs) a
  pub kind : kind_of a ≡ its_kind
  pub folds : a.folds ≡ insensitive
  pub depths : a.depths ≡ []

-- the filter that a build keeps: that of all its patterns, those too that the kind leaves out, if it is wanted
abbrev pub kept_filter : Bool → List (List ℕ) → Option Filter
kept_filter = filter_kept (λ w. w)

-- why a build of patterns with their values refuses
abbrev pub IsRefusalOf : {V : Type 0} → MatchKind → List (List ℕ × V) → DaachorseError → Type 0
IsRefusalOf kind rs e = IsRefusalWithin byte_width byte_limits kind rs e

module _ {V E : Type 0} (gives : ℕ → Result V E → Type 0) where
  -- the automaton is built of the texts, each with the value of its index
  abbrev pub IsBuiltOf : MatchKind → Bool → List (List ℕ) → Automaton V → Type 0
  IsBuiltOf kind insensitive texts a = (rs : List (List ℕ × V)) × AreIndexed gives 0 texts rs × IsBuiltWith kind insensitive rs a

  -- why a build of texts refuses, each of which gets the value of its index
  abbrev pub IsBuildRefusal : MatchKind → List (List ℕ) → DaachorseError → Type 0
  IsBuildRefusal kind texts e = IsBuildRefusalWithin gives byte_width byte_limits kind texts e
