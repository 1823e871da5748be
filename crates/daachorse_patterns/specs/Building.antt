-- What a build promises: the dictionary of its patterns, or the first refusal in the order of its work.
use Rattle.std.specs.Prelude.{◌≡◌, ℕ, ◌<◌, ◌≤◌, ⊤, List, ◌∷◌, ◌++◌, [], length, All, Result, Option, IsNone, IsSomeAnd, IfSome}
use Rattle.std.specs.declared.cmp.Ordering.{Ordering}
use Rattle.daachorse_core.specs.declared.errors.DaachorseError.{DaachorseError}
use Rattle.daachorse_core.specs.declared.errors.DaachorseError.TheVariants.{InvalidArgument, AutomatonScale, InvalidConversion, InvalidAutomaton, OutOfMemory}
use Rattle.daachorse_core.specs.declared.errors.Limit.{Limit}
use Rattle.daachorse_core.specs.declared.errors.Limit.TheVariants.{PatternValues, StateId, NumElements, Outputs, OutputPos}
use Rattle.daachorse_model.specs.declared.MatchKind.{MatchKind}
use Rattle.daachorse_model.specs.Dictionary.{dictionary, kept_registrations}
use Rattle.daachorse_model.specs.Units.{size}
use Rattle.daachorse_build.specs.declared.nfa_builder.NfaBuilder.{NfaBuilder}
use Rattle.daachorse_build.specs.Holds.{HasMorePrefixes}
use Rattle.daachorse_patterns.specs.Patterns.{AreIndexed, HasNoValue}
use Rattle.daachorse_patterns.specs.Prefixes.{HasMoreProperPrefixes}
use Rattle.daachorse_patterns.specs.Tries.{IsBuilt}

-- the limits of an automaton
pub record Limits : Type 0 where
  -- how many patterns may be kept, if that has a limit of its own: else that of the outputs holds, of which there are as many
  pub patterns : Option ℕ
  -- so many texts may begin longer patterns before elements run out, if elements are made
  pub parents : Option ℕ

-- these patterns can be added: none is too long, and their prefixes do not pass the limit of the states
pub record Fit {V : Type 0} (width : ℕ → ℕ) (kind : MatchKind) (rs : List (List ℕ × V)) : Type 0 where
  pub short : All (λ r. size width r.0 ≤ 4294967295) rs
  pub few : ¬ HasMorePrefixes (dictionary kind rs) 4294967295

-- a builder holds the dictionary of these patterns, which can all be added, and no more are kept than may be: where they have no limit of their own, than there may be outputs
pub record IsTrieOf {L V A : Type 0} (cmp : L → L → Ordering) (unit : L → ℕ) (width : ℕ → ℕ) (most : Option ℕ) (kind : MatchKind) (rs : List (List ℕ × V)) (b : NfaBuilder L V A) : Type 0 where
  pub built : IsBuilt cmp unit width most kind b (dictionary kind rs)
  pub fit : Fit width kind rs
  pub outputs : length (kept_registrations kind rs) ≤ 4294967295
  pub few : IfSome most (λ n. length (kept_registrations kind rs) ≤ n)

-- the patterns before r can be added, and r is next
pub record ComesTo {V : Type 0} (width : ℕ → ℕ) (kind : MatchKind) (rs before : List (List ℕ × V)) (r : List ℕ × V) : Type 0 where
  pub after : List (List ℕ × V)
  pub parts : rs ≡ before ++ r ∷ after
  pub fit : Fit width kind before

module _ {V : Type 0} (width : ℕ → ℕ) (limits : Limits) (kind : MatchKind) (rs : List (List ℕ × V)) where
  -- a limit is passed: that of the states by the first pattern that does not fit, that of the patterns by all, or in its place that of the outputs, and then that of the elements
  abbrev pub IsPassed : Limit → Type 0
  IsPassed StateId =
      (before : List (List ℕ × V)) × (r : List ℕ × V) × ComesTo width kind rs before r × (size width r.0 ≤ 4294967295)
      × HasMorePrefixes (dictionary kind (before ++ r ∷ [])) 4294967295
  IsPassed PatternValues = Fit width kind rs × IsSomeAnd limits.patterns (λ n. n < length (kept_registrations kind rs))
  IsPassed Outputs = Fit width kind rs × IsNone limits.patterns × (4294967295 < length (kept_registrations kind rs))
  IsPassed NumElements =
      Fit width kind rs × IfSome limits.patterns (λ n. length (kept_registrations kind rs) ≤ n) × IsSomeAnd limits.parents (λ n. HasMoreProperPrefixes (dictionary kind rs) n)
  IsPassed OutputPos = ⊥

  -- why a build of patterns with their values refuses
  abbrev pub IsRefusalWithin : DaachorseError → Type 0
  IsRefusalWithin (InvalidArgument _) =
      (before : List (List ℕ × V)) × (r : List ℕ × V) × ComesTo width kind rs before r × (4294967295 < size width r.0)
  IsRefusalWithin (AutomatonScale e) = IsPassed e.limit
  IsRefusalWithin (InvalidConversion _) = ⊥
  IsRefusalWithin (InvalidAutomaton _) = ⊥
  IsRefusalWithin (OutOfMemory _) = ⊤

module _ {V E : Type 0} (gives : ℕ → Result V E → Type 0) (width : ℕ → ℕ) (limits : Limits) where
  -- all indexes have values, and the build of the texts with these refuses
  abbrev pub IsRefusedWithValues : MatchKind → List (List ℕ) → DaachorseError → Type 0
  IsRefusedWithValues kind texts e = (rs : List (List ℕ × V)) × AreIndexed gives 0 texts rs × IsRefusalWithin width limits kind rs e

  -- why a build of texts refuses, each of which gets the value of its index
  abbrev pub IsBuildRefusalWithin : MatchKind → List (List ℕ) → DaachorseError → Type 0
  IsBuildRefusalWithin kind texts (InvalidConversion _) = HasNoValue gives texts
  IsBuildRefusalWithin kind texts (InvalidArgument e) = IsRefusedWithValues kind texts (InvalidArgument e)
  IsBuildRefusalWithin kind texts (AutomatonScale e) = IsRefusedWithValues kind texts (AutomatonScale e)
  IsBuildRefusalWithin kind texts (InvalidAutomaton _) = ⊥
  IsBuildRefusalWithin kind texts (OutOfMemory _) = ⊤
