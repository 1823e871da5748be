-- What a build for C promises, of its settings and of bytes, ends and values of patterns.
use Rattle.std.specs.Prelude.{◌≡◌, ◌≢◌, ◌⊎◌, ℕ, Bool, List, map}
use Rattle.daachorse_core.specs.declared.errors.DaachorseError.{DaachorseError}
use Rattle.daachorse_model.specs.declared.MatchKind.{MatchKind}
use Rattle.daachorse_model.specs.Kinds.{byte_of_kind}
use Rattle.daachorse_model.specs.Folding.{all_as_read, texts_as_read}
use Rattle.daachorse.specs.bytewise.Building.{IsBuiltWith as IsBuiltOverBytes, IsRefusalOf as IsRefusalOfBytes, kept_filter as filter_of_bytes}
use Rattle.daachorse.specs.charwise.Building.{IsBuiltWith as IsBuiltOverCharacters, IsRefusalOf as IsRefusalOfCharacters, kept_filter as filter_of_characters}
use Rattle.daachorse_c.specs.declared.building.Settings.{Settings}
use Rattle.daachorse_c.specs.declared.refusal.Refusal.{Refusal}
use Rattle.daachorse_c.specs.declared.refusal.Refusal.TheVariants.{InvalidUtf8, OutOfMemory, UnknownKind, WrongPatterns}
use Rattle.daachorse_c.specs.declared.unit.Unit.{Unit}
use Rattle.daachorse_c.specs.declared.unit.Unit.TheVariants.{Byte, Character}
use Rattle.daachorse_c.specs.Automata.{Automaton, Bytes, Characters, unit_of}
use Rattle.daachorse_c.specs.Patterns.{ArePatterns, AreTexts, registrations, texts_in}
use Rattle.daachorse_c.specs.Refusals.{refusal_of}

-- the settings of a build over bytes
abbrev pub settings_over_bytes : ℕ → Bool → Bool → Settings
settings_over_bytes kind use_prefilter folds = record { unit = Byte; kind = kind; use_prefilter = use_prefilter; ascii_case_insensitive = folds }

-- the automaton is built of these texts with their values, and keeps a filter where it is wanted
abbrev pub IsBuiltOf : MatchKind → Bool → Bool → List (List ℕ × ℕ) → Automaton → Type 0
IsBuiltOf kind folds use_prefilter rs (Bytes a) = IsBuiltOverBytes kind folds rs a × (a.filter ≡ filter_of_bytes use_prefilter (all_as_read folds (map (λ r. r.0) rs)))
IsBuiltOf kind folds use_prefilter rs (Characters a) = IsBuiltOverCharacters kind folds rs a × (a.filter ≡ filter_of_characters use_prefilter (map (λ r. r.0) (texts_as_read folds rs)))

-- why the library refuses to build an automaton over this unit
abbrev pub IsRefusalOver : Unit → MatchKind → List (List ℕ × ℕ) → DaachorseError → Type 0
IsRefusalOver Byte = IsRefusalOfBytes
IsRefusalOver Character = IsRefusalOfCharacters

module _ (s : Settings) (bytes ends values : List ℕ) where
  -- the patterns as texts, each with its value
  abbrev pub patterns_given : List (List ℕ × ℕ)
  patterns_given = texts_in s.unit (registrations bytes 0 ends values)

  -- the automaton is built of these patterns with these settings
  pub record IsBuiltFrom (a : Automaton) : Type 0 where
    pub unit : unit_of a ≡ s.unit
    pub its_kind : MatchKind
    pub kind : byte_of_kind its_kind ≡ s.kind
    pub right : ArePatterns bytes ends values
    pub texts : AreTexts s.unit (registrations bytes 0 ends values)
    pub built : IsBuiltOf its_kind s.ascii_case_insensitive s.use_prefilter patterns_given a

  -- the library refuses the patterns by this error
  pub record IsLibraryRefusal (e : DaachorseError) : Type 0 where
    pub its_kind : MatchKind
    pub kind : byte_of_kind its_kind ≡ s.kind
    pub right : ArePatterns bytes ends values
    pub refuses : IsRefusalOver s.unit its_kind (texts_as_read s.ascii_case_insensitive patterns_given) e

  -- why a build is refused
  abbrev pub IsBuildCause : Refusal → Type 0
  IsBuildCause r =
      ((r ≡ OutOfMemory) × ((k : MatchKind) × (byte_of_kind k ≡ s.kind))) ⊎ ((r ≡ UnknownKind) × ((k : MatchKind) → byte_of_kind k ≢ s.kind))
      ⊎ ((r ≡ WrongPatterns) × ¬ ArePatterns bytes ends values)
      ⊎ ((r ≡ InvalidUtf8) × ¬ AreTexts s.unit (registrations bytes 0 ends values))
      ⊎ ((e : DaachorseError) × (r ≡ refusal_of e) × IsLibraryRefusal e)
