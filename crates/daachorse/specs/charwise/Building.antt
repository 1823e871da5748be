-- What a build over characters promises: the dictionary of its patterns and the codes of their characters, or the first refusal in the order of its work.
use Rattle.std.specs.Prelude.{◌≡◌, ◌≤◌, ◌⊎◌, ℕ, Bool, List, [], Option, encode_utf8_all, length, map, Result, None}
use Rattle.std.specs.Borrow.{Bor}
use Rattle.std.specs.Str.{chars}
use Rattle.daachorse_core.specs.declared.errors.DaachorseError.{DaachorseError}
use Rattle.daachorse_core.specs.declared.errors.DaachorseError.TheVariants.{AutomatonScale}
use Rattle.daachorse_core.specs.declared.errors.Limit.TheVariants.{NumElements}
use Rattle.daachorse_model.specs.declared.MatchKind.{MatchKind}
use Rattle.daachorse_model.specs.Dictionary.{dictionary, kept_registrations}
use Rattle.daachorse_model.specs.Folding.{texts_as_read}
use Rattle.daachorse_model.specs.Units.{char_width}
use Rattle.daachorse_charwise_states.specs.Codings.{Coding, IsCodingOf}
use Rattle.daachorse_patterns.specs.Building.{Fit, IsBuildRefusalWithin, IsRefusalWithin, Limits}
use Rattle.daachorse_patterns.specs.Filters.{kept_filter as filter_kept}
use Rattle.daachorse_patterns.specs.Patterns.{AreIndexed, texts_of}
use Rattle.daachorse_prefilter.specs.Filters.{Filter}
use Rattle.daachorse_charwise_states.specs.Packing.{NeedsManyBlocks}
use Rattle.daachorse.specs.charwise.Automata.{Automaton, coding_of, dictionary_of, kind_of}
use Rattle.daachorse.specs.charwise.Frequencies.{AreFrequencies}

-- the texts that strings stand for
abbrev pub texts_of_strings : List (Bor (List ℕ)) → List (List ℕ)
texts_of_strings strings = map (λ s. chars s.now) strings

-- the registrations that strings with values stand for
abbrev pub registrations_of_strings : {V : Type 0} → List (Bor (List ℕ) × V) → List (List ℕ × V)
registrations_of_strings patterns = texts_of (λ s. chars s.now) patterns

-- the codes of the characters of these texts: the most frequent have the smallest
abbrev pub AreCodesOf : List (List ℕ) → Coding → Type 0
AreCodesOf texts coding = (freqs : List ℕ) × AreFrequencies texts freqs × IsCodingOf freqs coding

-- the filter that a build keeps: that of the UTF-8 of all its patterns, those too that the kind leaves out, if it is wanted
abbrev pub kept_filter : Bool → List (List ℕ) → Option Filter
kept_filter = filter_kept encode_utf8_all

-- patterns have no limit of their own: that of the outputs holds for them
abbrev pub char_limits : Limits
char_limits = record { patterns = None; parents = None }

module _ {V : Type 0} (kind : MatchKind) (rs : List (List ℕ × V)) where
  -- the automaton holds these patterns with their values, less those that its kind leaves out, and codes for the characters of all of them
  pub record HoldsPatterns (a : Automaton V) : Type 0 where
    pub patterns : (w : List ℕ) → dictionary_of a w ≡ dictionary kind rs w
    pub codes : AreCodesOf (map (λ r. r.0) rs) (coding_of a)

  -- the elements run out: all patterns fit, their outputs are within the limit, and more texts begin longer patterns than there are blocks for
  pub record RunsOut (e : DaachorseError) : Type 0 where
    pub limit : e ≡ AutomatonScale (record { limit = NumElements })
    pub fit : Fit char_width kind rs
    pub outputs : length (kept_registrations kind rs) ≤ 4294967295
    pub coding : Coding
    pub codes : AreCodesOf (map (λ r. r.0) rs) coding
    pub blocks : NeedsManyBlocks coding (dictionary kind rs)

  -- why a build of patterns with their values refuses: its trie does, or the elements run out
  abbrev pub IsRefusalOf : DaachorseError → Type 0
  IsRefusalOf e = IsRefusalWithin char_width char_limits kind rs e ⊎ RunsOut e

-- what a build of these patterns with their values makes: an automaton of this kind and with this option that holds them, as the option reads them, and has no depths cached
pub record IsBuiltWith {V : Type 0} (its_kind : MatchKind) (insensitive : Bool) (rs : List (List ℕ × V)) (a : Automaton V) : Type 0 where
  pub holds : HoldsPatterns its_kind (texts_as_read insensitive rs) a
  pub kind : kind_of a ≡ its_kind
  pub folds : a.folds ≡ insensitive
  pub depths : a.depths ≡ []

module _ {V E : Type 0} (gives : ℕ → Result V E → Type 0) where
  -- the automaton is built of the texts, each with the value of its index
  abbrev pub IsBuiltOf : MatchKind → Bool → List (List ℕ) → Automaton V → Type 0
  IsBuiltOf kind insensitive texts a = (rs : List (List ℕ × V)) × AreIndexed gives 0 texts rs × IsBuiltWith kind insensitive rs a

  -- why a build of texts refuses, each of which gets the value of its index
  abbrev pub IsBuildRefusal : MatchKind → List (List ℕ) → DaachorseError → Type 0
  IsBuildRefusal kind texts e = IsBuildRefusalWithin gives char_width char_limits kind texts e ⊎ ((rs : List (List ℕ × V)) × AreIndexed gives 0 texts rs × RunsOut kind rs e)
