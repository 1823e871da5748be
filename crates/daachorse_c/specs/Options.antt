-- The options of a build, as C gives them.
use Rattle.std.specs.Prelude.{◌≡◌, ◌⊎◌, ℕ, ◌≤◌, ◌==◌, Bool, not, List, [], ◌∷◌}
use Rattle.daachorse_c.specs.declared.building.Settings.{Settings}
use Rattle.daachorse_c.specs.declared.options.Options.{Options}
use Rattle.daachorse_c.specs.declared.refusal.Refusal.{Refusal}
use Rattle.daachorse_c.specs.declared.refusal.Refusal.TheVariants.{UnknownOption}
use Rattle.daachorse_c.specs.Automata.{Automaton}
use Rattle.daachorse_c.specs.Building.{IsBuildCause, IsBuiltFrom}
use Rattle.daachorse_c.specs.Units.{unit_numbered}

-- each is 0 or 1, and what has no name is 0
pub record AreKnown (o : Options) : Type 0 where
  pub no_prefilter : o.no_prefilter ≤ 1
  pub ascii_case_insensitive : o.ascii_case_insensitive ≤ 1
  pub unit : o.unit ≤ 1
  pub spare : o.spare ≡ 0 ∷ 0 ∷ 0 ∷ 0 ∷ []

-- an option of 0 or 1 is asked for
abbrev pub is_asked : ℕ → Bool
is_asked option = option == 1

-- what the options ask for
abbrev pub settings_of : Options → Settings
settings_of o = record { unit = unit_numbered o.unit; kind = o.kind; use_prefilter = not (is_asked o.no_prefilter); ascii_case_insensitive = is_asked o.ascii_case_insensitive }

module _ (o : Options) (bytes ends values : List ℕ) where
  -- the automaton is built of these patterns with these options
  abbrev pub IsBuiltWithOptions : Automaton → Type 0
  IsBuiltWithOptions a = AreKnown o × IsBuiltFrom (settings_of o) bytes ends values a

  -- why such a build is refused
  abbrev pub IsOptionsCause : Refusal → Type 0
  IsOptionsCause r = ((r ≡ UnknownOption) × ¬ AreKnown o) ⊎ (AreKnown o × IsBuildCause (settings_of o) bytes ends values r)
