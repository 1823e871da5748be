-- Which filter a build keeps.
use Rattle.std.specs.Prelude.{ℕ, Bool, if◌then◌else◌, List, map, Option, None}
use Rattle.daachorse_prefilter.specs.Filters.{Filter}
use Rattle.daachorse_prefilter.specs.Building.{built_filter}

-- that of all texts, those too that a kind leaves out, if one is wanted: `spell` gives the bytes of a text
abbrev pub kept_filter : (List ℕ → List ℕ) → Bool → List (List ℕ) → Option Filter
kept_filter spell wanted texts = if wanted then built_filter (map spell texts) else None
