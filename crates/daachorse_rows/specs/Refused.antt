-- What the error of an automaton that got no rows prints.
use Rattle.std.specs.Prelude.{ℕ, List, ◌++◌, Option, Some, None, codes}
use Rattle.daachorse_core.specs.Texts.{error_text}
use Rattle.daachorse_core.specs.declared.errors.DaachorseError.{DaachorseError}

-- the text of the allocation that failed, or that there is no room
abbrev pub refused_text : Option DaachorseError → List ℕ
refused_text (Some refusal) = codes "AccelerateError: " ++ error_text refusal
refused_text None = codes "AccelerateError: no room for rows"
