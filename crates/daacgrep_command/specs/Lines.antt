-- The lines of a text, with their numbers and places.
use Rattle.std.specs.Prelude.{ℕ, ◌+◌, ◌==◌, Bool, List, [], ◌∷◌, length, if◌then◌else◌}
use Rattle.std.specs.List.{slice_split}
use Rattle.daachorse_model.specs.Program.{without_empty_end}
use Rattle.daacgrep_command.specs.declared.line.Line.{Line}
use Rattle.daacgrep_command.specs.declared.line.Part.{Part}

-- a line: its number, the place of its first byte, and its bytes
pub record TextLine : Type 0 where
  pub number : ℕ
  pub start : ℕ
  pub bytes : List ℕ

-- the line, with its number where that is asked for, and else with 0
abbrev pub numbered : Bool → TextLine → TextLine
numbered asked line = record { number = if asked then line.number else 0; start = line.start; bytes = line.bytes }

abbrev pub seen : Line → TextLine
seen line = record { number = line.number; start = line.start; bytes = line.bytes.now }

-- these pieces as the lines of a text from `start` on, of which `before` lines stand before them
abbrev pub lines_from : ℕ → ℕ → List (List ℕ) → List TextLine
lines_from before start [] = []
lines_from before start (piece ∷ pieces) =
    record { number = before + 1; start = start; bytes = piece } ∷ lines_from (before + 1) (start + length piece + 1) pieces

-- the pieces between marks, less an empty one at the end
abbrev pub pieces_of : ℕ → List ℕ → List (List ℕ)
pieces_of mark text = without_empty_end (slice_split (λ b. b == mark) text)

-- the lines of a part, where a mark ends each
abbrev pub lines_of_part : ℕ → Part → List TextLine
lines_of_part mark part = lines_from part.before part.start (pieces_of mark part.bytes.now)

-- the lines of a text, where a mark ends each
abbrev pub lines_of : ℕ → List ℕ → List TextLine
lines_of mark text = lines_from 0 0 (pieces_of mark text)
