-- The text that is written of a file.
use Rattle.std.specs.Prelude.{ℕ, ◌+◌, ◌==◌, Bool, true, false, not, List, [], ◌∷◌, ◌++◌, count_by, decimal, flat_map, nat_lt, slice_range}
use Rattle.std.specs.Prelude.{if◌then◌else◌}
use Rattle.std.specs.List.{list_any}
use Rattle.daachorse_model.specs.declared.Match.{Match}
use Rattle.daachorse_model.specs.Folding.{as_read}
use Rattle.daachorse_model.specs.Matches.{overlapping}
use Rattle.daachorse_model.specs.Units.{byte_width}
use Rattle.daacgrep_command.specs.declared.printing.Labels.{Labels}
use Rattle.daacgrep_command.specs.declared.search.Report.{Report}
use Rattle.daacgrep_command.specs.declared.search.Report.TheVariants.{Lines, Matches, Count, Name, Nothing}
use Rattle.daacgrep_command.specs.Fields.{entry, name_field}
use Rattle.daacgrep_command.specs.Jobs.{Wanted}
use Rattle.daacgrep_command.specs.Lines.{TextLine, lines_of}
use Rattle.daacgrep_command.specs.Rules.{first_value, match_value}
use Rattle.daacgrep_command.specs.Sought.{Sought, matches_in}

-- a list has an element
abbrev pub has_any : {X : Type 0} → List X → Bool
has_any [] = false
has_any (x ∷ xs) = true

-- what is written of a match: nothing, where it is empty, and else its part of the line after its own labels
abbrev pub match_text : List (List ℕ) → Labels → List ℕ → TextLine → Match ℕ → List ℕ
match_text rules labels name line m =
    if m.start == m.end then []
    else entry labels name line.number (line.start + m.start) (match_value rules m) (slice_range line.bytes m.start m.end)

-- what is written after the lines of a file, of which n are selected: their number, or the name where there is one
abbrev pub end_of : Report → Labels → List ℕ → ℕ → List ℕ
end_of Lines labels name n = []
end_of Matches labels name n = []
end_of Count labels name n = name_field labels.names name ++ (decimal n ++ 10 ∷ [])
end_of Name labels name n = if nat_lt 0 n then name ++ 10 ∷ [] else []
end_of Nothing labels name n = []

module _ (s : Sought) where
  -- a pattern occurs in the line
  abbrev pub occurs : List ℕ → Bool
  occurs line = has_any (overlapping byte_width s.dictionary (as_read s.folds line))

  -- the line is selected: a pattern occurs in it, or where that is inverted none does
  abbrev pub is_selected : Bool → List ℕ → Bool
  is_selected inverts line = if inverts then not (occurs line) else occurs line

  -- a line is selected, and how many are
  abbrev pub has_selected : Bool → List TextLine → Bool
  has_selected inverts lines = list_any (λ line. is_selected inverts line.bytes) lines

  abbrev pub selected_count : Bool → List TextLine → ℕ
  selected_count inverts lines = count_by (λ line. is_selected inverts line.bytes) lines

-- what is written of a file of this name
module _ (w : Wanted) (name : List ℕ) where
  -- of a line: its matches
  abbrev pub matches_text : TextLine → List ℕ
  matches_text line = flat_map (match_text w.rules w.task.labels name line) (matches_in w.sought line.bytes)

  -- of a selected line: the line or its matches
  abbrev pub line_text : Report → TextLine → List ℕ
  line_text Lines line = entry w.task.labels name line.number line.start (first_value w.rules (matches_in w.sought line.bytes)) line.bytes
  line_text Matches line = matches_text line
  line_text Count line = []
  line_text Name line = []
  line_text Nothing line = []

  -- of a line: nothing, unless it is selected
  abbrev pub part_of_line : TextLine → List ℕ
  part_of_line line = if is_selected w.sought w.task.inverts line.bytes then line_text w.task.report line else []

  -- of all lines
  abbrev pub lines_text : List TextLine → List ℕ
  lines_text lines = flat_map part_of_line lines

  -- of a file: its lines, and what stands after them
  abbrev pub file_text : List ℕ → List ℕ
  file_text text =
      lines_text (lines_of w.task.labels.end text)
      ++ end_of w.task.report w.task.labels name (selected_count w.sought w.task.inverts (lines_of w.task.labels.end text))
