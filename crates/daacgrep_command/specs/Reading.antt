-- How far a file was searched.
use Rattle.std.specs.Prelude.{◌≡◌, ◌≤◌, ◌⊎◌, ℕ, Bool, true, false, List, [], ◌∷◌, ◌++◌, Option, Result, IfOk}
use Rattle.daacgrep_command.specs.declared.files.Outcome.{Outcome}
use Rattle.daacgrep_command.specs.declared.reading.Progress.{Progress}
use Rattle.daacgrep_command.specs.declared.search.Report.{Report}
use Rattle.daacgrep_command.specs.declared.search.Report.TheVariants.{Lines, Matches, Count, Name, Nothing}
use Rattle.daacgrep_command.specs.FileSystems.{Has}
use Rattle.daacgrep_command.specs.Jobs.{Wanted}
use Rattle.daacgrep_command.specs.Lines.{lines_of}
use Rattle.daacgrep_command.specs.Printed.{file_text, has_selected}
use Rattle.daacgrep_command.specs.Sending.{IsWritten, Sent}

-- a mark ends the last line of the text
abbrev pub IsClosed : ℕ → List ℕ → Type 0
IsClosed mark text = (text ≡ []) ⊎ ((front : List ℕ) × (text ≡ front ++ mark ∷ []))

-- these are no more than n
pub record IsWithin (p : Progress) (n : ℕ) : Type 0 where
  pub lines : p.lines ≤ n
  pub selected : p.selected ≤ n

-- nothing is asked but whether a line is selected
abbrev pub asks_for_one : Report → Bool
asks_for_one Name = true
asks_for_one Nothing = true
asks_for_one Lines = false
asks_for_one Matches = false
asks_for_one Count = false

-- The file of which this was left was searched, or as far as the output took what is written of it. Where it could not be read on,
-- it was cut off.
pub record IsFileSearched (w : Wanted) (name : List ℕ) (left : Option (List ℕ)) {E : Type 0} (old new : Sent)
    (result : Result Outcome E) : Type 0 where
  pub bytes : List ℕ
  pub cut : Bool
  pub has : Has cut left bytes
  pub written : IsWritten old new result (file_text w name bytes)
  pub selected : IfOk result (λ o. o.selected ≡ has_selected w.sought w.task.inverts (lines_of w.task.labels.end bytes))
  pub trouble : IfOk result (λ o. o.trouble ≡ cut)
