-- What the words of a command line and the files that they name come to: a text, and a status.
use Rattle.std.specs.Prelude.{◌≡◌, ◌⊎◌, ◌-◌, ◌<◌, ◌^◌, ◌==◌, ◌&&◌, ◌||◌, Bool, true, false, not, nat_lt, ℕ, List, [], ◌∷◌, ◌++◌}
use Rattle.std.specs.Prelude.{Option, Some, None, Result, All, codes, flat_map, is_none, is_some, length, map, slice_index, unwrap_or}
use Rattle.std.specs.Prelude.{if◌then◌else◌, IfOk, OnOk}
use Rattle.std.specs.Int.{w32}
use Rattle.std.specs.Option.{option_map}
use Rattle.std.specs.List.{list_any}
use Rattle.daachorse_model.specs.declared.MatchKind.{MatchKind}
use Rattle.daachorse_model.specs.declared.MatchKind.TheVariants.{Standard, LeftmostLongest, LeftmostFirst}
use Rattle.daachorse_model.specs.Dictionary.{Dictionary, dictionary}
use Rattle.daachorse_model.specs.Folding.{texts_as_read}
use Rattle.daachorse_model.specs.Program.{pattern_lines, with_numbers}
use Rattle.daachorse_model.specs.Units.{same_text}
use Rattle.daachorse.specs.bytewise.Automata.{Automaton, dictionary_of, kind_of}
use Rattle.daachorse.specs.bytewise.Building.{IsBuiltOf}
use Rattle.daachorse.specs.Forms.{number_form, take_number}
use Rattle.daachorse.specs.bytewise.ReadForms.{GivesAutomaton}
use Rattle.daachorse.specs.bytewise.WrittenForms.{IsAutomaton, written_form}
use Rattle.daacfind_command.specs.Commands.{Tells}
use Rattle.daacfind_command.specs.Runs.{value_gives}
use Rattle.daacgrep_command.specs.declared.flag.Flag.{Flag}
use Rattle.daacgrep_command.specs.declared.flag.Flag.TheVariants.{WithName, NoName, OnlyMatches, Places, Numbers, Count as Counts}
use Rattle.daacgrep_command.specs.declared.flag.Flag.TheVariants.{FileNames, Quiet, IgnoreCase, Invert, NullData, First, Overlapping}
use Rattle.daacgrep_command.specs.declared.flag.Flag.TheVariants.{Values, Help, Version}
use Rattle.daacgrep_command.specs.declared.files.Outcome.{Outcome}
use Rattle.daacgrep_command.specs.declared.search.Report.{Report}
use Rattle.daacgrep_command.specs.declared.search.Report.TheVariants.{Lines, Matches, Count, Name, Nothing}
use Rattle.daacgrep_command.specs.declared.search.Task.{Task}
use Rattle.daacgrep_command.specs.FileSystems.{SavedFile, TellsOf}
use Rattle.daacgrep_command.specs.Flags.{asks}
use Rattle.daacgrep_command.specs.Jobs.{Wanted}
use Rattle.daacgrep_command.specs.Lines.{lines_of}
use Rattle.daacgrep_command.specs.Messages.{Notice, Sends}
use Rattle.daacgrep_command.specs.Messages.Notice.{NotRead}
use Rattle.daacgrep_command.specs.Options.{Asked, are_any, last_of}
use Rattle.daacgrep_command.specs.Rules.{pattern_of}
use Rattle.daacgrep_command.specs.Sending.{IsWritten, Sent}
use Rattle.daacgrep_command.specs.Sought.{Sought}
use Rattle.daacgrep_command.specs.Printed.{file_text, has_selected}

-- a file that was asked for: its name, its bytes, or none where it cannot be read, and whether an error cut them off
pub record GivenFile : Type 0 where
  pub name : List ℕ
  pub bytes : Option (List ℕ)
  pub cut : Bool

-- these are the files of these names
pub record AreFilesOf (given : Option (List ℕ → Option (List ℕ))) (names : List (List ℕ)) (files : List GivenFile) : Type 0 where
  pub named : map (λ f. f.name) files ≡ names
  pub known : All (λ f. TellsOf given f.name f.bytes f.cut) files

-- the file cannot be read, or not to its end
abbrev pub is_unread : GivenFile → Bool
is_unread f = is_none f.bytes || f.cut

-- one of them is such a file
abbrev pub has_unread : List GivenFile → Bool
has_unread files = list_any is_unread files

-- what is reported of a file, and of some
abbrev pub report_of : GivenFile → List Notice
report_of f = if is_unread f then NotRead f.name ∷ [] else []

abbrev pub reports_of : List GivenFile → List Notice
reports_of files = flat_map report_of files

-- how the matches are found: all of them, or of those at one start that of the first pattern, or the longest
abbrev pub kind_asked : List Flag → MatchKind
kind_asked flags = if asks Overlapping flags then Standard else (if asks First flags then LeftmostFirst else LeftmostLongest)

-- what is written of each file
abbrev pub report_asked : List Flag → Report
report_asked flags =
    if asks Quiet flags then Nothing
    else (if asks FileNames flags then Name
    else (if asks Counts flags then Count
    else (if asks OnlyMatches flags then Matches else Lines)))

-- the byte that ends lines
abbrev pub end_asked : List Flag → ℕ
end_asked flags = if asks NullData flags then 0 else 10

-- how files are searched, of which there may be several
abbrev pub task_asked : List Flag → Bool → Task
task_asked flags several = record {
  report = report_asked flags;
  inverts = asks Invert flags;
  labels = record {
    names = not (asks NoName flags) && (several || asks WithName flags);
    numbers = asks Numbers flags;
    places = asks Places flags;
    values = asks Values flags;
    end = end_asked flags;
  };
}

abbrev pub task_of : Asked → Task
task_of asked = task_asked asked.flags (nat_lt 1 (length asked.files))

-- a text with a line feed after it, where it has a last line that does not end
abbrev pub closed : List ℕ → List ℕ
closed text = if nat_lt 0 (length text) && not (slice_index text (length text - 1) == 10) then text ++ 10 ∷ [] else text

abbrev pub closed_file : GivenFile → List ℕ
closed_file f = closed (unwrap_or f.bytes [])

-- the text whose lines are the patterns: each of them that was given, and these files
abbrev pub pattern_text : List (List ℕ) → List GivenFile → List ℕ
pattern_text patterns files = flat_map (λ p. p ++ 10 ∷ []) patterns ++ flat_map closed_file files

-- the lines of the patterns
abbrev pub rules_asked : Asked → List GivenFile → List (List ℕ)
rules_asked asked files = pattern_lines (pattern_text asked.patterns files)

-- a pattern, a file of patterns or a written automaton is named
abbrev pub names_patterns : Asked → Bool
names_patterns asked = are_any asked.patterns || are_any asked.pattern_files || is_some (last_of asked.loads)

-- the patterns of these lines
abbrev pub dictionary_asked : List Flag → List (List ℕ) → Dictionary ℕ
dictionary_asked flags rules = dictionary (kind_asked flags) (texts_as_read (asks IgnoreCase flags)
    (with_numbers 0 (map (pattern_of (asks Values flags)) rules)))

-- the automaton is for the searches that are asked for
pub record IsSavedWith (flags : List Flag) (a : Automaton ℕ) : Type 0 where
  pub kind : kind_of a ≡ kind_asked flags
  pub folds : a.folds ≡ asks IgnoreCase flags

module _ (flags : List Flag) (given : Option (List ℕ → Option (List ℕ))) where
  -- the file of this name begins with the automaton, which is for the searches that are asked for
  pub record IsLoaded (name : List ℕ) (a : Automaton ℕ) : Type 0 where
    pub bytes : List ℕ
    pub has : Tells given name (Some bytes)
    pub rest : List ℕ
    pub begins : GivesAutomaton (take_number w32) bytes a rest
    pub fits : IsSavedWith flags a

  module _ (rules : List (List ℕ)) where
    -- the automaton that is asked for: one of the patterns of these lines, or that of a file
    abbrev pub IsAutomatonAsked : Option (List ℕ) → Automaton ℕ → Type 0
    IsAutomatonAsked None a =
        IsBuiltOf value_gives (kind_asked flags) (asks IgnoreCase flags) (map (pattern_of (asks Values flags)) rules) a
    IsAutomatonAsked (Some name) a = IsLoaded name a

    -- the patterns that are searched for: those of these lines, or those of that automaton
    abbrev pub AreSought : Option (List ℕ) → Dictionary ℕ → Type 0
    AreSought None K = K ≡ dictionary_asked flags rules
    AreSought (Some name) K = (a : Automaton ℕ) × IsLoaded name a × (K ≡ dictionary_of a)

-- what is sought, where these are the patterns
abbrev pub sought_asked : List Flag → Dictionary ℕ → Sought
sought_asked flags K = record { dictionary = K; folds = asks IgnoreCase flags; kind = kind_asked flags }

-- the names of the files that are searched: standard input, where there is no other
abbrev pub names_asked : List (List ℕ) → List (List ℕ)
names_asked [] = codes "-" ∷ []
names_asked (name ∷ names) = name ∷ names

-- the name of a file as it is printed
abbrev pub shown : List ℕ → List ℕ
shown name = if same_text name (codes "-") then codes "(standard input)" else name

-- what is wanted of files, where the patterns have these lines
abbrev pub wanted_asked : Asked → Dictionary ℕ → List (List ℕ) → Wanted
wanted_asked asked K rules = record { sought = sought_asked asked.flags K; rules = rules; task = task_of asked }

module _ (w : Wanted) where
  -- what is written of a file
  abbrev pub text_of_file : GivenFile → List ℕ
  text_of_file f = unwrap_or (option_map (file_text w (shown f.name)) f.bytes) []

  abbrev pub files_text : List GivenFile → List ℕ
  files_text files = flat_map text_of_file files

  -- a line of the file is selected
  abbrev pub selects_of : GivenFile → Bool
  selects_of f = unwrap_or (option_map (λ text. has_selected w.sought w.task.inverts (lines_of w.task.labels.end text)) f.bytes) false

  -- what came of the search of these files
  abbrev pub outcome_of : List GivenFile → Outcome
  outcome_of files = record { selected = list_any selects_of files; trouble = has_unread files }

-- 0 where a line is selected, 1 where none is, and 2 where a file cannot be read to its end, unless a line is selected and only
-- this was asked
abbrev pub status_of_outcome : Bool → Outcome → ℕ
status_of_outcome quiet o = if o.trouble && not (quiet && o.selected) then 2 else (if o.selected then 0 else 1)

-- what came of two searches, one after the other
abbrev pub both : Outcome → Outcome → Outcome
both a b = record { selected = a.selected || b.selected; trouble = a.trouble || b.trouble }

-- the files of these names were read, and their texts added
pub record HasRead (given : Option (List ℕ → Option (List ℕ))) (names : List (List ℕ)) (old new : List ℕ) : Type 0 where
  pub files : List GivenFile
  pub are_files : AreFilesOf given names files
  pub are_read : has_unread files ≡ false
  pub added : new ≡ old ++ flat_map closed_file files

-- the lines of the text are those of the patterns that are asked for
pub record GivesPatterns (asked : Asked) (given : Option (List ℕ → Option (List ℕ))) (text : List ℕ) : Type 0 where
  pub files : List GivenFile
  pub are_files : AreFilesOf given asked.pattern_files files
  pub are_read : has_unread files ≡ false
  pub is : text ≡ pattern_text asked.patterns files

module _ (w : Wanted) (given : Option (List ℕ → Option (List ℕ))) (names : List (List ℕ)) where
  -- the files of these names were searched, and each that could not be read was reported; or they were searched as far as the
  -- output took what is written of them
  pub record AreSearched {E : Type 0} (old new : Sent) (sent_old sent_new : Option (List Notice)) (result : Result Outcome E) : Type 0 where
    pub files : List GivenFile
    pub are_files : AreFilesOf given names files
    pub written : IsWritten old new result (files_text w files)
    pub outcome : IfOk result (λ o. o ≡ outcome_of w files)
    pub reported : OnOk result (Sends sent_old sent_new (reports_of files))

module _ (w : Wanted) (asked : Asked) (given : Option (List ℕ → Option (List ℕ))) where
  -- the files that are asked for were searched, and each that could not be read was reported; or they were searched as far as the
  -- output took what is written of them
  pub record IsSearched {E : Type 0} (old new : Sent) (sent_old sent_new : Option (List Notice)) (result : Result ℕ E) : Type 0 where
    pub files : List GivenFile
    pub are_files : AreFilesOf given (names_asked asked.files) files
    pub written : IsWritten old new result (files_text w files)
    pub status : IfOk result (λ status. status ≡ status_of_outcome (asks Quiet asked.flags) (outcome_of w files))
    pub reported : OnOk result (Sends sent_old sent_new (reports_of files))

-- a search is asked for, by which this text is to be written and these files are to be reported, with this status at the end
pub record IsSearch (asked : Asked) (given : Option (List ℕ → Option (List ℕ))) (text : List ℕ) (notices : List Notice)
    (status : ℕ) : Type 0 where
  pub pattern_files : List GivenFile
  pub are_pattern_files : AreFilesOf given asked.pattern_files pattern_files
  pub are_read : has_unread pattern_files ≡ false
  pub named : names_patterns asked ≡ true
  pub patterns : Dictionary ℕ
  pub are_sought : AreSought asked.flags given (rules_asked asked pattern_files) (last_of asked.loads) patterns
  pub files : List GivenFile
  pub are_files : AreFilesOf given (names_asked asked.files) files
  pub text_is : text ≡ files_text (wanted_asked asked patterns (rules_asked asked pattern_files)) files
  pub notices_are : notices ≡ reports_of files
  pub status_is :
      status
      ≡ status_of_outcome (asks Quiet asked.flags) (outcome_of (wanted_asked asked patterns (rules_asked asked pattern_files)) files)

-- an automaton is asked for, of which these bytes are the written form
pub record IsSave (asked : Asked) (given : Option (List ℕ → Option (List ℕ))) (bytes : List ℕ) : Type 0 where
  pub pattern_files : List GivenFile
  pub are_pattern_files : AreFilesOf given asked.pattern_files pattern_files
  pub are_read : has_unread pattern_files ≡ false
  pub named : names_patterns asked ≡ true
  pub automaton : Automaton ℕ
  pub is_asked : IsAutomatonAsked asked.flags given (rules_asked asked pattern_files) (last_of asked.loads) automaton
  pub is_one : IsAutomaton (λ v. v < 2 ^ 32) automaton
  pub form : bytes ≡ written_form (number_form w32) automaton

-- this text is to be written, and these files, and this is to be reported, with this status at the end: an automaton is saved in the file
-- of a name, or else files are searched
abbrev pub IsWork : Asked → Option (List ℕ → Option (List ℕ)) → Option (List ℕ) → List ℕ → List SavedFile → List Notice → ℕ → Type 0
IsWork asked given None text saved notices status = IsSearch asked given text notices status × (saved ≡ [])
IsWork asked given (Some name) text saved notices status =
    (text ≡ []) × (notices ≡ []) × (status ≡ 0)
    × ((bytes : List ℕ) × IsSave asked given bytes × (saved ≡ record { name = name; bytes = bytes } ∷ []))

-- the usage or the version is asked for
abbrev pub tells_of_itself : Asked → Bool
tells_of_itself asked = asks Help asked.flags || asks Version asked.flags

-- the text of the version, and how that of the usage begins
abbrev pub version_text : List ℕ
version_text = codes "daacgrep 1.0.0\n"

abbrev pub IsUsage : List ℕ → Type 0
IsUsage text = (rest : List ℕ) × (text ≡ codes "usage: daacgrep" ++ rest)

-- the text is the usage, where that is asked for, and else the version
pub record IsOfItself (asked : Asked) (text : List ℕ) : Type 0 where
  pub usage : asks Help asked.flags ≡ true → IsUsage text
  pub version : asks Help asked.flags ≡ false → text ≡ version_text

-- this text and these files are asked for, this is to be reported, and this is the status at the end
abbrev pub IsAnswer : Asked → Option (List ℕ → Option (List ℕ)) → List ℕ → List SavedFile → List Notice → ℕ → Type 0
IsAnswer asked given text saved notices status =
    ((tells_of_itself asked ≡ true) × IsOfItself asked text × (saved ≡ []) × (notices ≡ []) × (status ≡ 0))
    ⊎ ((tells_of_itself asked ≡ false) × IsWork asked given (last_of asked.saves) text saved notices status)
