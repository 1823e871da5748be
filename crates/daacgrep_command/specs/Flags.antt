-- The text that asks for each flag.
use Rattle.std.specs.Prelude.{ℕ, ◌==◌, Bool, List, [], ◌∷◌, Option, codes, find}
use Rattle.std.specs.List.{list_any}
use Rattle.daachorse_model.specs.Units.{same_text}
use Rattle.daacgrep_command.specs.declared.flag.Flag.{Flag}
use Rattle.daacgrep_command.specs.declared.flag.Flag.TheVariants.{WithName, NoName, OnlyMatches, Places, Numbers, Count, FileNames, Quiet, IgnoreCase, Invert, NullData, Longest, First, Overlapping, Values, Help, Version}

-- how a flag is written
abbrev pub flag_text : Flag → List ℕ
flag_text WithName = codes "-H"
flag_text NoName = codes "-h"
flag_text OnlyMatches = codes "-o"
flag_text Places = codes "-b"
flag_text Numbers = codes "-n"
flag_text Count = codes "-c"
flag_text FileNames = codes "-l"
flag_text Quiet = codes "-q"
flag_text IgnoreCase = codes "-i"
flag_text Invert = codes "-v"
flag_text NullData = codes "--null-data"
flag_text Longest = codes "--longest"
flag_text First = codes "--first"
flag_text Overlapping = codes "--overlapping"
flag_text Values = codes "--values"
flag_text Help = codes "--help"
flag_text Version = codes "--version"

-- all flags
abbrev pub flags : List Flag
flags = WithName ∷ NoName ∷ OnlyMatches ∷ Places ∷ Numbers ∷ Count ∷ FileNames ∷ Quiet ∷ IgnoreCase ∷ Invert ∷ NullData ∷ Longest ∷ First ∷ Overlapping ∷ Values ∷ Help ∷ Version ∷ []

-- the flag that is written so, if any
abbrev pub flag_of : List ℕ → Option Flag
flag_of text = find (λ flag. same_text (flag_text flag) text) flags

-- the place of a flag among all of them
abbrev pub flag_place : Flag → ℕ
flag_place WithName = 0
flag_place NoName = 1
flag_place OnlyMatches = 2
flag_place Places = 3
flag_place Numbers = 4
flag_place Count = 5
flag_place FileNames = 6
flag_place Quiet = 7
flag_place IgnoreCase = 8
flag_place Invert = 9
flag_place NullData = 10
flag_place Longest = 11
flag_place First = 12
flag_place Overlapping = 13
flag_place Values = 14
flag_place Help = 15
flag_place Version = 16

-- the flag is one of these
abbrev pub asks : Flag → List Flag → Bool
asks flag flags = list_any (λ f. flag_place f == flag_place flag) flags
