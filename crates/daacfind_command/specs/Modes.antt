-- What each mode is called, and what it finds.
use Rattle.std.specs.Prelude.{ℕ, List, codes}
use Rattle.daachorse_model.specs.declared.Match.{Match}
use Rattle.daachorse_model.specs.declared.MatchKind.{MatchKind}
use Rattle.daachorse_model.specs.declared.MatchKind.TheVariants.{Standard, LeftmostLongest, LeftmostFirst}
use Rattle.daachorse_model.specs.Units.{byte_width}
use Rattle.daachorse_model.specs.Dictionary.{Dictionary, dictionary}
use Rattle.daachorse_model.specs.Leftmost.{leftmost}
use Rattle.daachorse_model.specs.Matches.{no_suffix, overlapping, standard}
use Rattle.daachorse_model.specs.Program.{pattern_lines, with_numbers, match_text}
use Rattle.daacfind_command.specs.declared.mode.Mode.{Mode}
use Rattle.daacfind_command.specs.declared.mode.Mode.TheVariants.{Overlapping, NoSuffix, Find, Longest, First}

-- the word that names a mode
abbrev pub mode_word : Mode → List ℕ
mode_word Overlapping = codes "overlapping"
mode_word NoSuffix = codes "nosuffix"
mode_word Find = codes "find"
mode_word Longest = codes "longest"
mode_word First = codes "first"

-- the kind of searches that a mode asks for
abbrev pub kind_of_mode : Mode → MatchKind
kind_of_mode Overlapping = Standard
kind_of_mode NoSuffix = Standard
kind_of_mode Find = Standard
kind_of_mode Longest = LeftmostLongest
kind_of_mode First = LeftmostFirst

-- what a mode finds in a haystack, for a dictionary K
abbrev pub found_by : Mode → Dictionary ℕ → List ℕ → List (Match ℕ)
found_by Overlapping K haystack = overlapping byte_width K haystack
found_by NoSuffix K haystack = no_suffix byte_width K haystack
found_by Find K haystack = standard byte_width K haystack
found_by Longest K haystack = leftmost byte_width K haystack
found_by First K haystack = leftmost byte_width K haystack

-- what is written of it, where the dictionary has the lines of a pattern file, each with its number
abbrev pub text_of_mode : Mode → List ℕ → List ℕ → List ℕ
text_of_mode mode patterns haystack =
    match_text (found_by mode (dictionary (kind_of_mode mode) (with_numbers 0 (pattern_lines patterns))) haystack)
