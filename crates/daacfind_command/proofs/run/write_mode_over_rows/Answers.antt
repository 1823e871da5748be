-- The mode's iterator over rows gives what the mode finds.
use Rattle.daachorse.specs.LeftmostSearches.{StandsBehind}
use Rattle.daachorse.specs.Matches.{StandsAtEnd}
use Rattle.daachorse_model.specs.Units.{byte_width}
use Rattle.daacfind_command.specs.declared.mode.Mode.TheVariants.{Overlapping, NoSuffix, Find, Longest, First}
use Rattle.daacfind_command.proofs.Finds.{written_by}
use Rattle.daacfind_command.proofs.run.write_mode_over_rows.Goals as goal

pub returns-in-Overlapping : goal.returns-in-Overlapping
returns-in-Overlapping g c =
    let e = c.write_matches.ensures in written_by (StandsAtEnd byte_width) c.find_overlapping_iter.result _ _ _ _ _ Overlapping
    c.args.mode _ _ c.in-Overlapping.is c.find_overlapping_iter.ensures.begins.left e.whole e.unfailed e.beginning e.failed

pub returns-in-NoSuffix : goal.returns-in-NoSuffix
returns-in-NoSuffix g c =
    let e = c.write_matches-in-NoSuffix.ensures in
    written_by (StandsAtEnd byte_width) c.find_overlapping_no_suffix_iter.result _ _ _ _ _ NoSuffix c.args.mode _ _
    c.in-NoSuffix.is c.find_overlapping_no_suffix_iter.ensures.begins.left e.whole e.unfailed e.beginning e.failed

pub returns-in-Find : goal.returns-in-Find
returns-in-Find g c =
    let e = c.write_matches-in-Find.ensures in
    written_by (StandsAtEnd byte_width) c.find_iter.result _ _ _ _ _ Find c.args.mode _ _ c.in-Find.is
    c.find_iter.ensures.begins.left e.whole e.unfailed e.beginning e.failed

pub returns-in-Longest : goal.returns-in-Longest
returns-in-Longest g c =
    let e = c.write_matches-in-Longest.ensures in
    written_by (StandsBehind byte_width) c.leftmost_find_iter.result _ _ _ _ _ Longest c.args.mode _ _ c.in-Longest.is
    c.leftmost_find_iter.ensures.begins.left e.whole e.unfailed e.beginning e.failed

pub returns-in-First : goal.returns-in-First
returns-in-First g c =
    let e = c.write_matches-in-First.ensures in
    written_by (StandsBehind byte_width) c.leftmost_find_iter-in-First.result _ _ _ _ _ First c.args.mode _ _ c.in-First.is
    c.leftmost_find_iter-in-First.ensures.begins.left e.whole e.unfailed e.beginning e.failed
