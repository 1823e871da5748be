-- The search's iterator gives what the search finds, over rows too.
use Rattle.std.proofs.Common.{◌≡◌}
use Rattle.std.proofs.lemmas.Iterator.Consumers.{YieldsList-from_first}
use Rattle.std.specs.Str.{chars}
use Rattle.daachorse_model.specs.Folding.{as_read}
use Rattle.daachorse_model.specs.Units.{char_width}
use Rattle.daachorse.specs.charwise.Automata.{dictionary_of}
use Rattle.daachorse_search.specs.Matches.{StandsAtEnd}
use Rattle.daachorse_search.specs.LeftmostSearches.{StandsBehind}
use Rattle.daachorse_search.proofs.MatchesLaws.{YieldsList-from_progress}
use Rattle.daachorse_c.specs.declared.search.SearchKind.TheVariants.{Find, Overlapping, NoSuffix, Leftmost}
use Rattle.daachorse_c.specs.Searches.{found_by}
use Rattle.daachorse_c.proofs.Asked.{found_in}
use Rattle.daachorse_c.proofs.charwise.Charwise.find.Goals as goal

pub returns-in-Plain : goal.returns-in-Plain
returns-in-Plain c =
    rw c.in-Plain.is (c.fill.ensures.written _ (YieldsList-from_progress (StandsAtEnd char_width) _ _ (found_in char_width Find c.args.search _ _ _ c.in-Find.is c.find_iter.ensures.begins.left)).runs)

pub returns-in-Rowed : goal.returns-in-Rowed
returns-in-Rowed c =
    rw c.in-Rowed.is (c.fill-in-Rowed.ensures.written _ (YieldsList-from_progress (StandsAtEnd char_width) _ _ (found_in char_width Find c.args.search _ _ _ c.in-Find.is c.find_iter-in-Rowed.ensures.begins.left)).runs)

pub returns-in-Plain-self : goal.returns-in-Plain-self
returns-in-Plain-self c =
    rw c.in-Plain-self.is (c.fill-in-Plain-self.ensures.written _ (YieldsList-from_progress (StandsAtEnd char_width) _ _ (found_in char_width Overlapping c.args.search _ _ _ c.in-Overlapping.is c.find_overlapping_iter.ensures.begins.left)).runs)

pub returns-in-Rowed-self : goal.returns-in-Rowed-self
returns-in-Rowed-self c =
    rw c.in-Rowed-self.is (c.fill-in-Rowed-self.ensures.written _ (YieldsList-from_progress (StandsAtEnd char_width) _ _ (found_in char_width Overlapping c.args.search _ _ _ c.in-Overlapping.is c.find_overlapping_iter-in-Rowed-self.ensures.begins.left)).runs)

pub returns-in-Plain-self-2 : goal.returns-in-Plain-self-2
returns-in-Plain-self-2 c =
    rw c.in-Plain-self-2.is (c.fill-in-Plain-self-2.ensures.written _ (YieldsList-from_progress (StandsAtEnd char_width) _ _ (found_in char_width NoSuffix c.args.search _ _ _ c.in-NoSuffix.is c.find_overlapping_no_suffix_iter.ensures.begins.left)).runs)

pub returns-in-Rowed-self-2 : goal.returns-in-Rowed-self-2
returns-in-Rowed-self-2 c =
    rw c.in-Rowed-self-2.is (c.fill-in-Rowed-self-2.ensures.written _ (YieldsList-from_progress (StandsAtEnd char_width) _ _ (found_in char_width NoSuffix c.args.search _ _ _ c.in-NoSuffix.is c.find_overlapping_no_suffix_iter-in-Rowed-self-2.ensures.begins.left)).runs)

pub returns-in-Plain-self-3 : goal.returns-in-Plain-self-3
returns-in-Plain-self-3 c =
    let search = c.leftmost_find_iter in let a = c.in-Plain-self-3.plain in
    let all : search.result.left ≡ found_by char_width c.args.search (dictionary_of a) (as_read a.folds (chars c.args.haystack.now)) = found_in char_width Leftmost c.args.search _ _ _ c.in-Leftmost.is search.ensures.begins.left in
    rw c.in-Plain-self-3.is (c.fill-in-Plain-self-3.ensures.written _ (YieldsList-from_progress (StandsBehind char_width) search.result _ all).runs)

pub returns-in-Rowed-self-3 : goal.returns-in-Rowed-self-3
returns-in-Rowed-self-3 c =
    let search = c.leftmost_find_iter-in-Rowed-self-3 in let a = c.in-Rowed-self-3.rowed.automaton in
    let all : search.result.left ≡ found_by char_width c.args.search (dictionary_of a) (as_read a.folds (chars c.args.haystack.now)) = found_in char_width Leftmost c.args.search _ _ _ c.in-Leftmost.is search.ensures.begins.left in
    rw c.in-Rowed-self-3.is (c.fill-in-Rowed-self-3.ensures.written _ (YieldsList-from_progress (StandsBehind char_width) search.result _ all).runs)

pub returns-in-Prefixes : goal.returns-in-Prefixes
returns-in-Prefixes c =
    rw (c.in-Prefixes.is, ← c.automaton-in-Prefixes.ensures) (c.fill-in-Prefixes.ensures.written _ (YieldsList-from_first (λ m. m) (λ s. s) _ c.common_prefixes.ensures).runs)
