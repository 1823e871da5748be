-- The matches are those of the kind's search.
use Rattle.std.proofs.Common.{sym}
use Rattle.daachorse.proofs.automaton.AhoCorasick.replace_all_with.Goals as goal

pub returns : goal.returns
returns g c = rw (sym c.matches_by_kind-matches.ensures.left) (record { whole = c.replace_with.ensures.whole; beginning = c.replace_with.ensures.beginning })
