-- A round that gives nothing takes off units in which no match to give starts, so the matches left stay those of the beginning of the call; the rest grows shorter, or the search is over.
use Rattle.std.proofs.Common.{◌≡◌, ℕ, ◌+◌, cond, List, length}
use Rattle.daachorse_search.specs.LeftmostSearches.{place_at, Spans, IsResting, leftmost_left}
use Rattle.daachorse_search.proofs.leftmost.LeftmostMatches.next_match.Given as goal

abbrev pub invariant-scans : goal.invariant-scans
invariant-scans g l =
    let A = g.A.Automaton in let F = g.F.Filter in let width = g.A.Unit.EdgeLabel.width in let rest = g.H.Haystack.rest in let s = l.self-inside in let a = s.automaton in let first = s.first_filter.value in
    record {
      same : (w : List ℕ) → F.passes s.filter w ≡ F.passes first w;
      resting : IsResting width (A.sees a) (F.passes first) (F.opened first) (F.opened s.filter) (rest s.whole.value) (rest s.rest) (place_at width s.size (rest s.rest)) s.after s.done s.turns s.seen.given;
      left : leftmost_left width (A.sees a).content (place_at width s.size (rest s.rest)) (rest s.rest) s.after s.done ≡ l.fn.self.left;
      spans : Spans width s.size (rest s.whole.value);
      automaton : a ≡ l.fn.self.automaton;
      filter : first ≡ l.fn.self.filter;
      haystack : rest s.whole.value ≡ l.fn.self.haystack;
      given : s.seen.given ≡ l.fn.self.given;
    }

abbrev pub decreases-scans : goal.decreases-scans
decreases-scans g l = length (g.H.Haystack.rest l.self-inside.rest) + cond l.self-inside.done 0 1
