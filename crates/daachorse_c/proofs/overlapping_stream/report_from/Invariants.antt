-- What is reported so far, and what is left.
use Rattle.std.proofs.Common.{◌≡◌, length, Option}
use Rattle.std.specs.declared.num.NonZeroU32.{NonZeroU32}
use Rattle.daachorse_core.specs.Outputs.{number}
use Rattle.daachorse_search.specs.Walks.{HasPlace, matches_from}
use Rattle.daachorse_c.specs.OverlappingStreams.{all_or_first}
use Rattle.daachorse_c.proofs.Reported.{Reported}
use Rattle.daachorse_c.proofs.overlapping_stream.report_from.Given as goal

abbrev pub invariant-loop-next : goal.invariant-loop-next
invariant-loop-next g l =
    let from = λ (o : Option NonZeroU32). all_or_first l.fn.first_only (matches_from g.A.Unit.EdgeLabel.width (g.A.Automaton.sees l.walk.automaton) l.walk.seen (number o)) in record {
      long : length l.out ≡ length l.fn.out;
      place : HasPlace g.A.Unit.EdgeLabel.width (g.A.Automaton.sees l.walk.automaton) l.walk.seen (number l.next);
      reported : Reported (from l.fn.next) (from l.next) l.fn.out l.out l.written;
    }

abbrev pub decreases-loop-next : goal.decreases-loop-next
decreases-loop-next g l = length (all_or_first l.fn.first_only (matches_from g.A.Unit.EdgeLabel.width (g.A.Automaton.sees l.walk.automaton) l.walk.seen (number l.next)))
