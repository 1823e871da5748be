-- A search begins with a scan of nothing, and with room for as many units as the longest key has.
use Rattle.std.proofs.Common.{◌≡◌, max, sym, ◌∙◌, subst, arith}
use Rattle.daachorse_search.specs.Views.{HasMarks}
use Rattle.daachorse_streams.proofs.StreamLaws.{begun}
use Rattle.daachorse_streams.proofs.leftmost_stream.LeftmostStream.new.Goals as goal
use Rattle.daachorse_streams.proofs.leftmost_stream.LeftmostStream.new.Goals.{then-longest-eq0, else-longest-eq0}

pub invariant_of-result : goal.invariant_of-result
invariant_of-result g c =
    let unit = g.A.Unit.EdgeLabel in let made = c.in_ok-ring in let wide = g.met.A.Unit.EdgeLabel.wide in
    let longest = c.args.marks.now.longest in
    let room : c.if-longest-eq0.room ≡ max longest 1 = elim c.if-longest-eq0.branch [
      | then-longest-eq0 w ↦ omega (arith, w.room-is, w.if-longest-eq0.true)
      | else-longest-eq0 w ↦ omega (arith, w.room-is, w.if-longest-eq0.false)
    ] in (
      subst (λ marks. HasMarks (g.A.Automaton.sees c.args.automaton) marks) (sym c.deref-marks.ensures.value) c.requires.marks.children,
      begun unit.width wide (g.A.Automaton.sees c.args.automaton) unit.unit c.requires.kind made.ring made.ensures.items
          (longest, c.requires.marks.longest, made.ensures.exact ∙ room)
          c.begin-scan.result c.begin-scan.ensures c.new.result c.new.ensures c.new-2.result c.new-2.ensures,
    )
