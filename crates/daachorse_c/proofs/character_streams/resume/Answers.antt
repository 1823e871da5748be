-- What was reported stays reported, also at the end.
use Rattle.std.proofs.Common.{◌≡◌, false, true, sym, ◌∙◌, subst}
use Rattle.daachorse_model.specs.Units.{char_width}
use Rattle.daachorse_charwise_states.specs.Valid.{sees}
use Rattle.daachorse_c.specs.declared.unit.Unit.TheVariants.{Character}
use Rattle.daachorse_c.specs.Streams.{HasGiven}
use Rattle.daachorse_c.proofs.Behind.{wide}
use Rattle.daachorse_c.proofs.Steppers.{find-resumed, leftmost-kept}
use Rattle.daachorse_c.proofs.character_streams.resume.Goals as goal
use Rattle.daachorse_c.proofs.character_streams.resume.Goals.{then-ended, else-ended}

pub returns-in-Find-clause-reported : goal.returns-in-Find-clause-reported
returns-in-Find-clause-reported c = let resumed = c.resume.ensures in rw c.in-Find.is (find-resumed char_width (wide Character) sees c.resume.result (resumed.automaton ∙ c.standard.ensures) resumed.read resumed.reported)

pub returns-after-ended-clause-reported : goal.returns-after-ended-clause-reported
returns-after-ended-clause-reported c =
    let resumed = c.resume_leftmost_stream-stream in
    rw c.in-Leftmost.is
    (λ reported has. let given = subst (λ s. HasGiven char_width sees s reported) (sym resumed.ensures) has in elim c.if-ended.branch [
      | then-ended w ↦
          let end = w.end.ensures in
          rw w.stream-is (leftmost-kept char_width sees resumed.result w.end.new.self end.automaton reported given end.read end.given (λ unended. let no : true ≡ false = sym end.ended ∙ unended in cc))
      | else-ended w ↦ rw w.stream-is given
    ])
