-- The stream saves a stepper that has reported nothing.
use Rattle.std.proofs.Common.{refl}
use Rattle.daachorse_c.specs.declared.unit.Unit.TheVariants.{Character}
use Rattle.daachorse_c.proofs.Behind.{wide}
use Rattle.daachorse_c.proofs.Fed.{partial_none}
use Rattle.daachorse_c.proofs.Saving.{saved-goes_on}
use Rattle.daachorse_c.proofs.character_streams.begin_characters.Goals as goal

pub returns-clause-goes_on : goal.returns-clause-goes_on
returns-clause-goes_on c =
    let partial = c.in_ok-stepper.ensures.ok in let stood = c.into_standing.ensures in
    saved-goes_on (wide Character)
    (record {
      count = refl;
      over = partial.over;
      folds = partial.folds;
      kind = partial.search;
      end = partial.unended;
      reports = partial.reported;
      stands = stood.stands;
      search = stood.search;
      read = stood.read;
      unended = stood.unended;
      reported = stood.reported;
    })
    Character _ c.requires c.in_ok-marks.ensures.ok (rw c.none.ensures (partial_none Character)) (λ ended. c.none.ensures)
