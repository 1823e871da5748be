-- What was reported of leftmost matches is what was given.
use Rattle.daachorse_c.proofs.stepper.Stepper.report.Goals as goal

pub returns-in-Leftmost-clause-reported : goal.returns-in-Leftmost-clause-reported
returns-in-Leftmost-clause-reported g c = rw c.in-Leftmost.is (λ reported has. let reports = c.report_certain.ensures.reported reported has in record { more = reports.more; reported = reports.reported; writes = reports.writes })
