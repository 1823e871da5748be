-- What was reported before stays.
use Rattle.std.proofs.Common.{false, refl, subst}
use Rattle.daachorse_c.specs.Streams.{IsQuiet, KnowsEnd}
use Rattle.daachorse_c.proofs.Steppers.{all-consumed, find-consumed, leftmost-consumed}
use Rattle.daachorse_c.proofs.stepper.Stepper.consume.Goals as goal

pub returns-in-Find-clause-reported : goal.returns-in-Find-clause-reported
returns-in-Find-clause-reported g c =
    let quiet = subst (IsQuiet g.S.Unit.EdgeLabel.width g.S.Automaton.sees g.L.Automaton.sees) c.in-Find.is c.requires.quiet in let f = c.in-Find.finder in let consumed = c.consume.ensures in
    rw c.in-Find.is (find-consumed g.S.Unit.EdgeLabel.width g.met.S.Unit.EdgeLabel.wide g.S.Automaton.sees f (record { stepper = c.consume.new.self; reported = false }) f.stepper.folds (g.S.Unit.EdgeLabel.unit c.args.unit) consumed.automaton consumed.read refl quiet)

pub returns-in-Overlapping-clause-reported : goal.returns-in-Overlapping-clause-reported
returns-in-Overlapping-clause-reported g c =
    let quiet = subst (IsQuiet g.S.Unit.EdgeLabel.width g.S.Automaton.sees g.L.Automaton.sees) c.in-Overlapping.is c.requires.quiet in let s = c.in-Overlapping.stepper in let consumed = c.consume-in-Overlapping.ensures in
    rw c.in-Overlapping.is (all-consumed g.S.Unit.EdgeLabel.width g.met.S.Unit.EdgeLabel.wide g.S.Automaton.sees s c.consume-in-Overlapping.new.self s.folds (g.S.Unit.EdgeLabel.unit c.args.unit) consumed.automaton consumed.longest_only consumed.read consumed.left quiet)

pub returns-in-Leftmost-clause-reported : goal.returns-in-Leftmost-clause-reported
returns-in-Leftmost-clause-reported g c =
    let unended = subst (KnowsEnd false) c.in-Leftmost.is c.requires.unended in let s = c.in-Leftmost.stream in let consumed = c.consume-in-Leftmost.ensures in
    rw c.in-Leftmost.is (λ reported has. leftmost-consumed g.S.Unit.EdgeLabel.width g.L.Automaton.sees s c.consume-in-Leftmost.new.self consumed.automaton reported has _ consumed.read consumed.given unended)
