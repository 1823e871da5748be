-- Each match that is given is written after those before it.
use Rattle.std.proofs.Common.{◌<◌, [], ◌∷◌, ◌++◌, length, refl, sym, ◌∙◌, subst, append-nil, arith}
use Rattle.std.proofs.lemmas.List.{length-set}
use Rattle.daachorse_c.specs.Streams.{HasGiven}
use Rattle.daachorse_c.proofs.Steppers.{leftmost-given, leftmost-kept}
use Rattle.daachorse_c.proofs.Reporting.{written_none, written_one}
use Rattle.daachorse_c.proofs.stepper.report_certain.Goals as goal

pub loop-written-init : goal.loop-written-init
loop-written-init g c = record {
  same = (refl, refl, refl, refl);
  long = refl;
  room = omega arith;
  reported = λ reported has. record { more = []; reported = subst (HasGiven g.L.Unit.EdgeLabel.width g.L.Automaton.sees c.args.stream.now) (sym (append-nil reported)) has; writes = written_none c.args.out.now };
}

pub loop-written-preserved : goal.loop-written-preserved
loop-written-preserved g c =
    let was = c.loop-written.invariant in let same = c.next_certain.ensures.same in let m = c.in-Some.found in
    let lt : c.loop-written.written < length c.args.out.now = omega (arith, was.long, c.loop-written-test.true) in
    record {
      same = (same.0 ∙ was.same.0, same.1 ∙ was.same.1, same.2 ∙ was.same.2, same.3 ∙ was.same.3);
      long = length-set _ _ _ ∙ was.long;
      room = omega (arith, lt);
      reported = λ reported has. let reports = was.reported reported has in record {
        more = reports.more ++ m ∷ [];
        reported = leftmost-given g.L.Unit.EdgeLabel.width g.L.Automaton.sees c.loop-written.stream c.next_certain.new.self reported reports.more m reports.reported c.in-Some.ensures.gives c.next_certain.ensures.begins c.next_certain.ensures.first;
        writes = rw c.of.ensures (written_one m reports.writes lt);
      };
    }

pub returns-in_default-clause-reported : goal.returns-in_default-clause-reported
returns-in_default-clause-reported g c =
    let was = c.loop-written.invariant in let same = c.next_certain.ensures.same in let settled = c.in_default.ensures.gives in
    λ reported has. let reports = was.reported reported has in record {
      more = reports.more;
      reported = leftmost-kept g.L.Unit.EdgeLabel.width g.L.Automaton.sees c.loop-written.stream c.next_certain.new.self same.0 _ reports.reported same.2 settled.same (λ unended. sym same.3 ∙ unended);
      writes = reports.writes;
    }

pub returns-in_default-clause-settled : goal.returns-in_default-clause-settled
returns-in_default-clause-settled g c = let settled = c.in_default.ensures.gives in λ lt. record { same = refl; quiet = settled.quiet; certain = settled.certain; all = settled.all }

pub returns-in_default-clause-same : goal.returns-in_default-clause-same
returns-in_default-clause-same g c = let was = c.loop-written.invariant.same in let same = c.next_certain.ensures.same in (same.0 ∙ was.0, same.1 ∙ was.1, same.2 ∙ was.2, same.3 ∙ was.3)
