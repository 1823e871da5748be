-- One unit is taken, and the source may be read on behind it.
use Rattle.std.proofs.Common.{◌∷◌, [], length, refl, sym, ap, ◌∙◌, subst, append-nil, arith}
use Rattle.daachorse_model.specs.Units.{size}
use Rattle.daachorse_haystack.proofs.SourceLaws.{IsReady-next}
use Rattle.daachorse_haystack.specs.Sources.{IsReady}
use Rattle.daachorse_streams.proofs.ReadingLaws.{may_read_more, ready_as_it_is}
use Rattle.daachorse_streams.proofs.block_source.consume_one.Given as given
use Rattle.daachorse_streams.proofs.block_source.consume_one.Goals as goal
use Rattle.daachorse_streams.proofs.block_source.consume_one.Goals.{In-Some}

ready : (g : given.Over) (c : In-Some g) → IsReady g.S.Iterator.can_next g.S.Iterator.next_gives g.S.Iterator.remaining g.U.EdgeLabel.unit g.U.EdgeLabel.width c.args.source (size g.U.EdgeLabel.width c.args.stream.now.read)
ready g c =
    let S = g.S.Iterator in let s = c.args.stream.now in
    ready_as_it_is S.can_next S.next_gives S.remaining g.U.EdgeLabel.unit g.U.EdgeLabel.width g.met.U.AsciiFold.as_wide g.S.Source.may_read g.met.S.Source.ready s.folds c.args.source s.read c.requires.may.1

pub consume-requires-clause-fits : goal.consume-requires-clause-fits
consume-requires-clause-fits g c =
    let S = g.S.Iterator in let width = g.U.EdgeLabel.width in
    IsReady-next S.can_next S.next_gives S.remaining g.U.EdgeLabel.unit width c.args.source c.in-Some.unit c.next.new.self (size width c.args.stream.now.read) (ready g (goal.at.consume-requires-clause-fits g c).In-Some)
    c.in-Some.ensures.steps c.in-Some.ensures.goes

pub returns-clause-advances : goal.returns-clause-advances
returns-clause-advances g c =
    let unit = c.in-Some.unit in let form = g.U.EdgeLabel.form unit in let now = c.consume.ensures in
    record {
      units = unit ∷ [];
      some = omega arith;
      took = (c.next.new.self, c.in-Some.ensures.steps, refl);
      fewer = let on = c.in-Some.ensures.goes.on (ready g (goal.at.returns-clause-advances g c).In-Some).ends in omega (arith, on.2);
      consumed = record { automaton = now.automaton; folds = now.folds; read = now.read; given = now.given; ended = now.ended ∙ sym c.requires.may.0 };
      sized = omega (arith, g.met.U.EdgeLabel.sized unit c.in_range.ensures, ap length (append-nil form));
      clear = λ more. absurd (omega (arith, more));
      kept = subst (λ w. g.K.Keep.keeps c.args.kept.now w c.keep_unit.new.self) (sym (append-nil form)) c.in_ok-keep_unit.ensures;
    }

pub returns-clause-may : goal.returns-clause-may
returns-clause-may g c taken =
    let S = g.S.Iterator in let s = c.args.stream.now in let now = c.consume.ensures in (
      now.ended,
      may_read_more S.can_next S.next_gives S.remaining g.U.EdgeLabel.unit g.U.EdgeLabel.width g.met.U.AsciiFold.as_wide g.S.Source.may_read g.met.S.Source.ready s.folds c.args.source s.read c.requires.may.1 g.met.S.Source.kept
          c.in-Some.unit c.next.new.self c.in-Some.ensures.steps c.in-Some.ensures.goes c.consume.new.self.folds now.folds c.consume.new.self.read now.read,
    )
