-- Each row's steps end in rows, one row after the other, or there are too many states.
use Rattle.std.proofs.Common.{◌+◌, ◌<◌, inl, inr, length, arith}
use Rattle.daachorse_rows.specs.Rows.{labelled}
use Rattle.daachorse_rows.proofs.ShallowLaws.{AreNear-all, AreStepped-fewer, GoesOn-same, GoesOn-through}
use Rattle.daachorse_rows.proofs.making.Maker.choose_rest.Goals as goal

pub loop-at-init : goal.loop-at-init
loop-at-init g c = record { chosen = c.requires.chosen; on = GoesOn-same c.args.chosen.now.order.items; shallow = λ n shallow. (n, shallow); stepped = c.requires.stepped }

pub loop-at-preserved : goal.loop-at-preserved
loop-at-preserved g c =
    let seen = labelled g.A.Automaton.sees g.A.Automaton.labels g.A.Label.RowLabel.number c.args.self.now in let now = c.loop-at.chosen.order.items in
    let inside : c.loop-at.at < length now = omega (arith, c.loop-at-test.true, c.len.ensures, c.loop-at.chosen.order.ok.0) in
    let made = c.in_ok-choose_ends.ensures in let kept = c.loop-at.invariant in
    record {
      chosen = made.added.chosen;
      on = GoesOn-through c.args.chosen.now.order.items now c.choose_ends.new.chosen.order.items kept.on made.added.on;
      shallow = λ n shallow. let all = kept.shallow n shallow in (all.0 + 1, (made.added.near all.0 (length now) (omega (arith, inside)) (AreNear-all seen all.0 now all.1)).all);
      stepped = made.stepped c.if-not-branch.false;
    }

pub choose_ends-requires : goal.choose_ends-requires
choose_ends-requires g c = record {
  chosen = c.loop-at.invariant.chosen;
  at = omega (arith, c.loop-at-test.true, c.len.ensures, c.loop-at.chosen.order.ok.0);
  stepped = c.loop-at.invariant.stepped;
}

pub returns-then-not-branch : goal.returns-then-not-branch
returns-then-not-branch g c =
    let seen = labelled g.A.Automaton.sees g.A.Automaton.labels g.A.Label.RowLabel.number c.args.self.now in let now = c.loop-at.chosen.order.items in
    let inside : c.loop-at.at < length now = omega (arith, c.loop-at-test.true, c.len.ensures, c.loop-at.chosen.order.ok.0) in
    let made = c.in_ok-choose_ends.ensures in let kept = c.loop-at.invariant in
    record {
      chosen = (made.added.chosen, GoesOn-through c.args.chosen.now.order.items now c.choose_ends.new.chosen.order.items kept.on made.added.on);
      ends = λ n shallow. let all = kept.shallow n shallow in
          inr (all.0 + 1, made.full c.if-not-branch.true all.0 (length now) (omega (arith, inside)) (AreNear-all seen all.0 now all.1));
    }

pub returns : goal.returns
returns g c =
    let seen = labelled g.A.Automaton.sees g.A.Automaton.labels g.A.Label.RowLabel.number c.args.self.now in let now = c.loop-at.chosen.order.items in
    record {
      chosen = (c.loop-at.invariant.chosen, c.loop-at.invariant.on);
      ends = λ n shallow. inl (AreStepped-fewer seen (length now) c.loop-at.at now
          (omega (arith, c.loop-at-test.false, c.len.ensures, c.loop-at.chosen.order.ok.0)) c.loop-at.invariant.stepped);
    }
