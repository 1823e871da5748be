-- Row after row gets the ends of its steps; where one end finds no room, the states so near the root are too many.
use Rattle.std.proofs.Common.{◌≡◌, ◌+◌, ◌<◌, length, sym, arith}
use Rattle.std.proofs.lemmas.Bool.{false≢true}
use Rattle.daachorse_rows.specs.Rows.{labelled}
use Rattle.daachorse_rows.proofs.ShallowLaws.{AreAdded-none, AreAdded-through, AreStepped-fewer, AreStepped-none}
use Rattle.daachorse_rows.proofs.making.Maker.choose_next.Goals as goal

pub loop-at-init : goal.loop-at-init
loop-at-init g c =
    let seen = labelled g.A.Automaton.sees g.A.Automaton.labels g.A.Label.RowLabel.number c.args.self.now in
    record {
      added = AreAdded-none seen 0 c.args.chosen.now.order.items c.args.chosen.now.homes.items c.requires.chosen;
      stepped = AreStepped-none seen c.args.chosen.now.order.items c.requires.root;
    }

pub loop-at-preserved : goal.loop-at-preserved
loop-at-preserved g c =
    let seen = labelled g.A.Automaton.sees g.A.Automaton.labels g.A.Label.RowLabel.number c.args.self.now in let at = c.loop-at.at in
    record {
      added = AreAdded-through seen (at + 1) at (at + 1) _ _ _ _ _ (omega arith) (omega arith) c.loop-at.invariant.added c.in_ok-choose_ends.ensures.added;
      stepped = c.in_ok-choose_ends.ensures.stepped c.if-not-branch.false;
    }

pub choose_ends-requires : goal.choose_ends-requires
choose_ends-requires g c = record {
  chosen = c.loop-at.invariant.added.chosen;
  at = omega (arith, c.loop-at-test.true, c.loop-at.auto.at-end, c.len-at-end.ensures, c.args.chosen.now.order.ok.0, c.loop-at.invariant.added.on.more);
  stepped = c.loop-at.invariant.stepped;
}

pub returns-then-not-branch : goal.returns-then-not-branch
returns-then-not-branch g c =
    let seen = labelled g.A.Automaton.sees g.A.Automaton.labels g.A.Label.RowLabel.number c.args.self.now in let old = c.args.chosen.now.order.items in let at = c.loop-at.at in
    let inside : at < length old = omega (arith, c.loop-at-test.true, c.loop-at.auto.at-end, c.len-at-end.ensures, c.args.chosen.now.order.ok.0) in
    let made = c.in_ok-choose_ends.ensures in let kept = c.loop-at.invariant in
    record {
      added = AreAdded-through seen (length old) at (at + 1) _ _ _ _ _ (omega (arith, inside)) (omega (arith, inside)) kept.added made.added;
      stepped = λ e. absurd (false≢true e);
      full = λ _ d m less near. made.full c.if-not-branch.true d m (omega (arith, less, inside)) (kept.added.near d m (omega (arith, less, inside)) near);
    }

pub returns : goal.returns
returns g c =
    let seen = labelled g.A.Automaton.sees g.A.Automaton.labels g.A.Label.RowLabel.number c.args.self.now in
    let old = c.args.chosen.now.order.items in let kept = c.loop-at.invariant in
    let all : c.loop-at.at ≡ length old = omega (arith, c.loop-at-test.false, c.loop-at.auto.at-end, c.len-at-end.ensures, c.args.chosen.now.order.ok.0) in
    record {
      added = AreAdded-through seen (length old) c.loop-at.at 0 _ _ _ _ _ (omega (arith, all)) (omega arith) kept.added (AreAdded-none seen 0 _ _ kept.added.chosen);
      stepped = λ _. AreStepped-fewer seen (length old) c.loop-at.at _ (omega (arith, all)) kept.stepped;
      full = λ e. absurd (false≢true (sym e));
    }
