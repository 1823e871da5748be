-- A step ends at a state at most one unit deeper, which has a row or gets the next one; where there is none left, that state and those with rows are too many.
use Rattle.std.proofs.Common.{◌≡◌, ◌+◌, ◌<◌, ℕ, length, subst, sym, ap, arith}
use Rattle.std.specs.Prelude.{slice_set}
use Rattle.std.proofs.lemmas.Bool.{false≢true}
use Rattle.std.proofs.lemmas.Option.{MatchOption-at_none, MatchOption-at_some}
use Rattle.std.proofs.lemmas.List.{length-map}
use Rattle.daachorse_rows.specs.Rows.{labelled, most_rows}
use Rattle.daachorse_rows.proofs.ShallowLaws.{AreAdded-none, AreAdded-push, AreStepped-more, AreStepped-on, AreTooMany-next, GoesOn-push, Row, Row-more, Row-none, Row-push}
use Rattle.daachorse_rows.proofs.making.Maker.choose_ends.Goals.{in-Some+else-len-most+in_ok-push, in_default}
use Rattle.daachorse_rows.proofs.making.Maker.choose_ends.Goals as goal

pub loop-k-init : goal.loop-k-init
loop-k-init g c =
    let seen = labelled g.A.Automaton.sees g.A.Automaton.labels g.A.Label.RowLabel.number c.args.self.now in
    let order = c.args.chosen.now.order.items in let homes = c.args.chosen.now.homes.items in
    record { added = AreAdded-none seen (c.args.at + 1) order homes c.requires.chosen; stepped = c.requires.stepped; row = Row-none seen c.args.at order }

-- what a step gives, whether its end had a row or gets one
pub loop-k-preserved : goal.loop-k-preserved
loop-k-preserved g c =
    let seen = labelled g.A.Automaton.sees g.A.Automaton.labels g.A.Label.RowLabel.number c.args.self.now in let at = c.args.at in let k = c.loop-k.k in
    let old = c.args.chosen.now.order.items in let order = c.loop-k.chosen.order.items in let homes = c.loop-k.chosen.homes.items in let kept = c.loop-k.invariant in
    let listed : k < length seen.labels = rw (← c.self.view_is) (omega (arith, c.loop-k-test.true, c.loop-k.auto.k-end, length-map c.self.inside.labels.now g.A.Label.RowLabel.number)) in
    let inside : at < length order = omega (arith, c.requires.at, kept.added.on.more) in
    elim c.match-end_outside.branch [
      | in-Some+else-len-most+in_ok-push w ↦
          let order' = w.push.new.self.items in let next = w.in-Some.next in let is = w.in_ok-push.ensures.items in
          let found = MatchOption-at_some _ _ next w.in-Some.is c.end_outside.ensures in
          let e : w.len-in-Some.result ≡ length order = omega (arith, w.len-in-Some.ensures, c.loop-k.chosen.order.ok.0) in
          let room : length order < most_rows seen = rw (← c.self.view_is) (omega (arith, w.if-len-most.false, w.len.ensures, c.loop-k.chosen.order.ok.0, (rw (← c.self.view_is) at kept.added.chosen.few))) in
          rw w.chosen-is (record {
            added = AreAdded-push seen (rw (← c.self.view_is) c.self.invariant) at k listed old order homes kept.added next found.0 found.1 order' _ is (ap (λ (n : ℕ). slice_set homes next n) e) room;
            stepped = AreStepped-on seen at order order' (GoesOn-push order order' next is) (omega (arith, inside)) kept.stepped;
            row = Row-push seen (rw (← c.self.view_is) c.self.invariant) at k listed old order homes kept.added next found.0 found.1 order' is inside kept.row;
          })
      | in_default w ↦ rw w.chosen-is (record { added = kept.added; stepped = kept.stepped; row = Row-more seen at k order kept.row (MatchOption-at_none _ _ w.in_default.is c.end_outside.ensures) })
    ]

pub end_outside-requires : goal.end_outside-requires
end_outside-requires g c = record {
  chosen = c.loop-k.invariant.added.chosen;
  at = omega (arith, c.requires.at, c.loop-k.invariant.added.on.more);
  k = rw (← c.self.view_is) (omega (arith, c.loop-k-test.true, c.loop-k.auto.k-end, length-map c.self.inside.labels.now g.A.Label.RowLabel.number));
  stepped = c.loop-k.invariant.stepped;
}

pub returns-then-len-most : goal.returns-then-len-most
returns-then-len-most g c = record {
  added = c.loop-k.invariant.added;
  stepped = λ e. absurd (false≢true e);
  full = λ _.
      let seen = labelled g.A.Automaton.sees g.A.Automaton.labels g.A.Label.RowLabel.number c.args.self.now in let order = c.loop-k.chosen.order.items in
      let listed : c.loop-k.k < length seen.labels = rw (← c.self.view_is) (omega (arith, c.loop-k-test.true, c.loop-k.auto.k-end, length-map c.self.inside.labels.now g.A.Label.RowLabel.number)) in
      let found = MatchOption-at_some _ _ c.in-Some.next c.in-Some.is c.end_outside.ensures in
      let full : length order ≡ most_rows seen = rw (← c.self.view_is) (omega (arith, c.if-len-most.true, c.len.ensures, c.loop-k.chosen.order.ok.0)) in
      AreTooMany-next seen (rw (← c.self.view_is) c.self.invariant) c.args.at c.loop-k.k listed c.args.chosen.now.order.items order c.loop-k.chosen.homes.items c.loop-k.invariant.added c.in-Some.next found.0 found.1 full;
}

pub returns : goal.returns
returns g c =
    let seen = labelled g.A.Automaton.sees g.A.Automaton.labels g.A.Label.RowLabel.number c.args.self.now in let order = c.loop-k.chosen.order.items in
    let all : c.loop-k.k ≡ length seen.labels = rw (← c.self.view_is) (omega (arith, c.loop-k-test.false, c.loop-k.auto.k-end, length-map c.self.inside.labels.now g.A.Label.RowLabel.number)) in
    let P : ℕ → Type 0 = λ n. Row seen c.args.at n order in
    record {
      added = c.loop-k.invariant.added;
      stepped = λ _. AreStepped-more seen c.args.at order c.loop-k.invariant.stepped (subst P all c.loop-k.invariant.row);
      full = λ e. absurd (false≢true (sym e));
    }

pub index_mut-requires : goal.index_mut-requires
index_mut-requires g c =
    let found = MatchOption-at_some _ _ c.in-Some.next c.in-Some.is c.end_outside.ensures in
    omega (arith, c.loop-k.invariant.added.chosen.inside c.in-Some.next found.0.is_state, c.loop-k.chosen.homes.ok.0)

pub overflow_cast-len : goal.overflow_cast-len
overflow_cast-len g c = let chosen = c.loop-k.invariant.added.chosen in omega (arith, c.len-in-Some.ensures, c.loop-k.chosen.order.ok.0, chosen.few, chosen.room)
