-- Each unit that is taken off the block goes into the ring.
use Rattle.std.proofs.Common.{◌≡◌, ◌++◌, ◌∷◌, [], ℕ, List, Option, refl, ap, ◌∙◌, subst, sym, arith}
use Rattle.std.specs.Iterator.{YieldsFirstBy}
use Rattle.daachorse_core.specs.Seen.{SeenUnits}
use Rattle.daachorse_streams.specs.Searching.{Keeps}
use Rattle.daachorse_streams.proofs.PassingLaws.{keeps-more, keeps-none, takes-all, takes-none, takes-one}
use Rattle.daachorse_streams.proofs.search.Search.keep.Goals as goal

pub units-init : goal.units-init
units-init g c = record { room = c.requires.room; takes = λ front back cut spans. ([], record { todo = front; parts = refl; first = cut; spans = spans }, keeps-none g.U.EdgeLabel.unit) }

pub returns-in_default : goal.returns-in_default
returns-in_default g c front back cut spans =
    let rest = g.H.Haystack.rest in
    let Y : Option g.row.U.Denot → Type 0 = λ r. YieldsFirstBy g.U.EdgeLabel.unit rest c.units.block r c.next.new.self in
    let none = subst Y c.in_default.is (g.met.H.Haystack.gives c.units.block c.next.result c.next.new.self c.next.ensures.steps) in
    absurd (takes-none (c.units.invariant.takes front back cut spans).1 c.units-test.true none.0)

pub overflow_sub-left : goal.overflow_sub-left
overflow_sub-left g c =
    let units = c.requires.units in
    (takes-one (c.units.invariant.takes units.0 units.1 units.2 units.3).1 c.units-test.true _ _ _ c.num_bytes-left.ensures (g.met.H.Haystack.gives c.units.block _ c.next.new.self c.in-Some.ensures.steps)).0

pub units-preserved : goal.units-preserved
units-preserved g c =
    let U = g.U.EdgeLabel in let was = c.units.invariant in let s = c.units.self in let units = c.requires.units in
    let one : g.H.Haystack.rest c.units.block ≡ U.unit c.in-Some.unit ∷ g.H.Haystack.rest c.next.new.self = g.met.H.Haystack.gives c.units.block _ c.next.new.self c.in-Some.ensures.steps in
    record {
      room =
          omega (
            arith,
            was.room,
            c.push_back_reserved.ensures.len,
            c.push_back_reserved.ensures.capacity,
            c.num_bytes-left.ensures,
            g.met.U.EdgeLabel.wide (U.unit c.in-Some.unit),
            (takes-one (was.takes units.0 units.1 units.2 units.3).1 c.units-test.true _ _ _ c.num_bytes-left.ensures one).0,
          );
      takes = λ front back cut spans.
          (let taken = was.takes front back cut spans in
          let next = takes-one taken.1 c.units-test.true _ _ _ c.num_bytes-left.ensures one in (
            taken.0 ++ U.unit c.in-Some.unit ∷ [],
            next.1.next,
            keeps-more taken.2 c.in-Some.unit c.push_back_reserved.new.self c.push_back_reserved.ensures.items c.push_back_reserved.ensures.capacity c.push.new.self
                (ap (λ (x : SeenUnits). x.since) c.push.ensures ∙ ap (λ n. s.seen.since ++ n ∷ []) c.code.ensures) (ap (λ (x : SeenUnits). x.given) c.push.ensures),
          ));
    }

pub returns : goal.returns
returns g c front back cut spans =
    let U = g.U.EdgeLabel in let taken = c.units.invariant.takes front back cut spans in
    let K : List ℕ → Type 0 = λ w. Keeps U.unit c.args.self.now w c.units.self in
    subst K (sym (takes-all taken.1 g.met.U.EdgeLabel.wide (omega (arith, c.units-test.false)))) taken.2
