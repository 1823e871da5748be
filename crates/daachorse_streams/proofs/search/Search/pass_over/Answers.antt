-- While as many bytes are left as the longest key may have, a unit is passed over.
use Rattle.std.proofs.Common.{◌≡◌, ◌+◌, ◌<◌, ◌++◌, ◌∷◌, [], Option, refl, ap, ◌∙◌, subst, arith}
use Rattle.std.specs.Iterator.{YieldsFirstBy}
use Rattle.daachorse_core.specs.Seen.{SeenUnits}
use Rattle.daachorse_model.specs.Units.{size}
use Rattle.daachorse_model.proofs.Suffixes.{size-append}
use Rattle.daachorse_streams.specs.declared.search.Search.{Search}
use Rattle.daachorse_streams.proofs.PassingLaws.{passes-more, passes-none, takes-none, takes-one}
use Rattle.daachorse_streams.proofs.search.Search.pass_over.Given as given
use Rattle.daachorse_streams.proofs.search.Search.pass_over.Goals as goal
use Rattle.daachorse_streams.proofs.search.Search.pass_over.Goals.{In-Some}

pub units-init : goal.units-init
units-init g c front back cut spans = ([], record { todo = front; parts = refl; first = cut; spans = spans }, passes-none g.U.EdgeLabel.width front)

pub returns-in_default : goal.returns-in_default
returns-in_default g c front back cut spans =
    let rest = g.H.Haystack.rest in
    let Y : Option g.row.U.Denot → Type 0 = λ r. YieldsFirstBy g.U.EdgeLabel.unit rest c.units.block r c.next.new.self in
    let none = subst Y c.in_default.is (g.met.H.Haystack.gives c.units.block c.next.result c.next.new.self c.next.ensures.steps) in
    absurd (takes-none (c.units.invariant front back cut spans).1 (omega (arith, c.units-test.true, c.capacity-longest.ensures, c.requires.room)) none.0)

-- as many bytes are left as the longest key may have, and there is a unit
some_left : (g : given.Over) (c : In-Some g) → 0 < c.units.left
some_left g c = omega (arith, c.units-test.true, c.capacity-longest.ensures, c.requires.room)

one : (g : given.Over) (c : In-Some g) → g.H.Haystack.rest c.units.block ≡ g.U.EdgeLabel.unit c.in-Some.unit ∷ g.H.Haystack.rest c.next.new.self
one g c = g.met.H.Haystack.gives c.units.block _ c.next.new.self c.in-Some.ensures.steps

pub overflow_add-self : goal.overflow_add-self
overflow_add-self g c =
    let at = (goal.at.overflow_add-self g c).In-Some in let width = g.U.EdgeLabel.width in let units = c.requires.units in
    let taken = c.units.invariant units.0 units.1 units.2 units.3 in
    omega (
      arith,
      c.requires.fits,
      units.3,
      ap (size width) taken.1.parts,
      size-append width taken.0 taken.1.todo,
      taken.1.spans,
      (takes-one taken.1 (some_left g at) _ _ _ c.num_bytes.ensures (one g at)).0,
      ap (λ (x : Search g.row.U.Denot g.row.ALLOC.Denot). x.scan.place) taken.2.same,
    )

pub overflow_sub-left : goal.overflow_sub-left
overflow_sub-left g c =
    let at = (goal.at.overflow_sub-left g c).In-Some in let units = c.requires.units in
    (takes-one (c.units.invariant units.0 units.1 units.2 units.3).1 (some_left g at) _ _ _ c.num_bytes-left.ensures (one g at)).0

pub units-preserved : goal.units-preserved
units-preserved g c front back cut spans =
    let at = (goal.at.units-preserved g c).In-Some in let s = c.units.self in let unit = g.U.EdgeLabel.unit c.in-Some.unit in
    let taken = c.units.invariant front back cut spans in
    let next = takes-one taken.1 (some_left g at) _ _ _ c.num_bytes-left.ensures (one g at) in (
      taken.0 ++ unit ∷ [],
      next.1.next,
      passes-more taken.2 unit next.1.next.todo next.1.was (omega (arith, c.units-test.true, c.capacity-longest.ensures, taken.1.spans)) (s.scan.place + c.num_bytes.result) (ap (λ n. s.scan.place + n) c.num_bytes.ensures)
          c.push.new.self (ap (λ (x : SeenUnits). x.since) c.push.ensures ∙ ap (λ n. s.seen.since ++ n ∷ []) c.code.ensures) (ap (λ (x : SeenUnits). x.given) c.push.ensures),
    )

pub returns : goal.returns
returns g c front back cut spans =
    let taken = c.units.invariant front back cut spans in
    record { over = taken.0; tail = taken.1.todo; parts = taken.1.parts; between = c.units.self; passes = taken.2; keeps = c.keep.ensures taken.1.todo back taken.1.first taken.1.spans }
