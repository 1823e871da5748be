-- Each round finds no match certain and reads on: by what is skipped of a block, or by a unit.
use Rattle.std.proofs.Common.{◌≡◌, ◌++◌, ◌∷◌, [], ℕ, List, Bool, refl, sym, ap, ◌∙◌, subst, arith}
use Rattle.std.specs.Prelude.{⊤}
use Rattle.daachorse_haystack.specs.Filters.{IsSoundFor}
use Rattle.daachorse_haystack.specs.Readings.{MayReadAsRead}
use Rattle.daachorse_streams.specs.Advancing.{Advances, TakesUnits}
use Rattle.daachorse_streams.specs.LeftmostReading.{HasRead}
use Rattle.daachorse_streams.specs.Streamed.{LeftmostStreamed}
use Rattle.daachorse_streams.proofs.ReadingLaws.{HasTaken-more, HasTaken-none, HasTaken-same, given_all}
use Rattle.daachorse_streams.proofs.leftmost_from_reader.read_on.Given as given
use Rattle.daachorse_streams.proofs.leftmost_from_reader.read_on.Goals as goal
use Rattle.daachorse_streams.proofs.leftmost_from_reader.read_on.Goals.{Else-not-some}

pub units-init : goal.units-init
units-init g c =
    let S = g.S.Iterator in let unit = g.A.Unit.EdgeLabel in
    record {
      over = ([], HasTaken-none unit.width g.A.Automaton.sees S.next_gives S.remaining unit.unit g.S.ReadSource.failure c.args.stream.now c.args.source);
      given = refl;
      may = c.requires.may;
      passes = λ w. refl;
    }

pub advance-requires-clause-taken : goal.advance-requires-clause-taken
advance-requires-clause-taken g c = c.in_default.ensures.gives.quiet

pub advance-requires-clause-may : goal.advance-requires-clause-may
advance-requires-clause-may g c =
    let was = c.units.invariant in let same = c.next_certain.ensures.same in let stream = c.next_certain.new.self in let may_read = g.S.Source.may_read in
    let F : Bool → Type 0 = λ b. MayReadAsRead may_read b c.units.source c.units.stream.read in
    let R : List ℕ → Type 0 = λ w. MayReadAsRead may_read stream.folds c.units.source w in
    (same.3 ∙ was.may.0, subst R (sym same.2) (subst F (sym same.1) was.may.1))

pub advance-requires-clause-sound : goal.advance-requires-clause-sound
advance-requires-clause-sound g c =
    let was = c.units.invariant in
    let S : g.row.A.Denot → Type 0 = λ a. IsSoundFor (g.A.Unit.BlockUnit.passes c.units.skipping) (g.A.Automaton.sees a).content in
    subst S (sym (c.next_certain.ensures.same.0 ∙ was.over.1.reads.same)) (λ key rest is. was.passes (key ++ rest) ∙ c.requires.sound key rest is)

pub returns-in-Some-clause-reads : goal.returns-in-Some-clause-reads
returns-in-Some-clause-reads g c =
    let was = c.units.invariant in let next = c.next_certain.ensures in let taken = HasTaken-same was.over.1 c.next_certain.new.self next.same in (
      was.over.0,
      record {
        takes = taken.takes;
        reads = taken.reads;
        given = c.in-Some.ensures.gives ∙ ap (λ ms. ms ++ c.in-Some.found ∷ []) was.given;
        certain = next.begins (next.same.3 ∙ was.may.0);
        first = next.first;
      },
    )

pub returns-then-not-some-clause-reads : goal.returns-then-not-some-clause-reads
returns-then-not-some-clause-reads g c =
    let S = g.S.Iterator in let unit = g.A.Unit.EdgeLabel in let was = c.units.invariant in let stream = c.next_certain.new.self in let same = c.next_certain.ensures.same in let gives = c.in_default.ensures.gives in
    let taken = HasTaken-same was.over.1 stream same in
    let given : stream.given ≡ c.args.stream.now.given = gives.same ∙ was.given in
    let B : Bool → Type 0 =
    λ b. Advances g.A.Automaton.sees unit.width S.next_gives S.remaining unit.unit unit.form (λ held bytes more. ⊤) stream c.units.source c.advance.new.kept b c.advance.new.stream c.in-Ok.behind c.advance.new.kept in
    let over = subst B c.if-not-some.true c.in-Ok.ensures.advances in
    let R : LeftmostStreamed g.row.V.Denot g.row.A.Denot → Type 0 = λ x. HasRead unit.width g.A.Automaton.sees S.next_gives S.remaining unit.unit g.S.ReadSource.failure c.args.stream.now was.over.0 x in (
      was.over.0,
      record {
        rest = c.in-Ok.behind;
        took = (c.units.source, taken.takes.took, over.0);
        few = omega (arith, taken.takes.fewer);
        needed = given_all taken given (gives.certain (same.3 ∙ was.may.0));
        failed = refl;
      },
      subst R (sym over.1) taken.reads,
      ap (λ (x : LeftmostStreamed g.row.V.Denot g.row.A.Denot). x.given) over.1 ∙ given,
    )

-- what the source gave
came : (g : given.Over) (c : Else-not-some g)
    → TakesUnits g.A.Automaton.sees g.A.Unit.EdgeLabel.width g.S.Iterator.next_gives g.S.Iterator.remaining g.A.Unit.EdgeLabel.unit g.A.Unit.EdgeLabel.form (λ held bytes more. ⊤) c.next_certain.new.self c.units.source c.advance.new.kept c.advance.new.stream
    c.in-Ok.behind c.advance.new.kept
came g c =
    let S = g.S.Iterator in let unit = g.A.Unit.EdgeLabel in
    let B : Bool → Type 0 =
    λ b. Advances g.A.Automaton.sees unit.width S.next_gives S.remaining unit.unit unit.form (λ held bytes more. ⊤) c.next_certain.new.self c.units.source c.advance.new.kept b c.advance.new.stream c.in-Ok.behind c.advance.new.kept in
    subst B c.if-not-some.false c.in-Ok.ensures.advances

pub units-smaller : goal.units-smaller
units-smaller g c = let some = came g c in omega (arith, some.fewer, some.some)

pub units-preserved : goal.units-preserved
units-preserved g c =
    let was = c.units.invariant in let same = c.next_certain.ensures.same in let gives = c.in_default.ensures.gives in let some = came g c in
    let taken = HasTaken-same was.over.1 c.next_certain.new.self same in
    let given : c.next_certain.new.self.given ≡ c.args.stream.now.given = gives.same ∙ was.given in
    let all = given_all taken given (gives.certain (same.3 ∙ was.may.0)) in
    record {
      over = (was.over.0 ++ some.units, HasTaken-more taken all some.units some.some c.in-Ok.behind some.took some.fewer c.advance.new.stream some.consumed (λ many. some.clear many ∙ given));
      given = some.consumed.given ∙ given;
      may = c.in-Ok.ensures.may c.if-not-some.false;
      passes = λ w. c.advance.ensures.passes w ∙ was.passes w;
    }
