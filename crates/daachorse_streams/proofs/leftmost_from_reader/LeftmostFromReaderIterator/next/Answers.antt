-- A match is given before the source ends or after its end, and after the last one its error.
use Rattle.std.proofs.Common.{◌≡◌, ◌++◌, Bool, Option, Some, None, true, false, inr, refl, sym, ap, ◌∙◌, subst, rules}
use Rattle.std.specs.Iterator.{IsFinite}
use Rattle.std.specs.Prelude.{Err, IfSome, Ok}
use Rattle.std.specs.declared.io.Error.{Error}
use Rattle.daachorse_haystack.specs.Filters.{IsSoundFor}
use Rattle.daachorse_model.specs.declared.Match.{Match}
use Rattle.daachorse_prefilter.specs.Asked.{Asked}
use Rattle.daachorse_search.specs.Readers.{IsLasting}
use Rattle.daachorse_streams.specs.LeftmostReading.{GaveError, GaveLeftmost, GivesLeftmost, LeftmostReading, MayReadOn, ReadsOn, TakesAll, units_left}
use Rattle.daachorse_streams.specs.Streamed.{LeftmostStreamed}
use Rattle.daachorse_streams.proofs.ReadingLaws.{AtEnd, ended_before, ends_now, gave_all, gave_last, goes_on, goes_to_error, ready_as_it_is}
use Rattle.daachorse_streams.proofs.leftmost_from_reader.LeftmostFromReaderIterator.next.Given as given
use Rattle.daachorse_streams.proofs.leftmost_from_reader.LeftmostFromReaderIterator.next.Goals as goal
use Rattle.daachorse_streams.proofs.leftmost_from_reader.LeftmostFromReaderIterator.next.Goals.{After-take-arg-1, In-Some-next_certain, Joined-self, After-self-in-Some-into_failure-1, After-next_certain-arg-1, in-Some+in_default-some+in_default-into_failure, in_default}

-- how the reader stood before the call
record Stood (g : given.Over) (c : After-take-arg-1 g) : Type 0 where
  was : c.args.self.now ≡ record { stream = c.self.inside.stream; source = c.self.inside.source; over = false }
  may : MayReadOn g.S.Source.may_read c.self.inside.stream c.self.inside.source
  sound : IsSoundFor (g.A.Unit.BlockUnit.passes c.self.inside.skipping) (g.A.Automaton.sees c.self.inside.stream.automaton).content

stood : (g : given.Over) (c : After-take-arg-1 g) → Stood g c
stood g c =
    let Seen : Type 0 = LeftmostReading g.row.V.Denot g.row.A.Denot g.row.S.Denot in
    let view : Bool → Seen = λ b. record { stream = c.self.inside.stream; source = c.self.inside.source; over = b } in
    record { was = sym c.self.view_is ∙ ap view c.if-self.false; may = c.self.invariant.0 c.if-self.false; sound = c.self.invariant.1 }

pub read_on-behind-requires-clause-may : goal.read_on-behind-requires-clause-may
read_on-behind-requires-clause-may g c =
    let M : Option g.row.S.Denot → Type 0 = λ o. MayReadOn g.S.Source.may_read c.self.inside.stream o in
    subst M (sym c.take.ensures.value ∙ c.in-Some.is) (stood g (goal.at.read_on-behind-requires-clause-may g c).After-take-arg-1).may

pub read_on-behind-requires-clause-sound : goal.read_on-behind-requires-clause-sound
read_on-behind-requires-clause-sound g c = (stood g (goal.at.read_on-behind-requires-clause-sound g c).After-take-arg-1).sound

-- a match was read
reads : (g : given.Over) (c : Joined-self g)
    → ReadsOn g.A.Unit.EdgeLabel.width g.A.Automaton.sees g.S.Iterator.next_gives g.S.Iterator.remaining g.A.Unit.EdgeLabel.unit g.S.ReadSource.failure c.self.inside.stream c.in-Some.source (Some c.in-Some-some.found)
    c.read_on-behind.new.stream c.read_on-behind.result.0
reads g c =
    let S = g.S.Iterator in let unit = g.A.Unit.EdgeLabel in
    let R : Option (Match g.row.V.Denot) → Type 0 = λ o. ReadsOn unit.width g.A.Automaton.sees S.next_gives S.remaining unit.unit g.S.ReadSource.failure c.self.inside.stream c.in-Some.source o c.read_on-behind.new.stream c.read_on-behind.result.0 in
    subst R c.in-Some-some.is c.read_on-behind.ensures.reads

-- and so it was given
gave_match : (g : given.Over) (c : Joined-self g)
    → GaveLeftmost g.A.Unit.EdgeLabel.width g.A.Automaton.sees g.S.Iterator.next_gives g.S.Iterator.remaining g.A.Unit.EdgeLabel.unit g.S.ReadSource.failure
    (record { stream = c.self.inside.stream; source = Some c.in-Some.source; over = false }) (reads g c).0 c.in-Some-some.found
    (record { stream = c.read_on-behind.new.stream; source = Some c.read_on-behind.result.0; over = c.self.inside.over })
gave_match g c =
    let S = g.S.Iterator in let unit = g.A.Unit.EdgeLabel in
    let P : Bool → Type 0 =
    λ b. GaveLeftmost unit.width g.A.Automaton.sees S.next_gives S.remaining unit.unit g.S.ReadSource.failure
    (record { stream = c.self.inside.stream; source = Some c.in-Some.source; over = false }) (reads g c).0 c.in-Some-some.found
    (record { stream = c.read_on-behind.new.stream; source = Some c.read_on-behind.result.0; over = b }) in
    subst P (sym c.if-self.false) (reads g c).1

-- and it may be read on
may_go_on : (g : given.Over) (c : Joined-self g) → MayReadOn g.S.Source.may_read c.read_on-behind.new.stream (Some c.read_on-behind.result.0)
may_go_on g c =
    let M : Option (Match g.row.V.Denot) → Type 0 = λ o. IfSome o (λ m. MayReadOn g.S.Source.may_read c.read_on-behind.new.stream (Some c.read_on-behind.result.0)) in
    subst M c.in-Some-some.is c.read_on-behind.ensures.may

pub invariant_of-self : goal.invariant_of-self
invariant_of-self g c =
    let at = goal.at.invariant_of-self g c in let sound = (stood g at.After-take-arg-1).sound in
    let A : g.row.A.Denot → Type 0 = λ a. IsSoundFor (g.A.Unit.BlockUnit.passes c.self.inside.skipping) (g.A.Automaton.sees a).content in
    (λ _. may_go_on g c, λ key rest is. c.read_on-behind.ensures.passes (key ++ rest) ∙ subst A (sym (reads g c).1.reads.same) sound key rest is)

pub returns-in-Some-some-clause-steps : goal.returns-in-Some-some-clause-steps
returns-in-Some-some-clause-steps g c =
    let S = g.S.Iterator in let unit = g.A.Unit.EdgeLabel in let Seen : Type 0 = LeftmostReading g.row.V.Denot g.row.A.Denot g.row.S.Denot in let s = c.self.inside.stream in
    let G : Seen → Type 0 =
    λ x. GivesLeftmost unit.width g.A.Automaton.sees S.next_gives S.remaining unit.unit g.S.ReadSource.failure x (Some (Ok c.in-Some-some.found)) (record { stream = c.read_on-behind.new.stream; source = Some c.read_on-behind.result.0; over = c.self.inside.over }) in
    let O : Option g.row.S.Denot → Type 0 = λ o. G (record { stream = s; source = o; over = false }) in
    subst G (sym (stood g (goal.at.returns-in-Some-some-clause-steps g c).After-take-arg-1).was) (subst O (sym (sym c.take.ensures.value ∙ c.in-Some.is)) (refl, c.if-self.false, ((reads g c).0, gave_match g c)))

pub returns-in-Some-some-clause-goes : goal.returns-in-Some-some-clause-goes
returns-in-Some-some-clause-goes g c =
    let S = g.S.Iterator in let unit = g.A.Unit.EdgeLabel in let t = c.read_on-behind.new.stream in let s = c.self.inside.stream in let Seen : Type 0 = LeftmostReading g.row.V.Denot g.row.A.Denot g.row.S.Denot in
    let ready =
    ready_as_it_is S.can_next S.next_gives S.remaining unit.unit unit.width g.met.A.Unit.AsciiFold.as_wide g.S.Source.may_read g.met.S.Source.ready t.folds c.read_on-behind.result.0 t.read (may_go_on g c).1 in
    let was = (stood g (goal.at.returns-in-Some-some-clause-goes g c).After-take-arg-1).was ∙ ap (λ (o : Option g.row.S.Denot). let x : Seen = record { stream = s; source = o; over = false } in x) (sym c.take.ensures.value ∙ c.in-Some.is) in
    goes_on _ (λ _. tt) _ was refl c.if-self.false (gave_match g c) ready.ends

-- the reader failed
fails : (g : given.Over) (c : After-self-in-Some-into_failure-1 g)
    → ReadsOn g.A.Unit.EdgeLabel.width g.A.Automaton.sees g.S.Iterator.next_gives g.S.Iterator.remaining g.A.Unit.EdgeLabel.unit g.S.ReadSource.failure c.self.inside.stream c.in-Some.source None c.read_on-behind.new.stream c.read_on-behind.result.0
fails g c =
    let S = g.S.Iterator in let unit = g.A.Unit.EdgeLabel in
    let R : Option (Match g.row.V.Denot) → Type 0 = λ o. ReadsOn unit.width g.A.Automaton.sees S.next_gives S.remaining unit.unit g.S.ReadSource.failure c.self.inside.stream c.in-Some.source o c.read_on-behind.new.stream c.read_on-behind.result.0 in
    subst R c.in_default-some.is c.read_on-behind.ensures.reads

-- and so the search ends with its error
gave_error : (g : given.Over) (c : After-self-in-Some-into_failure-1 g)
    → GaveError g.A.Unit.EdgeLabel.width g.A.Automaton.sees g.S.Iterator.next_gives g.S.Iterator.remaining g.A.Unit.EdgeLabel.unit g.S.ReadSource.failure (record { stream = c.self.inside.stream; source = c.self.inside.source; over = false })
    (fails g c).0 c.in-Some-into_failure.error (record { stream = c.read_on-behind.new.stream; source = c.take.new.self; over = true })
gave_error g c =
    let S = g.S.Iterator in let unit = g.A.Unit.EdgeLabel in let read = fails g c in
    let T : Option Error → Type 0 = λ e. TakesAll unit.width g.A.Automaton.sees S.next_gives S.remaining unit.unit g.S.ReadSource.failure c.self.inside.stream c.in-Some.source read.0 e in
    let L : Option Error → Type 0 = λ e. IfSome e IsLasting in
    record {
      from = c.in-Some.source;
      had = sym c.take.ensures.value ∙ c.in-Some.is;
      takes = subst T (sym c.into_failure.ensures.failure ∙ c.in-Some-into_failure.is) read.1;
      lasting = subst L c.in-Some-into_failure.is c.into_failure.ensures.lasting;
      reads = record { reads = read.2; given = read.3 };
    }

pub returns-in-Some-into_failure-clause-steps : goal.returns-in-Some-into_failure-clause-steps
returns-in-Some-into_failure-clause-steps g c =
    let S = g.S.Iterator in let unit = g.A.Unit.EdgeLabel in let Seen : Type 0 = LeftmostReading g.row.V.Denot g.row.A.Denot g.row.S.Denot in
    let G : Seen → Type 0 =
    λ x. GivesLeftmost unit.width g.A.Automaton.sees S.next_gives S.remaining unit.unit g.S.ReadSource.failure x (Some (Err c.in-Some-into_failure.error)) (record { stream = c.read_on-behind.new.stream; source = c.take.new.self; over = true }) in
    subst G (sym (stood g (goal.at.returns-in-Some-into_failure-clause-steps g c).After-take-arg-1).was) (refl, refl, ((fails g c).0, gave_error g c))

pub returns-in-Some-into_failure-clause-goes : goal.returns-in-Some-into_failure-clause-goes
returns-in-Some-into_failure-clause-goes g c =
    goes_to_error _ (λ _. tt) _ (stood g (goal.at.returns-in-Some-into_failure-clause-goes g c).After-take-arg-1).was refl refl (gave_error g c)

-- before the last call for a match the source has ended
record Ends (g : given.Over) (c : After-next_certain-arg-1 g) : Type 0 where
  was : c.args.self.now ≡ record { stream = c.self.inside.stream; source = c.self.inside.source; over = false }
  ends : AtEnd g.A.Unit.EdgeLabel.width g.A.Automaton.sees g.S.Iterator.next_gives g.S.Iterator.remaining g.A.Unit.EdgeLabel.unit g.S.ReadSource.failure (record { stream = c.self.inside.stream; source = c.self.inside.source; over = false }) c.match-take.self-inside.stream
  over : c.match-take.self-inside.stream.ended ≡ true
  source : c.match-take.self-inside.source ≡ None
  open_yet : c.match-take.self-inside.over ≡ false
  sound : IsSoundFor (g.A.Unit.BlockUnit.passes c.match-take.self-inside.skipping) (g.A.Automaton.sees c.match-take.self-inside.stream.automaton).content

ended : (g : given.Over) (c : After-next_certain-arg-1 g) → Stood g (goal.at.After-next_certain-arg-1 g c).After-take-arg-1 → Ends g c
ended g c before =
    let S = g.S.Iterator in let unit = g.A.Unit.EdgeLabel in let s = c.self.inside.stream in let source = c.self.inside.source in
    let Stream : Type 0 = LeftmostStreamed g.row.V.Denot g.row.A.Denot in let Seen : Type 0 = LeftmostReading g.row.V.Denot g.row.A.Denot g.row.S.Denot in
    let sees = g.A.Automaton.sees in let failure = g.S.ReadSource.failure in let passes = g.A.Unit.BlockUnit.passes in
    let now = c.match-take.self-inside in
    let was : Seen = record { stream = s; source = source; over = false } in
    let P : Stream → Type 0 = λ t. AtEnd unit.width sees S.next_gives S.remaining unit.unit failure was t in
    let O : Stream → Type 0 = λ t. t.ended ≡ true in
    let K : Asked → Type 0 = λ k. IsSoundFor (passes k) (sees now.stream.automaton).content in
    elim c.match-take.branch [
      | in-Some+in_default-some+in_default-into_failure w ↦
          let R : Option (Match g.row.V.Denot) → Type 0 = λ o. ReadsOn unit.width sees S.next_gives S.remaining unit.unit failure s w.in-Some.source o w.read_on-behind.new.stream w.read_on-behind.result.0 in
          let read = subst R w.in_default-some.is w.read_on-behind.ensures.reads in let end = w.end.ensures in
          let whole : failure w.read_on-behind.result.0 ≡ None = sym w.into_failure.ensures.failure ∙ w.in_default-into_failure.is in
          let A : g.row.A.Denot → Type 0 = λ a. IsSoundFor (passes c.self.inside.skipping) (sees a).content in
          let stream : now.stream ≡ w.end.new.self = search rules in
          let same : now.stream.automaton ≡ s.automaton = ap (λ (x : Stream). x.automaton) stream ∙ end.automaton ∙ read.2.same in
          let skipping : now.skipping ≡ w.read_on-behind.new.skipping = search rules in
          let left : now.source ≡ c.take.new.self = search rules in
          let same_over : now.over ≡ c.self.inside.over = search rules in
          record {
            was = before.was;
            ends = subst P (sym stream) (ends_now (sym c.take.ensures.value ∙ w.in-Some.is) read.1 read.2 read.3 whole w.end.new.self end.automaton end.folds end.read end.given);
            over = subst O (sym stream) end.ended;
            source = left ∙ c.take.ensures.after;
            open_yet = same_over ∙ c.if-self.false;
            sound = subst K (sym skipping) (λ key rest is. w.read_on-behind.ensures.passes (key ++ rest) ∙ subst A (sym same) before.sound key rest is);
          }
      | in_default w ↦
          let none : source ≡ None = sym c.take.ensures.value ∙ w.in_default.is in
          let N : Option g.row.S.Denot → Type 0 = λ o. MayReadOn g.S.Source.may_read s o in
          let T : Stream → Type 0 = λ t. IsSoundFor (passes c.self.inside.skipping) (sees t.automaton).content in
          let stream : now.stream ≡ s = search rules in
          let skipping : now.skipping ≡ c.self.inside.skipping = search rules in
          let left : now.source ≡ c.take.new.self = search rules in
          let same_over : now.over ≡ c.self.inside.over = search rules in
          record {
            was = before.was;
            ends = subst P (sym stream) (ended_before unit.width sees S.next_gives S.remaining unit.unit failure was none);
            over = subst O (sym stream) (subst N none before.may);
            source = left ∙ c.take.ensures.after;
            open_yet = same_over ∙ c.if-self.false;
            sound = subst K (sym skipping) (subst T (sym stream) before.sound);
          }
    ]

pub invariant_of-self-in-Some-next_certain : goal.invariant_of-self-in-Some-next_certain
invariant_of-self-in-Some-next_certain g c =
    let at = goal.at.invariant_of-self-in-Some-next_certain g c in let is = ended g at.After-next_certain-arg-1 (stood g at.After-take-arg-1) in let same = c.next_certain.ensures.same in
    let M : Option g.row.S.Denot → Type 0 = λ o. MayReadOn g.S.Source.may_read c.next_certain.new.self o in
    let A : g.row.A.Denot → Type 0 = λ a. IsSoundFor (g.A.Unit.BlockUnit.passes c.match-take.self-inside.skipping) (g.A.Automaton.sees a).content in
    (λ _. subst M (sym is.source) (same.3 ∙ is.over), subst A (sym same.0) is.sound)

-- a match that is left was given
gave_late : (g : given.Over) (c : In-Some-next_certain g) → (is : Ends g (goal.at.In-Some-next_certain g c).After-next_certain-arg-1)
    → GaveLeftmost g.A.Unit.EdgeLabel.width g.A.Automaton.sees g.S.Iterator.next_gives g.S.Iterator.remaining g.A.Unit.EdgeLabel.unit g.S.ReadSource.failure
    (record { stream = c.self.inside.stream; source = c.self.inside.source; over = false }) is.ends.xs c.in-Some-next_certain.found
    (record { stream = c.next_certain.new.self; source = c.match-take.self-inside.source; over = c.match-take.self-inside.over })
gave_late g c is =
    let S = g.S.Iterator in let unit = g.A.Unit.EdgeLabel in let next = c.in-Some-next_certain.ensures in let m = c.in-Some-next_certain.found in let new = c.next_certain.new.self in
    let P : Option g.row.S.Denot → Bool → Type 0 =
    λ o b. GaveLeftmost unit.width g.A.Automaton.sees S.next_gives S.remaining unit.unit g.S.ReadSource.failure
    (record { stream = c.self.inside.stream; source = c.self.inside.source; over = false }) is.ends.xs m (record { stream = new; source = o; over = b }) in
    subst (λ o. P o c.match-take.self-inside.over) (sym is.source) (subst (P None) (sym is.open_yet) (gave_last is.ends m new next.same next.gives next.first))

pub returns-in-Some-next_certain-clause-steps : goal.returns-in-Some-next_certain-clause-steps
returns-in-Some-next_certain-clause-steps g c =
    let S = g.S.Iterator in let unit = g.A.Unit.EdgeLabel in let at = goal.at.returns-in-Some-next_certain-clause-steps g c in let is = ended g at.After-next_certain-arg-1 (stood g at.After-take-arg-1) in
    let now = c.match-take.self-inside in
    let G : LeftmostReading g.row.V.Denot g.row.A.Denot g.row.S.Denot → Type 0 =
    λ x. GivesLeftmost unit.width g.A.Automaton.sees S.next_gives S.remaining unit.unit g.S.ReadSource.failure x (Some (Ok c.in-Some-next_certain.found))
    (record { stream = c.next_certain.new.self; source = now.source; over = now.over }) in
    subst G (sym is.was) (refl, is.open_yet, (is.ends.xs, gave_late g at.In-Some-next_certain is))

pub returns-in-Some-next_certain-clause-goes : goal.returns-in-Some-next_certain-clause-goes
returns-in-Some-next_certain-clause-goes g c =
    let at = goal.at.returns-in-Some-next_certain-clause-goes g c in let is = ended g at.After-next_certain-arg-1 (stood g at.After-take-arg-1) in
    let F : Option g.row.S.Denot → Type 0 = λ o. IsFinite (units_left g.S.Iterator.remaining o) in
    goes_on _ (λ _. tt) _ is.was refl is.open_yet (gave_late g at.In-Some-next_certain is) (subst F (sym is.source) tt)

pub returns-clause-steps : goal.returns-clause-steps
returns-clause-steps g c =
    let S = g.S.Iterator in let unit = g.A.Unit.EdgeLabel in let at = goal.at.returns-clause-steps g c in let is = ended g at.After-next_certain-arg-1 (stood g at.After-take-arg-1) in
    let next = c.in_default-next_certain.ensures in let new = c.next_certain.new.self in
    let Gives : LeftmostReading g.row.V.Denot g.row.A.Denot g.row.S.Denot → Option g.row.S.Denot → Type 0 =
    λ x o. GivesLeftmost unit.width g.A.Automaton.sees S.next_gives S.remaining unit.unit g.S.ReadSource.failure x None (record { stream = new; source = o; over = true }) in
    subst (Gives c.args.self.now) (sym is.source) (subst (λ x. Gives x None) (sym is.was)
    (refl, inr (refl, (is.ends.xs, gave_all is.ends new next.same next.gives.same (next.gives.all (next.same.3 ∙ is.over)) next.gives.quiet))))
