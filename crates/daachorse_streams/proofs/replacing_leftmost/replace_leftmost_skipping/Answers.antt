-- Each round puts out what is certain and what is settled, and takes one unit more. At the end of the source all matches are certain.
use Rattle.std.proofs.Common.{
  ◌≡◌,
  ◌+◌,
  ◌++◌,
  [],
  ℕ,
  inl,
  inr,
  Bool,
  true,
  false,
  List,
  None,
  map,
  Bor,
  refl,
  ap,
  sym,
  ◌∙◌,
  subst,
  append-nil,
  arith,
}
use Rattle.std.proofs.lemmas.Bool.{false≢true}
use Rattle.std.proofs.lemmas.Result.{IfErr-weaker, err_from_is_err_and, on_ok_weaker}
use Rattle.std.specs.Io.KnownBytes.{Appends}
use Rattle.std.specs.declared.vec.Vec.{Vec}
use Rattle.daachorse_model.specs.declared.Match.{Match}
use Rattle.daachorse_model.specs.Certain.{AreCertain}
use Rattle.daachorse_model.specs.Folding.{as_read}
use Rattle.daachorse_model.specs.Leftmost.{leftmost}
use Rattle.daachorse_model.specs.Units.{size}
use Rattle.daachorse_haystack.specs.Filters.{IsSoundFor}
use Rattle.daachorse_haystack.specs.Readings.{MayReadAsRead}
use Rattle.daachorse_search.specs.Views.{AutomatonView}
use Rattle.daachorse_search.proofs.ReaderLaws.{may_read_first}
use Rattle.daachorse_streams.specs.Replaced.{AppendsPart}
use Rattle.daachorse_streams.specs.Advancing.{Advances, TakesUnits}
use Rattle.daachorse_streams.specs.Streamed.{IsSameStream, LeftmostStreamed}
use Rattle.daachorse_streams.proofs.ReadingLaws.{ready_as_it_is}
use Rattle.daachorse_streams.proofs.ReplacingLaws.{
  Goes,
  goes-count,
  goes-first,
  goes-inside,
  goes-more,
  goes-out,
  goes-same,
  goes-settled,
  goes-to-end,
  stops-at-end,
  stops-here,
  stops-nothing,
  stops-out,
  stops-out-at-end,
  stops-settled,
}
use Rattle.daachorse_streams.proofs.replacing_leftmost.replace_leftmost_skipping.Given as given
use Rattle.daachorse_streams.proofs.replacing_leftmost.replace_leftmost_skipping.Goals as goal
use Rattle.daachorse_streams.proofs.replacing_leftmost.replace_leftmost_skipping.Goals.{In_ok-held, In_ok-behind}

-- the automaton is that of the start, and nothing more was read
as_started : {V A : Type 0} (sees : A → AutomatonView V) (width : ℕ → ℕ) {now start : A} {after read : List ℕ} → now ≡ start → after ≡ read
    → leftmost width (sees now).content after ≡ leftmost width (sees start).content read
as_started sees width {start = start} {after = after} same is = ap (λ a. leftmost width (sees a).content after) same
    ∙ ap (leftmost width (sees start).content) is

certain_as_started : {V A : Type 0} (sees : A → AutomatonView V) (width : ℕ → ℕ) {now start : A} {after read : List ℕ}
    {matches : List (Match V)} → now ≡ start → after ≡ read
    → AreCertain width (sees now).content after matches → AreCertain width (sees start).content read matches
certain_as_started sees width {start = start} {after = after} {matches = matches} same is certain =
    subst (λ r. AreCertain width (sees start).content r matches) is
    (subst (λ a. AreCertain width (sees a).content after matches) same certain)

-- the bytes were appended
abbrev grows : {B : Type 0} → Vec ℕ B → List ℕ → Vec ℕ B → Type 0
grows held bytes more = more.items ≡ held.items ++ bytes

-- behind the certain matches, and the bytes that no later match may need
record Settled (g : given.Over) (c : In_ok-held g) : Type 0 where
  certain : AreCertain g.A.Unit.EdgeLabel.width (g.A.Automaton.sees c.args.automaton).content c.units.stream.read
      c.replace_certain.new.stream.given
  goes : Goes {P = Bor (List ℕ)} (λ s. s.now) g.O.Write.contents (given.F-step g) c.args.write c.args.out.now g.S.Iterator.can_next
      g.S.Iterator.next_gives g.S.Iterator.remaining g.S.ReadSource.failure g.A.Unit.EdgeLabel.unit g.A.Unit.EdgeLabel.form
      g.A.Unit.EdgeLabel.width
      (g.A.Automaton.sees c.args.automaton).content c.args.folds c.args.source c.units.stream.read c.replace_certain.new.stream.given
      c.units.source (c.replace_certain.new.held.place + c.in_ok-held.field-0) c.put_out_settled.new.held.items
      c.replace_certain.new.write c.put_out_settled.new.out

settled : (g : given.Over) (c : In_ok-held g) → Settled g c
settled g c =
    let was = c.units.invariant in let done = c.in_ok-replace_certain.ensures in
    let certain = certain_as_started g.A.Automaton.sees g.A.Unit.EdgeLabel.width (done.same.0 ∙ was.automaton) done.same.2
    (done.settled.certain (done.same.3 ∙ was.may.0)) in
    record {
      certain = certain;
      goes = goes-settled (goes-out was.goes refl done.whole) g.met.A.Unit.EdgeLabel.wide c.requires.marks.longest.none_longer certain
          c.in_ok-held.ensures.whole;
    }

-- the source has ended, and the stream and the bytes held stay
record Ends (g : given.Over) (c : In_ok-behind g) : Type 0 where
  steps : g.S.Iterator.next_gives c.units.source None c.in_ok-behind.behind
  same : IsSameStream c.units.stream c.advance.new.stream
  given : c.advance.new.stream.given ≡ c.replace_certain.new.stream.given
  held : c.advance.new.kept.items ≡ c.put_out_settled.new.held.items

ends : (g : given.Over) (c : In_ok-behind g) → c.in_ok-behind.some ≡ false → Ends g c
ends g c none =
    let S = g.S.Iterator in let label = g.A.Unit.EdgeLabel in let before = c.replace_certain.new.stream in
    let after = c.advance.new.stream in
    let B : Bool
    → Type 0 = λ b. Advances g.A.Automaton.sees label.width S.next_gives S.remaining label.unit label.form grows before c.units.source
    c.put_out_settled.new.held b after c.in_ok-behind.behind c.advance.new.kept in
    let over = subst B none c.in_ok-behind.ensures.advances in
    let I : LeftmostStreamed g.row.V.Denot g.row.A.Denot → Type 0 = λ x. IsSameStream c.units.stream x in
    record {
      steps = over.0;
      same = subst I (sym over.1) c.in_ok-replace_certain.ensures.same;
      given = ap (λ (x : LeftmostStreamed g.row.V.Denot g.row.A.Denot). x.given) over.1;
      held = ap (λ (x : Vec ℕ g.row.B.Denot). x.items) over.2;
    }

pub returns-in_err-stream-clause-beginning : goal.returns-in_err-stream-clause-beginning
returns-in_err-stream-clause-beginning g c =
    let p = err_from_is_err_and c.from_residual.result c.from_residual.ensures.1 in
    let S = g.S.Iterator in let label = g.A.Unit.EdgeLabel in
    rw p.1 (stops-nothing _ _ _ _ _ S.can_next S.next_gives S.remaining _ label.unit label.form label.width
    (g.A.Automaton.sees c.args.automaton).content c.args.folds _ c.args.marks.now.longest _ p.2)

pub returns-in_err-bytes-clause-beginning : goal.returns-in_err-bytes-clause-beginning
returns-in_err-bytes-clause-beginning g c =
    let p = err_from_is_err_and c.from_residual-in_err-bytes.result c.from_residual-in_err-bytes.ensures.1 in
    let S = g.S.Iterator in let label = g.A.Unit.EdgeLabel in
    rw p.1 (stops-nothing _ _ _ _ _ S.can_next S.next_gives S.remaining _ label.unit label.form label.width
    (g.A.Automaton.sees c.args.automaton).content c.args.folds _ c.args.marks.now.longest _ p.2)

pub units-init : goal.units-init
units-init g c =
    let S = g.S.Iterator in let label = g.A.Unit.EdgeLabel in let made = c.in_ok-stream in
    record {
      callable = c.requires.callable;
      automaton = made.ensures.automaton;
      folds = made.ensures.folds;
      may = (
        made.ensures.ended,
        let M : List ℕ → Type 0 = λ w. MayReadAsRead g.S.Source.may_read made.stream.folds c.args.source w in
            subst M (sym made.ensures.read) (may_read_first g.S.Source.may_read made.stream.folds c.args.source c.requires.may),
      );
      passes = λ w. refl;
      goes =
          goes-first _ _ _ _ _ S.can_next S.next_gives S.remaining _ label.unit label.form label.width _ _ _
          (g.met.S.Source.ready c.args.source [] c.requires.may) made.stream.read made.stream.given c.in_ok-bytes.bytes.items
          made.ensures.read made.ensures.given c.in_ok-bytes.ensures.items;
    }

pub replace_certain-requires-clause-read : goal.replace_certain-requires-clause-read
replace_certain-requires-clause-read g c = goes-count c.units.invariant.goes

pub replace_certain-requires-clause-behind : goal.replace_certain-requires-clause-behind
replace_certain-requires-clause-behind g c =
    let was = c.units.invariant in
    λ d rest is. was.goes.behind d rest
    (sym (as_started g.A.Automaton.sees g.A.Unit.EdgeLabel.width {after = c.units.stream.read ++ d} was.automaton refl) ∙ is)

pub replace_certain-requires-clause-callable : goal.replace_certain-requires-clause-callable
replace_certain-requires-clause-callable g c = c.units.invariant.callable

pub returns-in_err-replace_certain-clause-beginning : goal.returns-in_err-replace_certain-clause-beginning
returns-in_err-replace_certain-clause-beginning g c =
    let p = err_from_is_err_and c.from_residual-in_err-replace_certain.result c.from_residual-in_err-replace_certain.ensures.1 in
    let was = c.units.invariant in
    rw p.1 (stops-out was.goes c.args.marks.now.longest _ _ _ _ p.2
    (λ d. as_started g.A.Automaton.sees g.A.Unit.EdgeLabel.width {after = c.units.stream.read ++ d} was.automaton refl)
    (λ d. c.in_err-replace_certain.ensures.beginning d (λ ended. absurd (false≢true (sym was.may.0 ∙ ended)))))

pub returns-in_err-held-clause-beginning : goal.returns-in_err-held-clause-beginning
returns-in_err-held-clause-beginning g c =
    let p = err_from_is_err_and c.from_residual-in_err-held.result c.from_residual-in_err-held.ensures.1 in
    let was = c.units.invariant in let done = c.in_ok-replace_certain.ensures in
    let certain = certain_as_started g.A.Automaton.sees g.A.Unit.EdgeLabel.width (done.same.0 ∙ was.automaton) done.same.2
    (done.settled.certain (done.same.3 ∙ was.may.0)) in
    rw p.1 (stops-settled (goes-out was.goes refl done.whole) g.met.A.Unit.EdgeLabel.wide c.requires.marks.longest.none_longer certain _ _ _
    p.2 c.in_err-held.ensures.part)

pub overflow_add-held : goal.overflow_add-held
overflow_add-held g c =
    omega (
      arith,
      goes-inside (goes-out c.units.invariant.goes refl c.in_ok-replace_certain.ensures.whole) g.met.A.Unit.AsciiFold.as_wide,
      c.in_ok-held.ensures.whole.inner,
    )

pub advance-requires-clause-taken : goal.advance-requires-clause-taken
advance-requires-clause-taken g c = c.in_ok-replace_certain.ensures.settled.quiet

pub advance-requires-clause-may : goal.advance-requires-clause-may
advance-requires-clause-may g c =
    let was = c.units.invariant in let same = c.in_ok-replace_certain.ensures.same in let stream = c.replace_certain.new.stream in
    let may_read = g.S.Source.may_read in
    let F : Bool → Type 0 = λ b. MayReadAsRead may_read b c.units.source c.units.stream.read in
    let R : List ℕ → Type 0 = λ w. MayReadAsRead may_read stream.folds c.units.source w in
    (same.3 ∙ was.may.0, subst R (sym same.2) (subst F (sym same.1) was.may.1))

pub advance-requires-clause-sound : goal.advance-requires-clause-sound
advance-requires-clause-sound g c =
    let was = c.units.invariant in
    let S : g.row.A.Denot → Type 0 = λ a. IsSoundFor (g.A.Unit.BlockUnit.passes c.units.skipping) (g.A.Automaton.sees a).content in
    subst S (sym (c.in_ok-replace_certain.ensures.same.0 ∙ was.automaton))
    (λ key rest is. was.passes (key ++ rest) ∙ c.requires.sound key rest is)

pub returns-in-Some-clause-beginning : goal.returns-in-Some-clause-beginning
returns-in-Some-clause-beginning g c =
    let at = goal.at.returns-in-Some-clause-beginning g c in let was = settled g at.In_ok-held in
    let over = ends g at.In_ok-behind c.if-not-some.true in
    stops-here was.goes was.certain.0 c.args.marks.now.longest _ c.in_ok-held.ensures.whole.few
    (inl (_, over.steps, sym c.into_failure.ensures.failure ∙ c.in-Some.is))

pub replace_certain-requires-then-not-some-clause-read : goal.replace_certain-requires-then-not-some-clause-read
replace_certain-requires-then-not-some-clause-read g c =
    let at = goal.at.replace_certain-requires-then-not-some-clause-read g c in let was = ends g at.In_ok-behind c.if-not-some.true in
    let stood = goes-same (settled g at.In_ok-held).goes _ _ was.given was.held in
    goes-count stood ∙ sym (ap (size g.A.Unit.EdgeLabel.width) (c.end.ensures.read ∙ was.same.2))

pub replace_certain-requires-then-not-some-clause-behind : goal.replace_certain-requires-then-not-some-clause-behind
replace_certain-requires-then-not-some-clause-behind g c =
    let at = goal.at.replace_certain-requires-then-not-some-clause-behind g c in let was = ends g at.In_ok-behind c.if-not-some.true in
    let stood = goes-same (settled g at.In_ok-held).goes _ _ was.given was.held in
    let same = was.same in
    let all : (d : List ℕ)
    → _ = λ d. as_started g.A.Automaton.sees g.A.Unit.EdgeLabel.width (c.end.ensures.automaton ∙ same.0 ∙ c.units.invariant.automaton)
    (ap (λ l. l ++ d) (c.end.ensures.read ∙ same.2)) in
    λ d rest is. stood.behind d rest (sym (all d) ∙ is ∙ ap (λ l. l ++ rest) c.end.ensures.given)

pub replace_certain-requires-then-not-some-clause-callable : goal.replace_certain-requires-then-not-some-clause-callable
replace_certain-requires-then-not-some-clause-callable g c = c.in_ok-replace_certain.ensures.callable

pub returns-in_err-replace_certain-2-clause-beginning : goal.returns-in_err-replace_certain-2-clause-beginning
returns-in_err-replace_certain-2-clause-beginning g c =
    let p = err_from_is_err_and c.from_residual-in_err-replace_certain-2.result c.from_residual-in_err-replace_certain-2.ensures.1 in
    let at = goal.at.returns-in_err-replace_certain-2-clause-beginning g c in let was = ends g at.In_ok-behind c.if-not-some.true in
    let stood = goes-same (settled g at.In_ok-held).goes _ _ was.given was.held in
    let same = was.same in
    let all = as_started g.A.Automaton.sees g.A.Unit.EdgeLabel.width (c.end.ensures.automaton ∙ same.0 ∙ c.units.invariant.automaton)
    (append-nil _ ∙ c.end.ensures.read ∙ same.2) in
    rw p.1 (stops-out-at-end stood (_, was.steps, sym c.into_failure.ensures.failure ∙ c.in_default.is) c.args.marks.now.longest _ _ _ _ _
    p.2 c.end.ensures.given all (c.in_err-replace_certain-2.ensures.beginning [] (λ ended. refl)))

pub returns-then-not-some-clause-whole : goal.returns-then-not-some-clause-whole
returns-then-not-some-clause-whole g c =
    let at = goal.at.returns-then-not-some-clause-whole g c in let was = ends g at.In_ok-behind c.if-not-some.true in
    let stood = goes-same (settled g at.In_ok-held).goes _ _ was.given was.held in
    let same = was.same in let last = c.in_ok-replace_certain-2.ensures in
    let all = as_started g.A.Automaton.sees g.A.Unit.EdgeLabel.width
    (last.same.0 ∙ c.end.ensures.automaton ∙ same.0 ∙ c.units.invariant.automaton) (last.same.2 ∙ c.end.ensures.read ∙ same.2) in
    let goes = goes-out stood c.end.ensures.given last.whole in
    on_ok_weaker c.write_whole.result
    (λ went. goes-to-end goes (last.settled.all (last.same.3 ∙ c.end.ensures.ended) ∙ all) _ _ was.steps
    (sym c.into_failure.ensures.failure ∙ c.in_default.is) (subst (Appends _ _) c.deref.ensures.value went))
    c.write_whole.ensures.whole

pub returns-then-not-some-clause-beginning : goal.returns-then-not-some-clause-beginning
returns-then-not-some-clause-beginning g c =
    let at = goal.at.returns-then-not-some-clause-beginning g c in let was = ends g at.In_ok-behind c.if-not-some.true in
    let stood = goes-same (settled g at.In_ok-held).goes _ _ was.given was.held in
    let same = was.same in let last = c.in_ok-replace_certain-2.ensures in
    let all = as_started g.A.Automaton.sees g.A.Unit.EdgeLabel.width
    (last.same.0 ∙ c.end.ensures.automaton ∙ same.0 ∙ c.units.invariant.automaton) (last.same.2 ∙ c.end.ensures.read ∙ same.2) in
    let goes = goes-out stood c.end.ensures.given last.whole in
    IfErr-weaker c.write_whole.result _ _
    (λ e part. stops-at-end goes (last.settled.all (last.same.3 ∙ c.end.ensures.ended) ∙ all)
    (_, was.steps, sym c.into_failure.ensures.failure ∙ c.in_default.is) c.args.marks.now.longest e _
    (subst (AppendsPart _ _) c.deref.ensures.value part)) c.write_whole.ensures.part

pub returns-in_err-behind-clause-beginning : goal.returns-in_err-behind-clause-beginning
returns-in_err-behind-clause-beginning g c =
    let p = err_from_is_err_and c.from_residual-in_err-behind.result c.from_residual-in_err-behind.ensures.1 in
    let was = settled g (goal.at.returns-in_err-behind-clause-beginning g c).In_ok-held in
    rw p.1 (stops-here was.goes was.certain.0 c.args.marks.now.longest _ c.in_ok-held.ensures.whole.few (inr p.2))

-- units were taken
took : (g : given.Over) (c : In_ok-behind g) → c.in_ok-behind.some ≡ true
    → TakesUnits g.A.Automaton.sees g.A.Unit.EdgeLabel.width g.S.Iterator.next_gives g.S.Iterator.remaining g.A.Unit.EdgeLabel.unit
    g.A.Unit.EdgeLabel.form grows c.replace_certain.new.stream c.units.source c.put_out_settled.new.held c.advance.new.stream
    c.in_ok-behind.behind c.advance.new.kept
took g c some =
    let S = g.S.Iterator in let label = g.A.Unit.EdgeLabel in
    let B : Bool → Type 0 =
    λ b. Advances g.A.Automaton.sees label.width S.next_gives S.remaining label.unit label.form grows c.replace_certain.new.stream
    c.units.source c.put_out_settled.new.held b c.advance.new.stream c.in_ok-behind.behind c.advance.new.kept in
    subst B some c.in_ok-behind.ensures.advances

pub units-smaller : goal.units-smaller
units-smaller g c = let came = took g (goal.at.units-smaller g c).In_ok-behind c.if-not-some.false in omega (arith, came.fewer, came.some)

pub units-preserved : goal.units-preserved
units-preserved g c =
    let was = c.units.invariant in let done = c.in_ok-replace_certain.ensures in let S = g.S.Iterator in let label = g.A.Unit.EdgeLabel in
    let at = goal.at.units-preserved g c in
    let now = settled g at.In_ok-held in let came = took g at.In_ok-behind c.if-not-some.false in
    let stream = c.replace_certain.new.stream in let after = c.advance.new.stream in let come = map label.unit came.units in
    let may = c.in_ok-behind.ensures.may c.if-not-some.false in
    record {
      callable = done.callable;
      automaton = came.consumed.automaton ∙ done.same.0 ∙ was.automaton;
      folds = came.consumed.folds ∙ done.same.1 ∙ was.folds;
      may = may;
      passes = λ w. c.advance.ensures.passes w ∙ was.passes w;
      goes =
          goes-more now.goes g.met.A.Unit.AsciiFold.as_wide came.units _ _ _ _ came.consumed.given came.took
          (ready_as_it_is S.can_next S.next_gives S.remaining label.unit label.width g.met.A.Unit.AsciiFold.as_wide g.S.Source.may_read
          g.met.S.Source.ready after.folds c.in_ok-behind.behind after.read may.1) came.sized
          (came.consumed.read ∙ ap (λ b. stream.read ++ as_read b come) (done.same.1 ∙ was.folds)
          ∙ ap (λ l. l ++ as_read c.args.folds come) done.same.2) came.kept;
    }
