-- Behind what was read no key begins before the place at which the filter passes.
use Rattle.std.proofs.Common.{◌≡◌, ◌<◌, ◌+◌, ◌-◌, ◌^◌, ◌++◌, ℕ, List, [], length, false, refl, sym, ap, ◌∙◌, subst, arith}
use Rattle.std.proofs.lemmas.List.{length-map, nil_from_length}
use Rattle.daachorse_haystack.specs.Filters.{IsSoundFor}
use Rattle.daachorse_haystack.proofs.FilterLaws.{none_starts-skipped}
use Rattle.daachorse_model.specs.Best.{NoneStarts}
use Rattle.daachorse_model.specs.Leftmost.{leftmost}
use Rattle.daachorse_model.specs.Units.{size}
use Rattle.daachorse_model.proofs.Suffixes.{size-append}
use Rattle.daachorse_streams.specs.declared.search.Search.{Search}
use Rattle.daachorse_streams.specs.Searching.{IsAtRoot, TakesFront, given_of}
use Rattle.daachorse_streams.specs.Standings.{streamed}
use Rattle.daachorse_streams.specs.Streamed.{HasSkipped, LeftmostStreamed}
use Rattle.daachorse_streams.proofs.PassingLaws.{GoesOn, front_clear, goes_on, none_kept}
use Rattle.daachorse_streams.proofs.SearchingLaws.{place_is}
use Rattle.daachorse_streams.proofs.StreamLaws.{none_waits, room_some}
use Rattle.daachorse_streams.proofs.leftmost_stream.LeftmostStream.skip.Given as given
use Rattle.daachorse_streams.proofs.leftmost_stream.LeftmostStream.skip.Goals as goal
use Rattle.daachorse_streams.proofs.leftmost_stream.LeftmostStream.skip.Goals.{After-left-2}

-- what the filter passed over: no key begins in it
record Passes (g : given.Over) (c : After-left-2 g) : Type 0 where
  front : List ℕ
  parts : g.H.Haystack.rest c.args.block ≡ front ++ g.H.Haystack.rest c.skip.new.rest
  none : NoneStarts (g.A.Automaton.sees c.self.inside.automaton).content (length front) (front ++ g.H.Haystack.rest c.skip.new.rest)

passes : (g : given.Over) (c : After-left-2 g) → Passes g c
passes g c =
    let rest = g.H.Haystack.rest in let K = (g.A.Automaton.sees c.self.inside.automaton).content in let goes = c.skip.ensures.goes in
    let S : LeftmostStreamed g.row.V.Denot g.row.A.Denot → Type 0 = λ x. IsSoundFor (g.F.Filter.passes c.args.filter.now) (g.A.Automaton.sees x.automaton).content in
    let N : List ℕ → Type 0 = λ w. NoneStarts K (length goes.front) w in
    record {
      front = goes.front;
      parts = sym (c.after-later.ensures [] (rest c.args.block) refl refl) ∙ goes.parts;
      none = subst N goes.parts (none_starts-skipped (g.F.Filter.passes c.args.filter.now) K (subst S (sym c.self.view_is) c.requires.sound) (rest c.after-later.result) goes.front (rest c.skip.new.rest) goes.parts goes.none);
    }

ends : (g : given.Over) (c : After-left-2 g) → c.left.result - c.left-2.result ≡ size g.A.Unit.EdgeLabel.width (passes g c).front
ends g c =
    let width = g.A.Unit.EdgeLabel.width in let p = passes g c in
    omega (arith, c.left.ensures, c.left-2.ensures, ap (size width) p.parts, size-append width p.front (g.H.Haystack.rest c.skip.new.rest))

at_root : (g : given.Over) (c : After-left-2 g) → IsAtRoot (g.A.Automaton.sees c.self.inside.automaton) c.self.inside.search
at_root g c = c.is_at_root.ensures c.if-not-is_at_root.false

open_yet : (g : given.Over) (c : After-left-2 g) → c.self.inside.search.ended ≡ false
open_yet g c = let E : LeftmostStreamed g.row.V.Denot g.row.A.Denot → Type 0 = λ x. x.ended ≡ false in subst E (sym c.self.view_is) c.requires.open

-- all units were read
all_read : (g : given.Over) (c : After-left-2 g) → c.self.inside.search.walked ≡ length c.self.inside.search.ring.items
all_read g c =
    let unit = g.A.Unit.EdgeLabel in
    let W : LeftmostStreamed g.row.V.Denot g.row.A.Denot → Type 0 = λ x. x.waiting ≡ false in
    (none_waits unit.width g.met.A.Unit.EdgeLabel.wide (g.A.Automaton.sees c.self.inside.automaton) unit.unit c.self.invariant.1 (subst W (sym c.self.view_is) c.requires.taken)).1

-- the places fit
fits : (g : given.Over) (c : After-left-2 g) → size g.A.Unit.EdgeLabel.width c.self.inside.search.seen.since + size g.A.Unit.EdgeLabel.width (passes g c).front < 2 ^ 64
fits g c =
    let width = g.A.Unit.EdgeLabel.width in let rest = g.H.Haystack.rest in let p = passes g c in
    let F : LeftmostStreamed g.row.V.Denot g.row.A.Denot → Type 0 = λ x. size width x.read + size width (rest c.args.block) < 2 ^ 64 in
    omega (arith, subst F (sym c.self.view_is) c.requires.fits, ap (size width) p.parts, size-append width p.front (rest c.skip.new.rest))

pub overflow_sub-bytes : goal.overflow_sub-bytes
overflow_sub-bytes g c =
    let width = g.A.Unit.EdgeLabel.width in let p = passes g (goal.at.overflow_sub-bytes g c).After-left-2 in
    omega (arith, c.left.ensures, c.left-2.ensures, ap (size width) p.parts, size-append width p.front (g.H.Haystack.rest c.skip.new.rest))

pub pass_over-requires-clause-units : goal.pass_over-requires-clause-units
pass_over-requires-clause-units g c =
    let at = (goal.at.pass_over-requires-clause-units g c).After-left-2 in let p = passes g at in
    (p.front, g.H.Haystack.rest c.skip.new.rest, p.parts, ends g at)

pub pass_over-requires-clause-none : goal.pass_over-requires-clause-none
pass_over-requires-clause-none g c =
    let unit = g.A.Unit.EdgeLabel in let ring = c.self.inside.search.ring in let at = (goal.at.pass_over-requires-clause-none g c).After-left-2 in
    let kept = none_kept unit.width g.met.A.Unit.EdgeLabel.wide (g.A.Automaton.sees c.self.inside.automaton) unit.unit c.self.invariant.1 (at_root g at) (all_read g at) in
    nil_from_length ring.items (omega (arith, ap length kept, length-map ring.items unit.unit))

pub pass_over-requires-clause-fits : goal.pass_over-requires-clause-fits
pass_over-requires-clause-fits g c =
    let unit = g.A.Unit.EdgeLabel in let is = c.self.invariant.1 in let at = (goal.at.pass_over-requires-clause-fits g c).After-left-2 in
    omega (
      arith,
      fits g at,
      ends g at,
      place_is unit.width (g.A.Automaton.sees c.self.inside.automaton) unit.unit is,
      ap (size unit.width) is.parts,
      size-append unit.width is.passed (is.w ++ is.ahead),
      size-append unit.width is.w is.ahead,
    )

pub pass_over-requires-clause-room : goal.pass_over-requires-clause-room
pass_over-requires-clause-room g c = room_some c.self.invariant.1.room

-- the search behind what was passed over
moves : (g : given.Over) (c : After-left-2 g) (t : Search g.row.A-Unit.Denot g.row.ALLOC.Denot) → TakesFront g.A.Unit.EdgeLabel.width g.A.Unit.EdgeLabel.unit c.self.inside.search (passes g c).front t
    → GoesOn g.A.Unit.EdgeLabel.width (g.A.Automaton.sees c.self.inside.automaton) g.A.Unit.EdgeLabel.unit c.self.inside.search (passes g c).front t
moves g c t takes =
    let unit = g.A.Unit.EdgeLabel in let p = passes g c in
    goes_on unit.width g.met.A.Unit.EdgeLabel.wide (g.A.Automaton.sees c.self.inside.automaton) unit.unit c.self.invariant.1 (at_root g c) (all_read g c) (open_yet g c) p.front (g.H.Haystack.rest c.skip.new.rest) p.none takes (fits g c)

pub invariant_of-self : goal.invariant_of-self
invariant_of-self g c =
    let at = (goal.at.invariant_of-self g c).After-left-2 in let p = passes g at in
    (c.self.invariant.0, (moves g at c.pass_over.new.self (c.pass_over.ensures p.front (g.H.Haystack.rest c.skip.new.rest) p.parts (ends g at))).searches)

pub returns-clause-skipped : goal.returns-clause-skipped
returns-clause-skipped g c =
    let unit = g.A.Unit.EdgeLabel in let sees = g.A.Automaton.sees in let rest = g.H.Haystack.rest in let at = (goal.at.returns-clause-skipped g c).After-left-2 in let p = passes g at in
    let view = sees c.self.inside.automaton in let later = rest c.skip.new.rest in
    let on = moves g at c.pass_over.new.self (c.pass_over.ensures p.front later p.parts (ends g at)) in
    let P : LeftmostStreamed g.row.V.Denot g.row.A.Denot → Type 0 =
    λ x. HasSkipped unit.width (sees x.automaton).content x (rest c.args.block) (c.left.result - c.left-2.result) (streamed unit.width sees c.self.inside.automaton c.self.inside.folds c.pass_over.new.self) in
    subst P c.self.view_is
    (record {
      front = p.front;
      back = later;
      parts = p.parts;
      ends = ends g at;
      read = on.read;
      clear = λ _. ap (leftmost unit.width view.content) on.read ∙ front_clear unit.width g.met.A.Unit.EdgeLabel.wide view unit.unit c.self.invariant.1 (at_root g at) (all_read g at) (open_yet g at) p.front later p.none;
    })

pub returns-clause-given : goal.returns-clause-given
returns-clause-given g c =
    let unit = g.A.Unit.EdgeLabel in let at = (goal.at.returns-clause-given g c).After-left-2 in let p = passes g at in
    let P : LeftmostStreamed g.row.V.Denot g.row.A.Denot → Type 0 = λ x. given_of unit.width (g.A.Automaton.sees c.self.inside.automaton).content c.pass_over.new.self ≡ x.given in
    subst P c.self.view_is (moves g at c.pass_over.new.self (c.pass_over.ensures p.front (g.H.Haystack.rest c.skip.new.rest) p.parts (ends g at))).given

pub returns-clause-ended : goal.returns-clause-ended
returns-clause-ended g c =
    let at = (goal.at.returns-clause-ended g c).After-left-2 in let p = passes g at in
    (moves g at c.pass_over.new.self (c.pass_over.ensures p.front (g.H.Haystack.rest c.skip.new.rest) p.parts (ends g at))).ended ∙ open_yet g at

pub returns-clause-turns : goal.returns-clause-turns
returns-clause-turns g c =
    let at = (goal.at.returns-clause-turns g c).After-left-2 in let p = passes g at in
    let P : LeftmostStreamed g.row.V.Denot g.row.A.Denot → Type 0 = λ x. c.pass_over.new.self.turns ≡ x.turns in
    subst P c.self.view_is (moves g at c.pass_over.new.self (c.pass_over.ensures p.front (g.H.Haystack.rest c.skip.new.rest) p.parts (ends g at))).turns
