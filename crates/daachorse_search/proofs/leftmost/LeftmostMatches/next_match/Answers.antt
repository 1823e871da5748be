-- A scan takes off units in which nothing starts, or finds the best match to come: it is the first that is left, unless it is empty and right behind a nonempty one, and the search goes on behind it.
use Rattle.std.proofs.Common.{◌≡◌, ◌+◌, ◌-◌, ℕ, Bool, true, false, cond, List, ◌∷◌, ◌++◌, length, sym, ap, ◌∙◌, subst, arith}
use Rattle.std.proofs.lemmas.Grind.{common_steps}
use Rattle.std.proofs.lemmas.List.{length-append}
use Rattle.daachorse_core.specs.Seen.{SeenUnits}
use Rattle.daachorse_model.specs.declared.Match.{Match}
use Rattle.daachorse_model.specs.Units.{size}
use Rattle.daachorse_search.specs.declared.leftmost.LeftmostMatches.TheInside.{Inside}
use Rattle.daachorse_search.specs.LeftmostSearches.{StandsBehind, IsResting, before_rest, leftmost_left}
use Rattle.daachorse_search.proofs.LeftmostLaws.{whole_size, skipped, cleared, fewer_left, best_ends, best_fits, output_fits, gives_key, gives_empty, one_unless, unless}
use Rattle.daachorse_search.proofs.leftmost.LeftmostMatches.next_match.Given as given
use Rattle.daachorse_search.proofs.leftmost.LeftmostMatches.next_match.Goals as goal
use Rattle.daachorse_search.proofs.leftmost.LeftmostMatches.next_match.Goals.{After-skip_places-may_stop, After-skip_unit-self-inside}

abbrev Ins : given.Over → Type 0
Ins g = Inside g.row.V.Denot g.row.A.Denot g.row.H.Denot g.row.F.Denot g.row.A-Unit.Denot g.row.A-Label.Denot

-- the search rests where `later` begins
abbrev rests : (g : given.Over) → Ins g → Type 0 → List ℕ → Bool → Bool → ℕ → ℕ → Type 0
rests g s opened later after done turns given =
    IsResting g.A.Unit.EdgeLabel.width (g.A.Automaton.sees s.automaton) (g.F.Filter.passes s.first_filter.value) (g.F.Filter.opened s.first_filter.value) opened (g.H.Haystack.rest s.whole.value) later (s.size - size g.A.Unit.EdgeLabel.width later) after done turns given

abbrev left_at : (g : given.Over) → Ins g → List ℕ → Bool → Bool → List (Match g.row.V.Denot)
left_at g s later after done = leftmost_left g.A.Unit.EdgeLabel.width (g.A.Automaton.sees s.automaton).content (s.size - size g.A.Unit.EdgeLabel.width later) later after done

-- where the filter moved it on, with the same matches left
record Begun (g : given.Over) (s : Ins g) (filter : g.row.F.Denot) (rest : g.row.H.Denot) (left : List (Match g.row.V.Denot)) : Type 0 where
  same : (w : List ℕ) → g.F.Filter.passes filter w ≡ g.F.Filter.passes s.first_filter.value w
  resting : rests g s ⊥ (g.H.Haystack.rest rest) s.after false s.turns s.seen.given
  still : left_at g s (g.H.Haystack.rest rest) s.after false ≡ left

begun : (g : given.Over) (c : After-skip_places-may_stop g) → Begun g c.scans.self-inside c.skip_places-may_stop.new.filter c.skip_places-may_stop.new.rest c.args.self.now.left
begun g c =
    let was = c.scans.invariant in let skip = c.skip_places-may_stop.ensures in
    let next = skipped was.resting was.spans c.if-self.false was.same skip.skipped in
    record { same = λ w. skip.passes w ∙ was.same w; resting = next.resting; still = sym next.left ∙ was.left }

pub scan_best-requires-clause-fits : goal.scan_best-requires-clause-fits
scan_best-requires-clause-fits g c = let to = begun g (goal.at.scan_best-requires-clause-fits g c).After-skip_places-may_stop in omega (arith, to.resting.fits, whole_size to.resting)

pub after-requires : goal.after-requires
after-requires g c = (c.in-Clear.ensures.front, c.in-Clear.ensures.rest, c.in-Clear.ensures.parts, c.in-Clear.ensures.ends)

-- the rest is a part of the whole haystack
pub overflow_sub-place : goal.overflow_sub-place
overflow_sub-place g c = let to = begun g (goal.at.overflow_sub-place g c).After-skip_places-may_stop in omega (arith, c.left-in-Best.ensures, c.scans.invariant.spans, whole_size to.resting)

pub overflow_add-place : goal.overflow_add-place
overflow_add-place g c = let to = begun g (goal.at.overflow_add-place g c).After-skip_places-may_stop in omega (arith, c.left-in-Best.ensures, c.scans.invariant.spans, whole_size to.resting, to.resting.fits, best_fits c.in-Best.ensures)

pub to_match-best-requires : goal.to_match-best-requires
to_match-best-requires g c = omega (arith, output_fits c.in-Best.ensures c.output-output.ensures.value)

pub after-requires-then-found-gt0 : goal.after-requires-then-found-gt0
after-requires-then-found-gt0 g c = best_ends c.in-Best.ensures

-- the best is not empty
record GaveKey (g : given.Over) (c : goal.After-give g) : Type 0 where
  resting : rests g c.scans.self-inside (g.F.Filter.opened c.skip_places-may_stop.new.filter) (g.H.Haystack.rest c.after-then-found-gt0.result) true c.scans.self-inside.done c.scan_best.new.turns c.give.new.self.given
  left : c.args.self.now.left ≡ c.to_match-best.result ∷ left_at g c.scans.self-inside (g.H.Haystack.rest c.after-then-found-gt0.result) true c.scans.self-inside.done
  behind : StandsBehind g.A.Unit.EdgeLabel.width c.to_match-best.result (g.H.Haystack.rest c.scans.self-inside.whole.value) (before_rest (g.H.Haystack.rest c.scans.self-inside.whole.value) (g.H.Haystack.rest c.after-then-found-gt0.result))

gave_key : (g : given.Over) (c : goal.After-give g) → Begun g c.scans.self-inside c.skip_places-may_stop.new.filter c.skip_places-may_stop.new.rest c.args.self.now.left → GaveKey g c
gave_key g c to =
    let next = gives_key to.resting c.scans.invariant.spans g.met.A.Unit.EdgeLabel.wide c.in-Best.ensures c.output-output.ensures.value c.left-in-Best.ensures c.to_match-best.ensures
    (g.F.Filter.opened c.skip_places-may_stop.new.filter) c.if-found-gt0.true c.after-then-found-gt0.ensures c.if-self.false (ap (λ (x : SeenUnits). x.given) c.give.ensures) in
    record { resting = next.0.resting; left = sym to.still ∙ next.0.left; behind = next.1 }

pub invariant_of-self-then-found-gt0 : goal.invariant_of-self-then-found-gt0
invariant_of-self-then-found-gt0 g c =
    let to = begun g (goal.at.invariant_of-self-then-found-gt0 g c).After-skip_places-may_stop in
    (to.same, (gave_key g c to).resting, c.scans.invariant.spans)

pub returns-then-found-gt0 : goal.returns-then-found-gt0
returns-then-found-gt0 g c =
    let was = c.scans.invariant in let gave = gave_key g c (begun g (goal.at.returns-then-found-gt0 g c).After-skip_places-may_stop) in
    record { automaton = was.automaton; filter = was.filter; haystack = was.haystack; first = gave.left; counted = ap (λ (x : SeenUnits). x.given) c.give.ensures ∙ ap (λ k. k + 1) was.given; behind = gave.behind }

pub scans-preserved-in-Clear : goal.scans-preserved-in-Clear
scans-preserved-in-Clear g c =
    let was = c.scans.invariant in let to = begun g (goal.at.scans-preserved-in-Clear g c).After-skip_places-may_stop in
    let next = cleared to.resting was.spans g.met.A.Unit.EdgeLabel.wide (g.F.Filter.opened c.skip_places-may_stop.new.filter) c.in-Clear.ensures c.after.ensures c.left.ensures in
    record { same = to.same; resting = next.resting; left = sym next.left ∙ to.still; spans = was.spans; automaton = was.automaton; filter = was.filter; haystack = was.haystack; given = was.given }

-- the best is empty: it is given, unless it is passed over
record GaveEmpty (g : given.Over) (c : After-skip_unit-self-inside g) : Type 0 where
  resting : rests g c.scans.self-inside (g.F.Filter.opened c.skip_places-may_stop.new.filter) (g.H.Haystack.rest c.skip_unit-self-inside.new.rest) false c.skip_unit-self-inside.result c.scan_best.new.turns (one_unless c.scans.self-inside.after c.scans.self-inside.seen.given)
  left : c.args.self.now.left ≡ unless c.scans.self-inside.after c.to_match-best.result ++ left_at g c.scans.self-inside (g.H.Haystack.rest c.skip_unit-self-inside.new.rest) false c.skip_unit-self-inside.result
  behind : StandsBehind g.A.Unit.EdgeLabel.width c.to_match-best.result (g.H.Haystack.rest c.scans.self-inside.whole.value) (before_rest (g.H.Haystack.rest c.scans.self-inside.whole.value) (g.H.Haystack.rest c.skip_unit-self-inside.new.rest))

gave_empty : (g : given.Over) (c : After-skip_unit-self-inside g) → Begun g c.scans.self-inside c.skip_places-may_stop.new.filter c.skip_places-may_stop.new.rest c.args.self.now.left → GaveEmpty g c
gave_empty g c to =
    let next = gives_empty to.resting c.scans.invariant.spans g.met.A.Unit.EdgeLabel.wide c.in-Best.ensures c.output-output.ensures.value c.left-in-Best.ensures c.to_match-best.ensures
    (g.F.Filter.opened c.skip_places-may_stop.new.filter) c.skip_unit-self-inside.result c.if-found-gt0.false c.skip_unit-self-inside.ensures in
    record { resting = next.0.resting; left = sym to.still ∙ next.0.left; behind = next.1 }

pub invariant_of-self-then-not-passed_over : goal.invariant_of-self-then-not-passed_over
invariant_of-self-then-not-passed_over g c =
    let s = c.scans.self-inside in let to = begun g (goal.at.invariant_of-self-then-not-passed_over g c).After-skip_places-may_stop in
    let gave = gave_empty g (goal.at.invariant_of-self-then-not-passed_over g c).After-skip_unit-self-inside to in
    let P : ℕ → Type 0 = λ k. rests g s (g.F.Filter.opened c.skip_places-may_stop.new.filter) (g.H.Haystack.rest c.skip_unit-self-inside.new.rest) false c.skip_unit-self-inside.result c.scan_best.new.turns k in
    (to.same, subst P (ap (λ b. one_unless b s.seen.given) c.if-not-passed_over.true ∙ sym (ap (λ (x : SeenUnits). x.given) c.give-then-not-passed_over.ensures)) gave.resting, c.scans.invariant.spans)

pub returns-then-not-passed_over : goal.returns-then-not-passed_over
returns-then-not-passed_over g c =
    let was = c.scans.invariant in
    let gave = gave_empty g (goal.at.returns-then-not-passed_over g c).After-skip_unit-self-inside (begun g (goal.at.returns-then-not-passed_over g c).After-skip_places-may_stop) in
    record {
      automaton = was.automaton;
      filter = was.filter;
      haystack = was.haystack;
      first = gave.left ∙ ap (λ b. unless b c.to_match-best.result ++ left_at g c.scans.self-inside (g.H.Haystack.rest c.skip_unit-self-inside.new.rest) false c.skip_unit-self-inside.result) c.if-not-passed_over.true;
      counted = ap (λ (x : SeenUnits). x.given) c.give-then-not-passed_over.ensures ∙ ap (λ k. k + 1) was.given;
      behind = gave.behind;
    }

pub scans-preserved : goal.scans-preserved
scans-preserved g c =
    let s = c.scans.self-inside in let was = c.scans.invariant in let to = begun g (goal.at.scans-preserved g c).After-skip_places-may_stop in
    let gave = gave_empty g (goal.at.scans-preserved g c).After-skip_unit-self-inside to in
    let P : ℕ → Type 0 = λ k. rests g s (g.F.Filter.opened c.skip_places-may_stop.new.filter) (g.H.Haystack.rest c.skip_unit-self-inside.new.rest) false c.skip_unit-self-inside.result c.scan_best.new.turns k in
    record {
      same = to.same;
      resting = subst P (ap (λ b. one_unless b s.seen.given) c.if-not-passed_over.false) gave.resting;
      spans = was.spans;
      left = sym (gave.left ∙ ap (λ b. unless b c.to_match-best.result ++ left_at g s (g.H.Haystack.rest c.skip_unit-self-inside.new.rest) false c.skip_unit-self-inside.result) c.if-not-passed_over.false);
      automaton = was.automaton;
      filter = was.filter;
      haystack = was.haystack;
      given = was.given;
    }

-- what was scanned is taken off, or nothing was left
pub scans-smaller-in-Clear : goal.scans-smaller-in-Clear
scans-smaller-in-Clear g c =
    let skip = c.skip_places-may_stop.ensures.skipped in
    omega (
      arith,
      fewer_left c.in-Clear.ensures c.after.ensures c.left.ensures,
      ap length skip.parts,
      length-append skip.front (g.H.Haystack.rest c.skip_places-may_stop.new.rest),
      ap {B = ℕ} (λ d. cond d 0 1) c.if-self.false,
    )

pub returns-then-self : goal.returns-then-self
returns-then-self g c = grind (arith, common_steps)

pub scans-smaller : goal.scans-smaller
scans-smaller g c = grind (arith, common_steps)
