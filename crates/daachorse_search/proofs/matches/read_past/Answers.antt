-- Each turn of the loop is a skip, or none, and then one unit.
use Rattle.std.proofs.Common.{◌≡◌, ◌+◌, true, List, [], ◌∷◌, length, Option, None, refl, ap, ◌∙◌, subst, inl, inr, arith}
use Rattle.std.proofs.lemmas.List.{nil_from_length}
use Rattle.std.specs.Iterator.{YieldsFirstBy}
use Rattle.daachorse_model.specs.declared.Match.{Match}
use Rattle.daachorse_search.specs.Skipping.{HasNoPlace, SkipsTo}
use Rattle.daachorse_search.proofs.ScanLaws.{ReadsTo-first, ReadsTo-one, none_found}
use Rattle.daachorse_search.proofs.SkipLaws.{SkipsTo-first, SkipsTo-places, SkipsTo-then, SkipsTo-ended, SkipsTo-reads, no_place_skipped, sound_on}
use Rattle.daachorse_search.proofs.matches.read_past.Given as given
use Rattle.daachorse_search.proofs.matches.read_past.Goals as goal
use Rattle.daachorse_search.proofs.matches.read_past.Goals.{After-advance}

-- the unit that was read
one : (g : given.Over) (c : After-advance g) → g.H.Haystack.rest c.skip_at_root.new.rest ≡ g.W.Unit.EdgeLabel.unit c.in-Some.unit ∷ g.H.Haystack.rest c.next.new.self
one g c = g.met.H.Haystack.gives c.skip_at_root.new.rest _ c.next.new.self c.in-Some.ensures.steps

reads : (g : given.Over) (c : After-advance g) {found : List (Match g.row.V.Denot)} → g.W.Stepwise.sees.found (g.W.Stepwise.sees.automaton c.advance.new.self) (g.W.Stepwise.sees.read c.advance.new.self) ≡ found
    → SkipsTo g.W.Unit.EdgeLabel.width g.W.Stepwise.sees (g.F.Filter.passes c.args.filter.now) c.args.walk.now (g.H.Haystack.rest c.args.rest.now) c.args.taken.now found c.advance.new.self (g.H.Haystack.rest c.next.new.self) c.skip_at_root.new.taken
reads g c is =
    SkipsTo-reads (SkipsTo-then c.units.invariant.skips (SkipsTo-places c.units.invariant.passes c.skip_at_root.ensures.skips))
    (ReadsTo-one ReadsTo-first (one g c) c.advance.ensures.automaton c.advance.ensures.read is) (omega (arith, ap length (one g c)))

-- where no place is left, there is no unit to read
no_unit : (g : given.Over) (c : After-advance g) → HasNoPlace (g.F.Filter.passes c.args.filter.now) (g.F.Filter.opened c.args.filter.now) (g.W.Stepwise.sees.read c.args.walk.now) (g.H.Haystack.rest c.args.rest.now) → ⊥
no_unit g c h =
    let l = c.units in
    let none = no_place_skipped l.invariant.passes (l.invariant.idle h).1 c.skip_at_root.ensures.skips.fewer c.skip_at_root.ensures.idle in
    omega (arith, ap length none, ap length (one g c))

pub units-init : goal.units-init
units-init g c = record { passes = λ w. refl; skips = SkipsTo-first; idle = λ h. (refl, h) }

pub skip_at_root-requires-clause-sound : goal.skip_at_root-requires-clause-sound
skip_at_root-requires-clause-sound g c =
    let l = c.units in
    sound_on (ap g.W.Stepwise.sees.content l.invariant.skips.same) l.invariant.passes c.requires

pub skip_at_root-requires-clause-asked : goal.skip_at_root-requires-clause-asked
skip_at_root-requires-clause-asked g c = c.is_open.ensures.asked c.if-not-is_open.false

pub next-requires : goal.next-requires
next-requires g c = g.met.H.Haystack.callable c.skip_at_root.new.rest

-- a filter that is closed has no place to skip to, so where none was there is nothing left
pub returns-then-not-is_open : goal.returns-then-not-is_open
returns-then-not-is_open g c =
    let view = g.W.Stepwise.sees in let rest = g.H.Haystack.rest in let l = c.units in let to = c.read_on.new in let read = c.read_on.ensures in
    record {
      passes = l.invariant.passes;
      reads = SkipsTo-reads l.invariant.skips read.reads read.fewer;
      output = read.output;
      ended = read.ended;
      idle = λ h.
          (let idle = l.invariant.idle h in
          let none : rest l.rest ≡ [] = elim idle.1 [
            | inl none ↦ none
            | inr place ↦ let open_now : c.is_open.result ≡ true = c.is_open.ensures.open place.0 in cc
          ] in
          (ap (λ w. l.taken + view.turns w) (read.over none) ∙ idle.0, nil_from_length (rest to.rest) (omega (arith, read.fewer, ap length none))));
    }

pub returns-in_default : goal.returns-in_default
returns-in_default g c =
    let rest = g.H.Haystack.rest in let to = c.skip_at_root.new in
    let P : Option g.row.W-Unit.Denot → Type 0 = λ r. YieldsFirstBy g.W.Unit.EdgeLabel.unit rest to.rest r c.next.new.self in
    let over : P None = subst P c.in_default.is (g.met.H.Haystack.gives to.rest c.next.result c.next.new.self c.next.ensures.steps) in
    let none = g.met.W.Stepwise.no_output to.walk in
    record {
      passes = λ w. c.skip_at_root.ensures.passes w ∙ c.units.invariant.passes w;
      reads = SkipsTo-ended (SkipsTo-then c.units.invariant.skips (SkipsTo-places c.units.invariant.passes c.skip_at_root.ensures.skips)) none.1 over.0 over.1;
      output = none.0;
      ended = over.1;
      idle = λ h. (c.skip_at_root.ensures.turns ∙ (c.units.invariant.idle h).0, over.1);
    }

pub returns-in-Some-advance : goal.returns-in-Some-advance
returns-in-Some-advance g c =
    let at = (goal.at.returns-in-Some-advance g c).After-advance in let stops = c.in-Some-advance.ensures.stops in
    record {
      passes = λ w. c.skip_at_root.ensures.passes w ∙ c.units.invariant.passes w;
      reads = reads g at stops.matches;
      output = stops.place;
      ended = tt;
      idle = λ h. absurd (no_unit g at h);
    }

pub units-preserved : goal.units-preserved
units-preserved g c =
    let view = g.W.Stepwise.sees in let now = c.advance.new.self in let at = (goal.at.units-preserved g c).After-advance in
    let nothing : view.found (view.automaton now) (view.read now) ≡ [] = none_found (view.given_from now) c.advance.ensures.stops.matches c.in_default-advance.is (g.met.W.Stepwise.no_output now).1 in
    record {
      passes = λ w. c.skip_at_root.ensures.passes w ∙ c.units.invariant.passes w;
      skips = reads g at nothing;
      idle = λ h. absurd (no_unit g at h);
    }

pub units-smaller : goal.units-smaller
units-smaller g c = omega (arith, c.skip_at_root.ensures.skips.fewer, ap length (one g (goal.at.units-smaller g c).After-advance))
