-- Where nothing waits there is room for one more unit, and one that is read later changes no match that was given.
use Rattle.std.proofs.Common.{◌≡◌, ◌<◌, ◌+◌, ◌^◌, ◌++◌, ◌∷◌, [], false, subst, sym, ap, ◌∙◌, arith}
use Rattle.daachorse_core.specs.Seen.{SeenUnits}
use Rattle.daachorse_model.specs.Folding.{as_read}
use Rattle.daachorse_model.specs.Units.{size}
use Rattle.daachorse_streams.specs.declared.search.Search.{Search}
use Rattle.daachorse_streams.specs.Searching.{IsSearching, given_of}
use Rattle.daachorse_streams.specs.Streamed.{LeftmostStreamed}
use Rattle.daachorse_streams.proofs.StreamLaws.{has_room, none_waits, pushed}
use Rattle.daachorse_streams.proofs.leftmost_stream.LeftmostStream.consume.Given as given
use Rattle.daachorse_streams.proofs.leftmost_stream.LeftmostStream.consume.Goals as goal
use Rattle.daachorse_streams.proofs.leftmost_stream.LeftmostStream.consume.Goals.{After-push}

pub push_back_reserved-requires : goal.push_back_reserved-requires
push_back_reserved-requires g c =
    let unit = g.A.Unit.EdgeLabel in let s = c.self.inside.search in let view = g.A.Automaton.sees c.self.inside.automaton in
    let W : LeftmostStreamed g.row.V.Denot g.row.A.Denot → Type 0 = λ x. x.waiting ≡ false in
    let quiet = none_waits unit.width g.met.A.Unit.EdgeLabel.wide view unit.unit c.self.invariant.1 (subst W (sym c.self.view_is) c.requires.taken) in
    omega (arith, s.ring.ok.0, has_room unit.width g.met.A.Unit.EdgeLabel.wide view unit.unit c.self.invariant.1 quiet.0 quiet.1)

-- the search with one more unit
abbrev moved : (g : given.Over) → After-push g → Search g.row.A-Unit.Denot g.row.ALLOC.Denot
moved g c = let s = c.self.inside.search in
    record { ring = c.push_back_reserved.new.self; walked = s.walked; scan = s.scan; skips = s.skips; after = s.after; ended = s.ended; turns = s.turns; seen = c.push.new.self }

-- the unit is there to read, and no match is given
record Pushes (g : given.Over) (c : After-push g) : Type 0 where
  searches : IsSearching g.A.Unit.EdgeLabel.width (g.A.Automaton.sees c.self.inside.automaton) g.A.Unit.EdgeLabel.unit (moved g c)
  same : given_of g.A.Unit.EdgeLabel.width (g.A.Automaton.sees c.self.inside.automaton).content (moved g c) ≡ given_of g.A.Unit.EdgeLabel.width (g.A.Automaton.sees c.self.inside.automaton).content c.self.inside.search
  since : c.push.new.self.since ≡ c.self.inside.search.seen.since ++ g.A.Unit.EdgeLabel.unit c.as_given-read.result ∷ []

pushes : (g : given.Over) (c : After-push g) → Pushes g c
pushes g c =
    let unit = g.A.Unit.EdgeLabel in let s = c.self.inside.search in let view = g.A.Automaton.sees c.self.inside.automaton in
    let E : LeftmostStreamed g.row.V.Denot g.row.A.Denot → Type 0 = λ x. x.ended ≡ false in
    let F : LeftmostStreamed g.row.V.Denot g.row.A.Denot → Type 0 = λ x. size unit.width x.read + unit.width (unit.unit c.args.unit) < 2 ^ 64 in
    let fits = subst F (sym c.self.view_is) c.requires.fits in
    let since : c.push.new.self.since ≡ s.seen.since ++ unit.unit c.as_given-read.result ∷ [] = ap (λ (x : SeenUnits). x.since) c.push.ensures ∙ ap (λ n. s.seen.since ++ n ∷ []) c.code.ensures in
    let next = pushed unit.width g.met.A.Unit.EdgeLabel.wide view unit.unit c.self.invariant.1 (subst E (sym c.self.view_is) c.requires.open) c.as_given-read.result (omega (arith, fits, c.as_given-read.ensures.width))
    c.push_back_reserved.new.self c.push_back_reserved.ensures.items c.push_back_reserved.ensures.capacity c.push.new.self since (ap (λ (x : SeenUnits). x.given) c.push.ensures) in
    record { searches = next.0; same = next.1; since = since }

pub invariant_of-self : goal.invariant_of-self
invariant_of-self g c = (c.self.invariant.0, (pushes g (goal.at.invariant_of-self g c).After-push).searches)

pub returns-clause-read : goal.returns-clause-read
returns-clause-read g c =
    let unit = g.A.Unit.EdgeLabel in let s = c.self.inside.search in
    let P : LeftmostStreamed g.row.V.Denot g.row.A.Denot → Type 0 = λ x. c.push.new.self.since ≡ x.read ++ as_read x.folds (unit.unit c.args.unit ∷ []) in
    subst P c.self.view_is ((pushes g (goal.at.returns-clause-read g c).After-push).since ∙ ap (λ y. s.seen.since ++ y) (sym c.as_given-read.ensures.unit))

pub returns-clause-given : goal.returns-clause-given
returns-clause-given g c =
    let unit = g.A.Unit.EdgeLabel in let view = g.A.Automaton.sees c.self.inside.automaton in
    let P : LeftmostStreamed g.row.V.Denot g.row.A.Denot → Type 0 = λ x. given_of unit.width view.content (moved g (goal.at.returns-clause-given g c).After-push) ≡ x.given in
    subst P c.self.view_is (pushes g (goal.at.returns-clause-given g c).After-push).same
