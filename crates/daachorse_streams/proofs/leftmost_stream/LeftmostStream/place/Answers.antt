-- The units that the scan did not read come behind its place, and each takes the place on.
use Rattle.std.proofs.Common.{◌≡◌, ◌+◌, map, drop, ap, ◌∙◌, arith}
use Rattle.std.proofs.lemmas.List.{drop_all}
use Rattle.daachorse_model.specs.Units.{size}
use Rattle.daachorse_model.proofs.SlowLaws.{drop-item}
use Rattle.daachorse_streams.specs.Streamed.{LeftmostStreamed}
use Rattle.daachorse_streams.proofs.StreamLaws.{place_before}
use Rattle.daachorse_streams.proofs.leftmost_stream.LeftmostStream.place.Given as given
use Rattle.daachorse_streams.proofs.leftmost_stream.LeftmostStream.place.Goals as goal
use Rattle.daachorse_streams.proofs.leftmost_stream.LeftmostStream.place.Goals.{After-num_bytes-place}

pub units-init : goal.units-init
units-init g c =
    let unit = g.A.Unit.EdgeLabel in
    place_before unit.width g.met.A.Unit.EdgeLabel.wide (g.A.Automaton.sees c.self.inside.automaton) unit.unit c.self.invariant.1
    ∙ ap (λ (x : LeftmostStreamed g.row.V.Denot g.row.A.Denot). size unit.width x.read) c.self.view_is

-- the next unit goes from those that are left to the place
moved : (g : given.Over) (c : After-num_bytes-place g) → let unit = g.A.Unit.EdgeLabel in
    (c.units.place + c.num_bytes-place.result) + size unit.width (map unit.unit (drop (c.units.index + 1) c.self.inside.search.ring.items)) ≡ size unit.width c.args.self.now.read
moved g c =
    let unit = g.A.Unit.EdgeLabel in let ring = c.self.inside.search.ring in
    let next = drop-item ring.items c.units.index c.index.result.now (omega (arith, c.units-test.true, c.len-index-end.ensures, ring.ok.0)) c.index.ensures in
    omega (arith, c.units.invariant, ap (λ xs. size unit.width (map unit.unit xs)) next, c.num_bytes-place.ensures)

pub overflow_add-place : goal.overflow_add-place
overflow_add-place g c =
    let width = g.A.Unit.EdgeLabel.width in
    omega (arith, moved g c, c.self.invariant.1.fits, ap (λ (x : LeftmostStreamed g.row.V.Denot g.row.A.Denot). size width x.read) c.self.view_is)

pub units-preserved : goal.units-preserved
units-preserved g c = moved g c

pub returns : goal.returns
returns g c =
    let unit = g.A.Unit.EdgeLabel in let ring = c.self.inside.search.ring in
    let none = drop_all c.units.index ring.items (omega (arith, c.units-test.false, c.len-index-end.ensures, ring.ok.0)) in
    omega (arith, c.units.invariant, ap (λ xs. size unit.width (map unit.unit xs)) none)
