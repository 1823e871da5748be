-- Each place found is a boundary, or is passed over.
use Rattle.std.proofs.Common.{ℕ, Bool, ◌&&◌, List, refl, subst}
use Rattle.std.proofs.lemmas.Bool.{false≢true}
use Rattle.std.specs.Prelude.{option_map}
use Rattle.daachorse_prefilter.specs.Buckets.{may_begin}
use Rattle.daachorse_prefilter.specs.Filters.{admits}
use Rattle.daachorse_prefilter.specs.Places.{IsFirstPlace}
use Rattle.daachorse_prefilter.proofs.Boundaries.{boundary_found, passed_over}
use Rattle.daachorse_prefilter.proofs.places.find_boundary.Goals as goal

pub returns-then-is_char_boundary : goal.returns-then-is_char_boundary
returns-then-is_char_boundary g c =
    let read = g.R.ByteReading.read in let passes : List ℕ → Bool = λ w. may_begin (option_map (λ b. b.now) c.args.buckets) w && admits c.args.filter.now w in let r : ℕ = c.find_place-found.result in
    let P : List ℕ → Type 0 = λ w. IsFirstPlace passes (read w) c.places.from r in
    boundary_found passes (read c.args.haystack.now) c.args.pos c.places.from r c.places.invariant.low (subst P c.as_bytes.ensures.value c.find_place-found.ensures) c.places.invariant.none
    ((g.met.R.ByteReading.same_boundaries c.args.haystack.now r).1 (c.if-is_char_boundary.ensures.test.0 refl))

pub places-preserved : goal.places-preserved
places-preserved g c =
    let read = g.R.ByteReading.read in let passes : List ℕ → Bool = λ w. may_begin (option_map (λ b. b.now) c.args.buckets) w && admits c.args.filter.now w in let r : ℕ = c.find_place-found.result in
    let P : List ℕ → Type 0 = λ w. IsFirstPlace passes (read w) c.places.from r in
    let next = passed_over passes (read c.args.haystack.now) c.args.pos c.places.from r c.places.invariant.low (subst P c.as_bytes.ensures.value c.find_place-found.ensures) c.places.invariant.none
    (λ at. false≢true (c.if-is_char_boundary.ensures.test.1 ((g.met.R.ByteReading.same_boundaries c.args.haystack.now r).0 at))) in
    record { low = next.0; none = next.1 }
