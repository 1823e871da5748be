-- A rank is put in right behind its link, which stands already, since links fall; what came behind that link now comes behind the rank,
-- whose link path goes through that link.
use Rattle.std.proofs.Common.{◌≡◌, ◌<◌, ◌≤◌, length, subst, get_or, inl, inr, arith, add-one}
use Rattle.std.proofs.lemmas.List.{get_or_read}
use Rattle.daachorse_array.specs.Near.{up}
use Rattle.daachorse_array.specs.Tours.{IsTour}
use Rattle.daachorse_array.proofs.NearLaws.{ups_fall}
use Rattle.daachorse_array.proofs.TourLaws.{tour_add}
use Rattle.daachorse_array.proofs.trie.Trie.tour.Goals as goal

pub loop-m-preserved : goal.loop-m-preserved
loop-m-preserved g c =
    let fs = c.args.self.now.fails.items in
    let inv = c.loop-m.invariant in
    let m = c.loop-m.m in
    let next = c.loop-m.next.items in
    let n = length fs in
    let lt : m < n = omega (arith, c.loop-m-test.true, inv.is) in
    let ups = ups_fall fs m (λ q low _ high. c.requires.fall q low high) m (omega arith) lt in
    let most : up fs m ≤ n = elim ups [ inl a ↦ omega (arith, a, lt) | inr b ↦ omega (arith, b) ] in
    let at : c.above-above.result ≡ up fs m = c.above-above.ensures in
    let low : c.above-above.result < length next = omega (arith, at, most, inv.tour.size) in
    let read : c.index.result.now ≡ get_or next c.above-above.result 0 =
    get_or_read next c.above-above.result c.index.result.now low c.index.ensures 0 in
    record {
      is = inv.is;
      tour = rw (add-one m, read, at) (tour_add (up fs) n next m inv.tour lt ups);
    }

pub returns-clause-ok : goal.returns-clause-ok
returns-clause-ok g c =
    let fs = c.args.self.now.fails.items in
    let inv = c.loop-m.invariant in
    let e : c.loop-m.m ≡ length fs = omega (arith, c.loop-m.auto.m-end, inv.is, c.loop-m-test.false) in
    subst (λ k. IsTour (up fs) (length fs) c.loop-m.next.items k) e inv.tour
