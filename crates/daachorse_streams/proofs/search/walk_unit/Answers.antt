-- The next unit of the queue is the first that is left to read: a unit that is passed over begins a scan, and any other is read by the scan.
use Rattle.std.proofs.Common.{◌≡◌, ℕ, ◌+◌, ◌<◌, Bool, [], ◌∷◌, ◌++◌, length, map, drop, cond, refl, sym, ap, ◌∙◌, subst, append_assoc, length-append, arith}
use Rattle.daachorse_model.specs.Units.{size}
use Rattle.daachorse_streams.specs.Scans.{IsScan}
use Rattle.daachorse_streams.specs.Searching.{Stands}
use Rattle.daachorse_streams.proofs.SearchingLaws.{next, next_fits, one_read, over_unit, place_is}
use Rattle.daachorse_streams.proofs.search.walk_unit.Goals as goal

pub overflow_add-place : goal.overflow_add-place
overflow_add-place g c =
    let view = g.A.Automaton.sees c.args.automaton.now in let unit = g.A.Unit.EdgeLabel in let s = c.args.search.now in
    omega (arith, next_fits unit.width view unit.unit c.requires.stands (omega (arith, c.requires.some, s.ring.ok.0)) c.index.result.now c.index.ensures, place_is unit.width view unit.unit c.requires.stands, c.num_bytes.ensures)

pub returns-then-search-clause-stands : goal.returns-then-search-clause-stands
returns-then-search-clause-stands g c =
    let view = g.A.Automaton.sees c.args.automaton.now in let unit = g.A.Unit.EdgeLabel in let s = c.args.search.now in let x = c.index.result.now in
    let B : ℕ → Type 0 = λ n. IsScan unit.width view (s.scan.place + n) [] c.begin-search.result [] in
    over_unit unit.width view unit.unit c.requires.stands (omega (arith, c.requires.some, s.ring.ok.0)) x c.index.ensures c.if-search.true c.pop_front.new.self c.pop_front.ensures.rest c.pop_front.ensures.capacity
    c.begin-search.result (subst B c.num_bytes.ensures c.begin-search.ensures)

pub advance-kept-requires-clause-fits : goal.advance-kept-requires-clause-fits
advance-kept-requires-clause-fits g c =
    let view = g.A.Automaton.sees c.args.automaton.now in let unit = g.A.Unit.EdgeLabel in let s = c.args.search.now in
    omega (arith, next_fits unit.width view unit.unit c.requires.stands (omega (arith, c.requires.some, s.ring.ok.0)) c.index.result.now c.index.ensures, place_is unit.width view unit.unit c.requires.stands)

pub returns-then-not-kept-clause-stands : goal.returns-then-not-kept-clause-stands
returns-then-not-kept-clause-stands g c =
    let view = g.A.Automaton.sees c.args.automaton.now in let unit = g.A.Unit.EdgeLabel in let s = c.args.search.now in let x = c.index.result.now in let is = c.requires.stands in
    let S : Bool → Type 0 = λ b. Stands unit.width view b (size unit.width is.passed) is.w s.scan is.behind in
    let within : s.walked < length s.ring.items = omega (arith, c.requires.some, s.ring.ok.0) in
    let N : Bool → Type 0 = λ b. IsScan unit.width view (size unit.width is.passed) (is.w ++ unit.unit x ∷ []) c.advance-kept.new.scan (cond b (is.behind ++ unit.unit x ∷ []) []) in
    let on = subst N c.if-not-kept.true (c.advance-kept.ensures.scan (size unit.width is.passed) is.w is.behind (subst S c.if-search.false is.stands)) in
    let following = next unit.width view unit.unit is within x c.index.ensures in
    let front : map unit.unit c.drop_front.new.ring.items ≡ following.more =
    ap (map unit.unit) c.drop_front.ensures.items ∙ ap (λ n. map unit.unit (drop (n + 1) s.ring.items)) is.walked ∙ following.rest_is in
    one_read unit.width view unit.unit is within x c.index.ensures c.if-search.false c.drop_front.new.ring 0 [] front refl c.drop_front.ensures.capacity c.advance-kept.new.scan on c.advance-kept.new.turns c.advance-kept.ensures.most c.advance-kept.ensures.least

pub returns-else-not-kept-clause-stands : goal.returns-else-not-kept-clause-stands
returns-else-not-kept-clause-stands g c =
    let view = g.A.Automaton.sees c.args.automaton.now in let unit = g.A.Unit.EdgeLabel in let s = c.args.search.now in let x = c.index.result.now in let is = c.requires.stands in
    let S : Bool → Type 0 = λ b. Stands unit.width view b (size unit.width is.passed) is.w s.scan is.behind in
    let within : s.walked < length s.ring.items = omega (arith, c.requires.some, s.ring.ok.0) in
    let N : Bool → Type 0 = λ b. IsScan unit.width view (size unit.width is.passed) (is.w ++ unit.unit x ∷ []) c.advance-kept.new.scan (cond b (is.behind ++ unit.unit x ∷ []) []) in
    let on = subst N c.if-not-kept.false (c.advance-kept.ensures.scan (size unit.width is.passed) is.w is.behind (subst S c.if-search.false is.stands)) in
    let following = next unit.width view unit.unit is within x c.index.ensures in
    let front : map unit.unit s.ring.items ≡ (is.behind ++ unit.unit x ∷ []) ++ following.more =
    is.ring ∙ ap (λ y. is.behind ++ y) following.ahead_is ∙ sym (append_assoc is.behind (unit.unit x ∷ []) following.more) in
    one_read unit.width view unit.unit is within x c.index.ensures c.if-search.false s.ring (s.walked + 1) (is.behind ++ unit.unit x ∷ []) front (omega (arith, is.walked, length-append is.behind (unit.unit x ∷ []))) refl c.advance-kept.new.scan on c.advance-kept.new.turns c.advance-kept.ensures.most c.advance-kept.ensures.least
