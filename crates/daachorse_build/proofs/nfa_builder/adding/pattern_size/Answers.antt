-- A label adds its width, and a beginning takes no more than the whole.
use Rattle.std.proofs.Common.{zero, suc, zero-le, ◌≡◌, ◌<◌, ◌≤◌, ◌+◌, ℕ, List, [], ◌∷◌, ◌++◌, length, map, take, get_or, sym, ap, ◌∙◌, arith}
use Rattle.std.proofs.lemmas.List.{take_more, map-append}
use Rattle.daachorse_model.specs.Units.{size}
use Rattle.daachorse_model.proofs.Suffixes.{size-push}
use Rattle.daachorse_build.proofs.nfa_builder.adding.pattern_size.Goals as goal

pub overflow_add-size : goal.overflow_add-size
overflow_add-size g c =
    let short = g.met.L.EdgeLabel.short c.label-item.result c.in_range.ensures in
    let few : c.num_bytes-size.result ≤ 4 = omega (arith, short.1) in
    omega (arith, few, c.loop-label.invariant.within)

-- one label more
size_more : {L : Type 0} (width : ℕ → ℕ) (unit : L → ℕ) (p : List L) (i : ℕ) (x : L) → i < length p → x ≡ get_or p i x → size width (map unit (take (i + 1) p)) ≡ size width (map unit (take i p)) + width (unit x)
size_more width unit p i x l is =
    ap (λ q. size width (map unit q)) (take_more p i x l ∙ ap (λ y. take i p ++ y ∷ []) (sym is))
    ∙ ap (size width) (map-append unit (take i p) (x ∷ []))
    ∙ size-push width (map unit (take i p)) (unit x)

pub loop-label-preserved : goal.loop-label-preserved
loop-label-preserved g c =
    let more = size_more g.L.EdgeLabel.width g.L.EdgeLabel.unit c.args.pattern.now c.loop-label.label-index c.label-item.result c.loop-label-test.true c.label-item.is in
    record {
      sum = omega (arith, more, c.loop-label.invariant.sum, c.num_bytes-size.ensures);
      within = c.if-size.false;
    }

-- a beginning takes no more than the whole
size_of_front : {L : Type 0} (width : ℕ → ℕ) (unit : L → ℕ) (n : ℕ) (p : List L) → size width (map unit (take n p)) ≤ size width (map unit p)
size_of_front width unit zero p = zero-le
size_of_front width unit (suc n) [] = zero-le
size_of_front width unit (suc n) (x ∷ p) = omega (arith, size_of_front width unit n p)

pub returns-then-size-clause-err : goal.returns-then-size-clause-err
returns-then-size-clause-err g c =
    let p = c.args.pattern.now in
    let i = c.loop-label.label-index in
    let more = size_more g.L.EdgeLabel.width g.L.EdgeLabel.unit p i c.label-item.result c.loop-label-test.true c.label-item.is in
    let front = size_of_front g.L.EdgeLabel.width g.L.EdgeLabel.unit (i + 1) p in
    (c.invalid_argument.ensures, omega (arith, more, front, c.loop-label.invariant.sum, c.num_bytes-size.ensures, c.if-size.true))
