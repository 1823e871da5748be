-- The best match is found by reading on from the match that ends first, and where no match ends, nothing starts in the units that were read.
use Rattle.std.proofs.Common.{◌≡◌, ℕ, ◌-◌, List, [], Option, Some, refl, ap, subst, arith}
use Rattle.std.specs.Prelude.{IfSome}
use Rattle.std.specs.declared.num.NonZeroU32.{NonZeroU32}
use Rattle.daachorse_model.specs.Units.{size}
use Rattle.daachorse_search.specs.BestScans.{IsClear, IsScanning}
use Rattle.daachorse_search.proofs.best.scan_best.Goals as goal

-- what is left is no more than the haystack
pub scan_on-requires-clause-left : goal.scan_on-requires-clause-left
scan_on-requires-clause-left g c =
    let width = g.A.Unit.EdgeLabel.width in let rest = g.H.Haystack.rest in let text = rest c.args.haystack.now in
    omega (arith, c.scan_from_root.ensures.scans.fewer, ap (size width) (c.after-source.ensures [] text refl refl))

pub overflow_sub-result : goal.overflow_sub-result
overflow_sub-result g c =
    let width = g.A.Unit.EdgeLabel.width in let rest = g.H.Haystack.rest in let text = rest c.args.haystack.now in
    omega (arith, c.left.ensures, c.left-in-None.ensures, c.scan_from_root.ensures.scans.fewer, ap (size width) (c.after-source.ensures [] text refl refl))

-- a match was found
pub returns-in-Some : goal.returns-in-Some
returns-in-Some g c =
    let view = g.A.Automaton.sees c.args.automaton.now in let width = g.A.Unit.EdgeLabel.width in let rest = g.H.Haystack.rest in
    let text = rest c.args.haystack.now in let first = c.scan_from_root in let left = rest first.new.source in let t = view.text first.new.state in
    let Scanning : List ℕ → NonZeroU32 → Type 0 = λ x p. IsScanning width view x left t (Some (p.value, size width left)) c.args.turns.now first.new.turns in
    let S : Option NonZeroU32 → Type 0 = λ o. IfSome o (λ p. Scanning (rest c.after-source.result) p) in
    let T : List ℕ → Type 0 = λ x. Scanning x c.in-Some.position in
    c.scan_on.ensures c.args.turns.now (subst T (c.after-source.ensures [] text refl refl) (subst S c.in-Some.is first.ensures.scans.some))

-- nothing was
pub returns-in-None : goal.returns-in-None
returns-in-None g c =
    let view = g.A.Automaton.sees c.args.automaton.now in let width = g.A.Unit.EdgeLabel.width in let rest = g.H.Haystack.rest in
    let text = rest c.args.haystack.now in let first = c.scan_from_root in let end : ℕ = c.left.result - c.left-in-None.result in
    let same : rest c.after-source.result ≡ text = c.after-source.ensures [] text refl refl in
    let B : List ℕ → Type 0 = λ x. IsClear width view x c.args.may_stop end c.args.turns.now first.new.turns in
    subst B same (first.ensures.scans.none c.in-None.is end (omega (arith, c.left.ensures, c.left-in-None.ensures, first.ensures.scans.fewer, ap (size width) same)))
