-- Each pattern that is given is counted.
use Rattle.std.proofs.Common.{ℕ, List, [], ◌∷◌, length, sym, ap, subst, length-append, arith}
use Rattle.daachorse_model.specs.Prefixes.{IsListing}
use Rattle.daachorse.specs.charwise.Automata.{dictionary_of}
use Rattle.daachorse.proofs.charwise.CharwiseDoubleArrayAhoCorasick+V+A.num_patterns.Goals as goal

pub loop-item-init : goal.loop-item-init
loop-item-init g c =
    let P : List (List ℕ × g.row.V.Denot) → Type 0 = λ listed. IsListing (dictionary_of c.args.self.now) listed in
    record { so_far = (c.into_iter-item-iterator.result, subst P (sym c.into_iter-item-iterator.ensures.into_iter_gives) c.in_ok-item-items.ensures.ok, omega (arith, ap length c.new-counted.ensures.items)) }

pub loop-item-preserved : goal.loop-item-preserved
loop-item-preserved g c =
    let (listed, is, n) = c.loop-item.invariant.so_far in
    let first = rw c.in_ok-_pattern.was at c.in-Some.ensures.steps in
    record { so_far = (listed, is, omega (arith, n, ap length first, ap length c.in_ok-push.ensures.items, length-append c.loop-item.counted.items (tt ∷ []))) }

pub returns-clause-ok : goal.returns-clause-ok
returns-clause-ok g c =
    let (listed, is, n) = c.loop-item.invariant.so_far in
    (listed, is, omega (arith, n, c.len.ensures, ap length c.in-None.ensures.steps.0))
