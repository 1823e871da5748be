-- The output that was read has the length of the pattern, so its value is the next.
use Rattle.std.proofs.Common.{◌≡◌, ℕ, ◌<◌, ◌∷◌, ◌∙◌, ap, arith, rules, sym}
use Rattle.daachorse_core.specs.Outputs.{number, outputs_at, parent_of}
use Rattle.daachorse_array.specs.Descents.{own_values}
use Rattle.daachorse_array.proofs.DescentLaws.{value-read}
use Rattle.daachorse_array.proofs.values.ValuesIterator.next.Goals as goal

pub returns-clause-steps : goal.returns-clause-steps
returns-clause-steps g c =
    let s = c.self.inside in let o = c.index-outputs-get.result in let q : ℕ = c.get.result in
    let low : 0 < q = omega (arith, c.get.ensures.nonzero) in
    let at : number s.position ≡ q = ap number c.in_ok-position.was ∙ sym c.get.ensures.value in
    let read = value-read s.outputs.now s.length s.position q o c.self.invariant at low c.index-outputs-get.is (sym c.length.ensures ∙ c.if-length-self.false) in
    sym c.self.view_is ∙ (read
    ∙ (ap (λ v. v ∷ own_values s.length (outputs_at s.outputs.now (parent_of o))) (sym c.value.ensures)
    ∙ ap (λ p. c.value.result ∷ own_values s.length (outputs_at s.outputs.now p)) (sym c.parent-self-inside.ensures)))

pub returns-clause-goes : goal.returns-clause-goes
returns-clause-goes g c = let e = returns-clause-steps g c in rw e (search rules)
