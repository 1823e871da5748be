-- The rows are few, so where they end is small.
use Rattle.std.proofs.Common.{◌*◌, ◌∙◌, ℕ, length, ap, arith}
use Rattle.std.proofs.lemmas.Nat.{mul-le}
use Rattle.daachorse_rows.proofs.making.Chosen.end.Goals as goal

pub overflow_cast-result : goal.overflow_cast-result
overflow_cast-result g c =
    let order = c.args.self.now.order in
    omega (arith, c.len.ensures, order.ok.0, mul-le (length order.items) 1 (length order.items) c.args.width (omega arith) (omega (arith, c.requires.wide)), c.requires.few)

pub overflow_mul-result : goal.overflow_mul-result
overflow_mul-result g c = omega (arith, ap (λ (n : ℕ). n * c.args.width) (c.len.ensures ∙ c.args.self.now.order.ok.0), c.requires.few)
