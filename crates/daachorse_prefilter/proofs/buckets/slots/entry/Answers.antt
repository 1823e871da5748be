-- The bytes of a haystack are below 256.
use Rattle.std.proofs.Common.{◌+◌, get_or, ap, arith}
use Rattle.daachorse_prefilter.proofs.buckets.slots.entry.Goals as goal

pub returns : goal.returns
returns c =
    let h = c.args.haystack.now in let p = c.args.place in
    ap (λ s. get_or c.args.entries.now s 0) (c.slot.ensures.is (get_or h p 0) (get_or h (p + 1) 0) (get_or h (p + 2) 0) (get_or h (p + 3) 0)
    (omega (arith, c.type_inv.haystack p)) (omega (arith, c.type_inv.haystack (p + 1))) (omega (arith, c.type_inv.haystack (p + 2))) c.four.ensures)
