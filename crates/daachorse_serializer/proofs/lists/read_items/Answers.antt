-- One item more is taken of the rest; where nothing is, the whole gives nothing.
use Rattle.std.proofs.Common.{arith, ◌≡◌, ◌∙◌, sym, ap, ℕ, suc, ◌+◌, Some}
use Rattle.std.proofs.lemmas.Result.{err_from_is_err_and}
use Rattle.daachorse_core.proofs.Refusals.{at_error}
use Rattle.daachorse_serializer.specs.Forms.{IsOfItem, take_items}
use Rattle.daachorse_serializer.proofs.Items.{next_item, no_items, no_next_item, refuses_along}
use Rattle.daachorse_serializer.proofs.Reading.{IsReadRefusal-weaker}
use Rattle.daachorse_serializer.proofs.lists.read_items.Goals as goal

pub loop-i-init : goal.loop-i-init
loop-i-init g c = (
  no_items g.S.Serializable.taken c.args.src.now ∙ ap (λ xs. Some (xs, c.args.src.now)) (sym c.in_ok-items.ensures.items),
  c.in_ok-items.ensures.len,
)

pub returns-in_err-item-clause-given : goal.returns-in_err-item-clause-given
returns-in_err-item-clause-given g c =
    let t = g.S.Serializable.taken in
    let p = err_from_is_err_and c.from_residual-in_err-item.result c.from_residual-in_err-item.ensures.1 in
    rw (p.1, p.2)
    (refuses_along _ (t c.loop-i.rest.now) (take_items t c.args.count c.args.src.now)
    (no_next_item t c.loop-i.i c.args.count c.args.src.now c.loop-i.rest.now c.loop-i.items.items c.loop-i-test.true c.loop-i.invariant.0)
    c.in_err-item.ensures.given)

pub returns-in_err-item-clause-err : goal.returns-in_err-item-clause-err
returns-in_err-item-clause-err g c =
    let t = g.S.Serializable.taken in let own = g.S.Serializable.own_refusal in
    at_error c.from_residual-in_err-item.result _ _ c.from_residual-in_err-item.ensures.1
    (IsReadRefusal-weaker (own c.loop-i.rest.now) (IsOfItem t own c.args.count c.args.src.now)
    (λ e h. (
      c.loop-i.i,
      (
        c.loop-i-test.true,
        record { value = c.loop-i.items.items; left = c.loop-i.rest.now; taken = c.loop-i.invariant.0; refused = h },
      ),
    ))
    c.in_err-item.field-0.0 c.in_err-item.ensures.err)

pub loop-i-preserved : goal.loop-i-preserved
loop-i-preserved g c =
    let t = g.S.Serializable.taken in
    let n : ℕ = c.loop-i.i in
    let e : suc n ≡ n + 1 = omega arith in (
      ap (λ k. take_items t k c.args.src.now) (sym e)
          ∙ (next_item t n c.args.src.now c.loop-i.rest.now c.in_ok-item.after.now c.loop-i.items.items c.in_ok-item.item
          c.loop-i.invariant.0 c.in_ok-item.ensures.given
          ∙ ap (λ xs. Some (xs, c.in_ok-item.after.now)) (sym c.in_ok-push.ensures.items)),
      omega (arith, c.in_ok-push.ensures.len, c.loop-i.invariant.1),
    )

pub returns-clause-given : goal.returns-clause-given
returns-clause-given g c =
    let e : c.args.count ≡ c.loop-i.i = omega (arith, c.loop-i-test.false) in
    ap (λ k. take_items g.S.Serializable.taken k c.args.src.now) e ∙ c.loop-i.invariant.0
