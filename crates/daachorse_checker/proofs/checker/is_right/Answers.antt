-- The ranks stand for the texts that lead to elements, one for one, so the machine is right, with so many texts, just where there are so
-- many ranks and their chains and links are right.
use Rattle.std.proofs.Common.{◌≡◌, length, sym, ap, ◌∙◌, subst, refl, arith}
use Rattle.std.proofs.lemmas.Bool.{false≢true}
use Rattle.daachorse_array.specs.Machines.{IsCounted}
use Rattle.daachorse_checker.specs.Chains.{AreLeavesOf, machine_of}
use Rattle.daachorse_checker.specs.Runs.{AreRuns}
use Rattle.daachorse_checker.specs.Sizes.{AreSizes}
use Rattle.daachorse_checker.proofs.CheckedLaws.{right_from, chained_from, counted_ranks, path_of, same_count}
use Rattle.daachorse_checker.proofs.checker.is_right.Goals as goal

pub returns-in_default-clause-ok : goal.returns-in_default-clause-ok
returns-in_default-clause-ok g c =
    let view = g.E.Array.sees c.args.array.now in
    let none = rw c.in_default.is at c.in_ok-ranks.ensures.no in
    (λ e. absurd (false≢true e), λ right. absurd (none (path_of view.width (machine_of view c.args.outputs.now) c.args.leftmost right.0)))

pub returns-then-len-num_states-clause-ok : goal.returns-then-len-num_states-clause-ok
returns-then-len-num_states-clause-ok g c =
    let view = g.E.Array.sees c.args.array.now in
    let both = rw c.in-Some.is at c.in_ok-ranks.ensures.yes in (
      λ e. absurd (false≢true e),
      λ right. absurd (c.if-len-num_states.true
          (omega (
            arith,
            c.len.ensures,
            same_count view.width
                (machine_of view c.args.outputs.now) c.requires.edges.tell both.1 both.0 c.args.num_states right.1,
          ))),
    )

pub returns-then-not-chains_hold-clause-ok : goal.returns-then-not-chains_hold-clause-ok
returns-then-not-chains_hold-clause-ok g c =
    let view = g.E.Array.sees c.args.array.now in
    let parents = c.in-Some.ranks.parents.items in
    let both = rw c.in-Some.is at c.in_ok-ranks.ensures.yes in
    let leafy : AreLeavesOf parents c.in_ok-leaves.leaves.items (length parents) =
    rw c.deref.ensures.value at c.in_ok-leaves.ensures.ok in (
      λ e. absurd (false≢true e),
      λ right.
          let chained = chained_from view.width (machine_of view c.args.outputs.now) c.requires.edges.tell both.1 both.0
          c.in_ok-sizes.sizes.items
          c.in_ok-sizes.ensures.ok c.in_ok-sizes.ensures.each leafy c.args.leftmost right.0 in
          c.if-not-chains_hold.ensures.1 (rw (c.deref-3.ensures.value, c.deref-4.ensures.value) chained),
    )

pub returns-clause-ok : goal.returns-clause-ok
returns-clause-ok g c =
    let view = g.E.Array.sees c.args.array.now in
    let p = c.in-Some.ranks in
    let a = machine_of view c.args.outputs.now in
    let both = rw c.in-Some.is at c.in_ok-ranks.ensures.yes in
    let leafy : AreLeavesOf p.parents.items c.in_ok-leaves.leaves.items (length p.parents.items) =
    rw c.deref.ensures.value at c.in_ok-leaves.ensures.ok in
    let chained = rw (c.deref-3.ensures.value, c.deref-4.ensures.value) at (c.if-not-chains_hold.ensures.0 refl) in
    let sized = c.in_ok-sizes.ensures in
    let len : length p.order.items ≡ c.args.num_states = omega (arith, c.len.ensures, c.if-len-num_states.false) in (
      λ e. (
        right_from view.width a c.requires.edges.tell both.1 both.0 c.in_ok-sizes.sizes.items sized.ok sized.each leafy c.args.leftmost
            chained (c.in_ok-right.ensures.ok.0 e),
        subst (λ k. IsCounted a k) len (counted_ranks view.width a c.requires.edges.tell both.1 both.0),
      ),
      λ right. c.in_ok-right.ensures.ok.1 right.0.links,
    )

pub sizes-requires : goal.sizes-requires
sizes-requires g c = assumption (c.requires, rw c.in-Some.is at c.in_ok-ranks.ensures.yes)

pub leaves-requires : goal.leaves-requires
leaves-requires g c =
    let ranks = (rw c.in-Some.is at c.in_ok-ranks.ensures.yes).1.ranks in
    record {
      earlier = rw c.deref.ensures.value (λ m pos lt. ranks.earlier m pos (omega (arith, lt, ranks.one_each)));
      some = rw c.deref.ensures.value (omega (arith, ranks.one_each, ranks.some));
    }

pub chains_hold-requires : goal.chains_hold-requires
chains_hold-requires g c =
    let both = rw c.in-Some.is at c.in_ok-ranks.ensures.yes in
    assumption (
      c.requires,
      both.1,
      subst (AreRuns c.args.outputs.now) (sym c.deref-2.ensures.value) c.in_ok-runs.ensures.ok,
      ap length c.deref-2.ensures.value ∙ c.in_ok-runs.ensures.each,
      ap length c.deref-3.ensures.value ∙ c.in_ok-sizes.ensures.each,
      ap length c.deref-4.ensures.value ∙ c.in_ok-leaves.ensures.ok.each ∙ ap length c.deref.ensures.value ∙ both.1.ranks.one_each,
    )

pub links_hold-requires : goal.links_hold-requires
links_hold-requires g c = assumption (
  c.requires,
  rw c.in-Some.is at c.in_ok-ranks.ensures.yes,
  subst (AreSizes (g.E.Array.sees c.args.array.now).child (g.E.Array.sees c.args.array.now).width c.in-Some.ranks.order.items)
      (sym c.deref-5.ensures.value) c.in_ok-sizes.ensures.ok,
  ap length c.deref-5.ensures.value ∙ c.in_ok-sizes.ensures.each,
)
