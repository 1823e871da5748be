-- Where no entry is left, and where no text is longer, the filter passes at all keys.
use Rattle.std.proofs.Common.{rules, ◌≡◌, ◌<◌, ℕ, ◌+◌, List, [], ◌∷◌, length, refl, sym, subst, arith}
use Rattle.std.specs.Prelude.{All}
use Rattle.std.proofs.lemmas.Bool.{false≢true}
use Rattle.std.proofs.lemmas.Grind.{common_steps}
use Rattle.daachorse_prefilter.specs.declared.prefilter.window.Window.{Window}
use Rattle.daachorse_array.specs.Listing.{has_own}
use Rattle.daachorse_checker.specs.Filters.{HasRefused, IsNextOf}
use Rattle.daachorse_checker.proofs.FilterLaws.{level_inside, level_last, level_next, level_none, level_refused, level_start}
use Rattle.daachorse_checker.proofs.filters.passes_all.Goals as goal

pub returns-then-is_empty-clause-ok : goal.returns-then-is_empty-clause-ok
returns-then-is_empty-clause-ok g c =
    let none : length c.loop-depth.level.items ≡ 0 = grind (arith, common_steps) in
    (λ e. level_none c.requires.tree c.loop-depth.invariant none, λ all. refl)

pub next_level-requires-clause-elements : goal.next_level-requires-clause-elements
next_level-requires-clause-elements g c =
    subst (λ (xs : List (ℕ × Window)). All (λ e. e.0 < (g.E.Array.sees c.args.array.now).count) xs) (sym c.deref.ensures.value)
    (level_inside c.requires.tree c.loop-depth.invariant (g.E.Array.sees c.args.array.now).count (g.E.Array.sees c.args.array.now).units c.requires.some c.requires.edges.inside)

pub returns-in_default-clause-ok : goal.returns-in_default-clause-ok
returns-in_default-clause-ok g c =
    let a = c.args.array.now in
    let refused : HasRefused c.args.filter.now (has_own (g.E.Array.sees a).fail (g.E.Array.sees a).first) c.loop-depth.level.items = search rules in
    (λ e. absurd (false≢true e), λ all. absurd (level_refused c.requires.tree c.loop-depth.invariant refused all))

pub returns-clause-ok : goal.returns-clause-ok
returns-clause-ok g c =
    let a = c.args.array.now in (
      λ e. level_last c.requires.tree c.loop-depth.invariant (g.E.Array.sees a).count (g.E.Array.sees a).units c.requires.some c.requires.edges.inside
          (omega (arith, c.loop-depth-test.false, c.num_elements-depth-end.ensures.all)),
      λ all. refl,
    )

pub loop-depth-init : goal.loop-depth-init
loop-depth-init g c =
    let items : c.push.new.self.items ≡ (0, c.new-2.result) ∷ [] = search rules in
    level_start c.requires.tree c.push.new.self.items c.new-2.result items (c.new-2.ensures c.args.filter.now)

pub loop-depth-preserved : goal.loop-depth-preserved
loop-depth-preserved g c =
    let a = c.args.array.now in
    let of : IsNextOf (g.E.Array.sees a).child (g.E.Array.sees c.args.array.now).bytes c.args.filter.now (has_own (g.E.Array.sees a).fail (g.E.Array.sees a).first) c.deref.result.now (length c.deref.result.now) c.in-Some.next.items = search rules in
    level_next c.requires.tree c.loop-depth.invariant c.in-Some.next.items (c.loop-depth._depth + 1) refl (rw c.deref.ensures.value at of)
