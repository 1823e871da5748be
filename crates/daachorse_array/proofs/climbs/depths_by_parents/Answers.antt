-- What a climb passed is given its depth, or known not to be reached.
use Rattle.std.proofs.Common.{◌≡◌, ◌≢◌, ◌+◌, ◌<◌, ℕ, reverse, replicate, ap, ◌∙◌, arith}
use Rattle.std.specs.Prelude.{slice_index, vec_capacity}
use borrow.Author.Count.{below_more}
use Rattle.daachorse_array.specs.Climbs.{depths_along}
use Rattle.daachorse_array.proofs.ClimbLaws.{depths_along-kept, known-deepened, known-end, known-lost, known-start, waiting-inside}
use Rattle.daachorse_array.proofs.climbs.depths_by_parents.Goals.{in-Some, in-None}
use Rattle.daachorse_array.proofs.climbs.depths_by_parents.Goals as goal

pub loop-element-init : goal.loop-element-init
loop-element-init g c =
    let count = (g.E.Array.sees c.args.edges.now).count in
    let depths : c.in_ok-depths.depths.items ≡ replicate count 0 = c.in_ok-depths.ensures.items_if_clones_equal (λ y e. e) ∙ ap (λ k. replicate k 0) c.num_elements-count.ensures.all in
    record {
      known = known-start c.requires.tree c.in_ok-depths.depths.items depths;
      passed = λ i some less. absurd (omega (arith, less));
      empty = c.in_ok-path.ensures.items;
      room = omega (arith, c.in_ok-path.ensures.exact, c.num_elements-count.ensures.all);
    }

pub loop-element-preserved : goal.loop-element-preserved
loop-element-preserved g c =
    let passed : (i : ℕ) → i < c.loop-element.element + 1 → 0 < i → slice_index c.climb.new.depths.items i ≢ 0 =
    below_more (λ i. 0 < i → slice_index c.climb.new.depths.items i ≢ 0) c.loop-element.element (λ i less some. c.climb.ensures.kept i (c.loop-element.invariant.passed i some less)) c.climb.ensures.passed in
    elim c.match-climb.branch [
      | in-Some w ↦ (
          let path = reverse c.climb.new.path.items in
          let depths : c.match-climb.depths.items ≡ depths_along w.in-Some.depth path c.climb.new.depths.items = ap (λ v. v.items) w.depths-is ∙ w.descend.ensures.depths in
          record {
            known = rw depths (known-deepened c.requires.tree path c.climb.new.depths.items w.in-Some.depth c.climb.ensures.known w.in-Some.ensures.above);
            passed = λ i some less. rw depths (depths_along-kept path c.climb.new.depths.items w.in-Some.depth i (passed i less some));
            empty = ap (λ v. v.items) w.path-is ∙ w.descend.ensures.empty;
            room = omega (arith, c.loop-element.invariant.room, c.climb.ensures.capacity, w.descend.ensures.capacity, ap vec_capacity w.path-is);
          })
      | in-None w ↦ (
          let depths : c.match-climb.depths.items ≡ c.climb.new.depths.items = ap (λ v. v.items) w.depths-is in
          record {
            known = rw depths (known-lost c.requires.tree (reverse c.climb.new.path.items) c.climb.new.depths.items c.climb.ensures.known w.in-None.ensures.above);
            passed = λ i some less. rw depths (passed i less some);
            empty = ap (λ v. v.items) w.path-is ∙ w.clear.ensures.items;
            room = omega (arith, c.loop-element.invariant.room, c.climb.ensures.capacity, w.clear.ensures.capacity, ap vec_capacity w.path-is);
          })
    ]

pub returns-clause-ok : goal.returns-clause-ok
returns-clause-ok g c =
    let end : c.loop-element.element ≡ (g.E.Array.sees c.args.edges.now).count = let past = c.loop-element-test.false in omega (arith, past, c.loop-element.auto.element-end, c.num_elements-count.ensures.all) in
    known-end c.requires.tree c.loop-element.depths.items c.loop-element.invariant.known (λ i some less. c.loop-element.invariant.passed i some (omega (arith, less, end)))

pub descend-requires-clause-inside : goal.descend-requires-clause-inside
descend-requires-clause-inside g c = waiting-inside c.requires.tree (reverse c.climb.new.path.items) c.climb.new.depths.items c.climb.ensures.known
