-- A child without a rank gets the next one; a child that has one already, is the root or is the dead element shows that two texts lead to
-- one element, or one to the dead element.
use Rattle.std.proofs.Common.{rules, ◌≡◌, ℕ, ◌<◌, ◌++◌, ◌∷◌, [], List, length, sym, ap, ◌∙◌, arith, get_or}
use Rattle.std.proofs.lemmas.List.{get_or_read}
use Rattle.daachorse_checker.proofs.RankLaws.{old_at}
use Rattle.daachorse_checker.proofs.ExpandLaws.{expand_none, next_in, expand_next, expand_done, refuse_low, refuse_marked, few_ranks}
use Rattle.daachorse_checker.proofs.ranks.Ranks.expand.Goals as goal

pub returns-in_default-clause-yes : goal.returns-in_default-clause-yes
returns-in_default-clause-yes g c e =
    let order = c.args.self.now.order.items in
    let at : c.index-element.result.now ≡ get_or order c.args.rank 0 =
    get_or_read order c.args.rank c.index-element.result.now c.requires.more c.index-element.ensures 0 in
    expand_none c.requires.edges.tell c.args.rank c.requires.walk c.requires.more
    (ap (g.E.Array.sees c.args.array.now).group (sym at) ∙ sym c.in_default.ensures)

pub returns-then-member-le1-clause-no : goal.returns-then-member-le1-clause-no
returns-then-member-le1-clause-no g c e =
    let inv = c.loop-member.invariant in
    refuse_low c.requires.edges.tell inv.group_of c.in-Some-member.ensures.steps inv.left c.if-member-le1.true

pub index-requires : goal.index-requires
index-requires g c =
    let inv = c.loop-member.invariant in
    omega (arith, next_in c.requires.edges.tell inv.group_of c.in-Some-member.ensures.steps inv.left, inv.left.walk.marks_each)

pub returns-then-index-gt0-clause-no : goal.returns-then-index-gt0-clause-no
returns-then-index-gt0-clause-no g c e =
    let marks = c.loop-member.self.marks.items in
    let inv = c.loop-member.invariant in
    let x = c.in-Some-member.member in
    let low : x < length marks = omega (
      arith,
      next_in c.requires.edges.tell inv.group_of c.in-Some-member.ensures.steps inv.left,
      inv.left.walk.marks_each,
    ) in
    let mark = get_or_read marks x c.index.result.now low c.index.ensures 0 in
    refuse_marked c.requires.edges.tell inv.group_of c.in-Some-member.ensures.steps inv.left (omega (arith, mark, c.if-index-gt0.true))

pub overflow_cast-len : goal.overflow_cast-len
overflow_cast-len g c =
    let walk = c.loop-member.invariant.left.walk in
    omega (arith, few_ranks c.requires.edges.tell walk.ranks walk.marks_each, c.len.ensures, c.requires.few)

pub index_mut-requires : goal.index_mut-requires
index_mut-requires g c =
    let inv = c.loop-member.invariant in
    omega (arith, next_in c.requires.edges.tell inv.group_of c.in-Some-member.ensures.steps inv.left, inv.left.walk.marks_each)

pub unit_at-requires : goal.unit_at-requires
unit_at-requires g c =
    let inv = c.loop-member.invariant in
    next_in c.requires.edges.tell inv.group_of c.in-Some-member.ensures.steps inv.left

pub loop-member-preserved : goal.loop-member-preserved
loop-member-preserved g c =
    let t = c.loop-member.self in
    let inv = c.loop-member.invariant in
    let x = c.in-Some-member.member in
    let low : x < length t.marks.items = omega (
      arith,
      next_in c.requires.edges.tell inv.group_of c.in-Some-member.ensures.steps inv.left,
      inv.left.walk.marks_each,
    ) in
    let mark = get_or_read t.marks.items x c.index.result.now low c.index.ensures 0 in
    let none : get_or t.marks.items x 0 ≡ 0 = omega (arith, mark, c.if-index-gt0.false) in
    let order' : c.push.new.self.items ≡ t.order.items ++ x ∷ [] = search rules in
    let parents' : c.push-in-loop-member.new.self.items ≡ t.parents.items ++ c.args.rank ∷ [] = search rules in
    let labels' : c.push-in-loop-member-2.new.self.items ≡ t.labels.items ++ c.unit_at.result ∷ [] = search rules in
    let len : c.len.result ≡ length t.order.items = omega (arith, c.len.ensures) in
    let next = expand_next c.requires.edges.tell inv.group_of c.in-Some-member.ensures.steps inv.left
    (omega (arith, c.if-member-le1.false)) none c.unit_at.result c.unit_at.ensures in
    record {
      left = rw (order', parents', labels', len) next;
      group_of = ap (λ (xs : List ℕ). (g.E.Array.sees c.args.array.now).group (get_or xs c.args.rank 0)) order'
          ∙ (ap (g.E.Array.sees c.args.array.now).group (old_at t.order.items x c.args.rank inv.left.walk.here) ∙ inv.group_of);
    }

pub returns-clause-yes : goal.returns-clause-yes
returns-clause-yes g c e = expand_done c.requires.edges.tell c.loop-member.invariant.group_of c.in-None.ensures.steps.0
    c.loop-member.invariant.left
