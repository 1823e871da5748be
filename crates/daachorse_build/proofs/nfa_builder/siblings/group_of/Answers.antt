-- One child more, with what was given for its label.
use Rattle.std.proofs.Common.{ℕ, map}
use Rattle.std.proofs.lemmas.List.{map-append}
use Rattle.std.specs.Map.Iter.{deref_pair}
use Rattle.daachorse_build.proofs.Families.{given_push}
use Rattle.daachorse_build.proofs.nfa_builder.siblings.group_of.Goals as goal

pub loop-label-preserved : goal.loop-label-preserved
loop-label-preserved g c =
    let gives = λ (l : g.row.L.Denot) (r : ℕ). g.F.Fn.post c.args.map_label.now (l, tt) r in
    let done = map deref_pair c.loop-label.yielded in
    let push = given_push gives done c.loop-label.children.items c.in-Some.label.now c.in-Some.id.now c.map_label.result c.loop-label.invariant c.map_label.ensures in
    rw (map-append, c.in_ok-push.ensures.items) push
