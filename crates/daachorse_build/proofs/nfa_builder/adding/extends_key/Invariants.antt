-- No state on the way so far stops.
use Rattle.std.proofs.Common.{◌≡◌, true, take, drop}
use Rattle.daachorse_model.specs.Paths.{Leads}
use Rattle.daachorse_build.specs.Tables.{child_of, stops_of}
use Rattle.daachorse_build.specs.Left.{meets_early}
use Rattle.daachorse_build.proofs.nfa_builder.adding.extends_key.Given as goal

-- the labels read lead to `id`, and what is met is met after it
abbrev pub invariant-loop-label : goal.invariant-loop-label
invariant-loop-label g l = record {
  here : Leads (child_of g.L.Ord.cmp l.states) (take l.label-index l.pattern) l.id;
  same : meets_early (child_of g.L.Ord.cmp l.states) (stops_of true l.states) 0 l.pattern ≡ meets_early (child_of g.L.Ord.cmp l.states) (stops_of true l.states) l.id (drop l.label-index l.pattern);
}
