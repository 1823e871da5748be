-- The edge that comes is the first of those to come.
use Rattle.std.proofs.Common.{ℕ, List, subst}
use Rattle.daachorse_bytewise_states.proofs.WritingLaws.{IsLabelling, first_inside, labelling_all, labelling_more}
use Rattle.daachorse_bytewise_states.proofs.packing.label_children.Goals as goal

pub bounds-labels-child : goal.bounds-labels-child
bounds-labels-child g c =
    let edges = c.args.edges.now in
    let P : List (ℕ × ℕ) → Type 0 = λ rest. IsLabelling edges rest c.args.labels.now c.loop-label.labels in
    first_inside edges c.in-Some.label.now c.in-Some.child.now c.next.new.self c.args.labels.now c.loop-label.labels (subst P c.in-Some.ensures.steps c.loop-label.invariant.labelling) c.requires.apart c.requires.inside

pub loop-label-preserved : goal.loop-label-preserved
loop-label-preserved g c =
    let edges = c.args.edges.now in
    let P : List (ℕ × ℕ) → Type 0 = λ rest. IsLabelling edges rest c.args.labels.now c.loop-label.labels in
    let was = subst P c.in-Some.ensures.steps c.loop-label.invariant.labelling in
    let inside = first_inside edges c.in-Some.label.now c.in-Some.child.now c.next.new.self c.args.labels.now c.loop-label.labels was c.requires.apart c.requires.inside in
    record { labelling = labelling_more edges c.in-Some.label.now c.in-Some.child.now c.next.new.self c.args.labels.now c.loop-label.labels was c.requires.apart inside }

pub returns-clause-set : goal.returns-clause-set
returns-clause-set g c =
    let P : List (ℕ × ℕ) → Type 0 = λ rest. IsLabelling c.args.edges.now rest c.args.labels.now c.loop-label.labels in
    labelling_all c.args.edges.now c.args.labels.now c.loop-label.labels (subst P c.in-None.ensures.steps.0 c.loop-label.invariant.labelling)
