-- The rows are those of the states that the automaton keeps, and the buckets those of its patterns.
use Rattle.std.proofs.Common.{◌≡◌, subst, ap, ◌∙◌}
use Rattle.std.proofs.lemmas.Option.{MatchOption-at_some}
use Rattle.daachorse_model.specs.declared.MatchKind.TheVariants.{Standard}
use Rattle.daachorse_charwise_states.specs.StateRows.{CoversNear, HasFewCodes, HasNoRoom, HasRows, StaysUnlessLarge}
use Rattle.daachorse.specs.charwise.Automata.{Automaton}
use Rattle.daachorse.proofs.charwise.accelerated.CharwiseDoubleArrayAhoCorasick+V+A.accelerate.Goals as goal

pub invariant_of-result : goal.invariant_of-result
invariant_of-result g c =
    let P : Automaton g.row.V.Denot → Type 0 = λ a. HasRows a.parts c.in-Ok-Some.rows in
    (subst P (ap (λ s. s.searched) c.self-inside.view_is ∙ c.self.view_is) (MatchOption-at_some _ (λ r. HasRows c.self-inside.inside.0.0.states r) c.in-Ok-Some.rows c.in-Ok-Some.field-0-is c.in-Ok-Some.ensures.right), c.in-Ok.ensures.told)

pub returns-in-Ok-None-clause-none : goal.returns-in-Ok-None-clause-none
returns-in-Ok-None-clause-none g c none =
    let P : Automaton g.row.V.Denot → Type 0 = λ a. HasNoRoom a.parts in
    subst P (ap (λ s. s.searched) c.self-inside.view_is ∙ c.self.view_is) (c.in-Ok-None.ensures.none c.in-Ok-None.field-0-is)

pub returns-in-Ok-clause-covered : goal.returns-in-Ok-clause-covered
returns-in-Ok-clause-covered g c =
    let P : Automaton g.row.V.Denot → Type 0 = λ a. CoversNear a.parts c.in-Ok-Some.rows in
    subst P (ap (λ s. s.searched) c.self-inside.view_is ∙ c.self.view_is) (MatchOption-at_some _ (λ r. CoversNear c.self-inside.inside.0.0.states r) c.in-Ok-Some.rows c.in-Ok-Some.field-0-is c.in-Ok-Some.ensures.covered)

pub returns-in-Ok-clause-stays : goal.returns-in-Ok-clause-stays
returns-in-Ok-clause-stays g c =
    let P : Automaton g.row.V.Denot → Type 0 = λ a. a.parts.kind ≡ Standard → HasFewCodes a.parts → StaysUnlessLarge a.parts c.in-Ok-Some.rows in
    subst P (ap (λ s. s.searched) c.self-inside.view_is ∙ c.self.view_is) (MatchOption-at_some _ (λ r. c.self-inside.inside.0.0.states.kind ≡ Standard → HasFewCodes c.self-inside.inside.0.0.states → StaysUnlessLarge c.self-inside.inside.0.0.states r) c.in-Ok-Some.rows c.in-Ok-Some.field-0-is c.in-Ok-Some.ensures.stays)

pub returns-in-Ok-clause-told : goal.returns-in-Ok-clause-told
returns-in-Ok-clause-told g c = c.in-Ok.ensures.told
