-- What is left is an end of the bytes.
use Rattle.std.proofs.Common.{refl, inl, inr, rules}
use Rattle.std.specs.Int.{w32}
use Rattle.daachorse_core.specs.Refusals.{IsOutOfMemory}
use Rattle.daachorse_serializer.specs.Laws.{number_law}
use Rattle.daachorse_charwise_states.specs.PartForms.{parts_law}
use Rattle.daachorse_c.specs.declared.unit.Unit.TheVariants.{Character}
use Rattle.daachorse_c.specs.Automata.{Characters}
use Rattle.daachorse_c.proofs.ReadBack.{characters_back, is_read, left_fits}
use Rattle.daachorse_c.proofs.reading.read_charwise.Goals as goal

pub overflow_sub-result : goal.overflow_sub-result
overflow_sub-result c = let a = c.in-Ok.automaton in left_fits ((parts_law (number_law w32)).leaves_end c.args.bytes.now (a.parts, (a.folds, a.filter)) c.in-Ok.rest.now c.in-Ok.ensures.given.taken)

pub returns-in-Ok-clause-read : goal.returns-in-Ok-clause-read
returns-in-Ok-clause-read c =
    let a = c.in-Ok.automaton in
    is_read ((parts_law (number_law w32)).leaves_end c.args.bytes.now (a.parts, (a.folds, a.filter)) c.in-Ok.rest.now c.in-Ok.ensures.given.taken) Character (Characters a) refl (c.in-Ok.ensures.given, c.in-Ok.ensures.depths) (characters_back a c.in-Ok.ensures.back)

not_memory : (c : goal.In-Err) → IsOutOfMemory c.in-Err.field-0 → ⊥
not_memory c is = search rules

pub returns-in-Err : goal.returns-in-Err
returns-in-Err c = record {
  read = tt;
  err = inr (refl, elim c.in-Err.ensures.err [ inl memory ↦ absurd (not_memory c memory) | inr none ↦ (none, λ begins. not_memory c (c.in-Err.ensures.memory begins)) ]);
}
