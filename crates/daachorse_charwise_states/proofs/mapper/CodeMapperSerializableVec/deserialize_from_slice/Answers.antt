-- A table of numbers is refused by no error of its own.
use Rattle.std.specs.Int.{w32}
use Rattle.daachorse_core.proofs.Refusals.{at_error}
use Rattle.daachorse_serializer.specs.Forms.{IsOfList, take_number}
use Rattle.daachorse_serializer.proofs.Reading.{IsReadRefusal-weaker}
use Rattle.daachorse_charwise_states.proofs.mapper.CodeMapperSerializableVec.deserialize_from_slice.Goals as goal

pub returns-in_err-table-clause-err : goal.returns-in_err-table-clause-err
returns-in_err-table-clause-err g c =
    at_error c.from_residual.result _ _ c.from_residual.ensures.1
    (IsReadRefusal-weaker (IsOfList (take_number w32) (λ _ _. ⊥) c.args.src.now) (λ _. ⊥) (λ e h. h.refused.1.1.refused) c.in_err-table.field-0.0 c.in_err-table.ensures.err)
