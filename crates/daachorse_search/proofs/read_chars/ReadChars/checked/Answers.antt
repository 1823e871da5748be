-- A code that is refused is less than it may be, or no character's.
use Rattle.std.proofs.Common.{◌≡◌, ◌≤◌, subst, arith}
use Rattle.std.specs.Char.{IsScalar}
use Rattle.daachorse_search.specs.Readers.{Reading}
use Rattle.daachorse_search.proofs.CharacterLaws.{Fails-here, refused_begins}
use Rattle.daachorse_search.proofs.read_chars.ReadChars.checked.Goals as goal
use Rattle.daachorse_search.proofs.read_chars.ReadChars.checked.Goals.{then-code-least+in_default, else-code-least}

pub returns-clause-none : goal.returns-clause-none
returns-clause-none g c before has =
    let P : Reading g.row.R.Denot → Type 0 = λ s. c.refuse_text.new.self ≡ record s { failure = c.refuse_text.new.self.failure } in
    let refused : c.args.least ≤ c.args.code → ¬ IsScalar c.args.code = elim c.if-code-least.branch [
      | then-code-least+in_default w ↦ λ least scalar. w.in_default.ensures.value scalar
      | else-code-least w ↦ λ least scalar. omega (arith, w.if-code-least.false, least)
    ] in
    Fails-here g.R.Read.remaining before c.args.self.now c.refuse_text.new.self
    (subst P c.self.view_is c.refuse_text.ensures.same) c.refuse_text.ensures.failure
    (refused_begins before c.args.code c.args.least has refused)
