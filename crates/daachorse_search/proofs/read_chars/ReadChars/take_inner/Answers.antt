-- The byte that came stands inside no character, or none came.
use Rattle.std.proofs.Common.{◌≤◌, ◌<◌, Some, None, subst, arith}
use Rattle.daachorse_search.specs.Readers.{GivesByte, Reading}
use Rattle.daachorse_search.proofs.CharacterLaws.{Fails-end, Fails-wrong}
use Rattle.daachorse_search.proofs.read_chars.ReadChars.take_inner.Goals as goal
use Rattle.daachorse_search.proofs.read_chars.ReadChars.take_inner.Goals.{then-byte-ge128+else-byte-lt192, else-byte-ge128}

pub returns-in-Some-2-clause-none : goal.returns-in-Some-2-clause-none
returns-in-Some-2-clause-none g c before needs =
    let b = c.in-Some.byte in
    let P : Reading g.row.R.Denot → Type 0 = λ s. GivesByte g.R.Read.remaining s (Some b) c.next.new.self in
    let outside : ¬ ((128 ≤ b) × (b < 192)) = elim c.if-byte-ge128.branch [
      | then-byte-ge128+else-byte-lt192 w ↦ λ inside. omega (arith, w.if-byte-lt192.false, inside.1)
      | else-byte-ge128 w ↦ λ inside. omega (arith, w.if-byte-ge128.false, inside.0)
    ] in
    Fails-wrong g.R.Read.remaining before c.args.self.now c.next.new.self c.refuse_text.new.self b
    (subst P c.self.view_is c.in-Some.ensures.steps) c.refuse_text.ensures.same c.refuse_text.ensures.failure outside needs

pub returns-in-None-clause-none : goal.returns-in-None-clause-none
returns-in-None-clause-none g c before needs =
    let P : Reading g.row.R.Denot → Type 0 = λ s. GivesByte g.R.Read.remaining s None c.next.new.self in
    Fails-end g.R.Read.remaining before c.args.self.now c.next.new.self c.refuse_end.new.self
    (subst P c.self.view_is c.in-None.ensures.steps) c.refuse_end.ensures.same c.refuse_end.ensures.failure needs
