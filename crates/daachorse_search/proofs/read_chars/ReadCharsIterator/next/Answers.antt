-- A character of one byte came, or one of more.
use Rattle.std.proofs.Common.{Some, subst}
use Rattle.daachorse_search.specs.Readers.{GivesByte, Reading}
use Rattle.daachorse_search.proofs.CharacterLaws.{character_goes, more_bytes, one_byte}
use Rattle.daachorse_search.proofs.read_chars.ReadCharsIterator.next.Goals as goal

pub returns-then-first-lt128-clause-steps : goal.returns-then-first-lt128-clause-steps
returns-then-first-lt128-clause-steps g c =
    let P : Reading g.row.R.Denot → Type 0 = λ s. GivesByte g.R.Read.remaining s (Some c.in_ok-first.first) c.next.new.self in
    one_byte g.R.Read.remaining c.args.self.now c.next.new.self c.in_ok-first.first c.from.result c.if-first-lt128.true c.from.ensures (subst P c.self.view_is c.in_ok-first.ensures.steps)

pub returns-then-first-lt128-clause-goes : goal.returns-then-first-lt128-clause-goes
returns-then-first-lt128-clause-goes g c = character_goes g.R.Read.remaining c.args.self.now c.next.new.self (Some c.from.result) (returns-then-first-lt128-clause-steps g c)

pub returns-clause-steps : goal.returns-clause-steps
returns-clause-steps g c =
    let P : Reading g.row.R.Denot → Type 0 = λ s. GivesByte g.R.Read.remaining s (Some c.in_ok-first.first) c.next.new.self in
    more_bytes g.R.Read.remaining c.args.self.now c.next.new.self c.take_wide.new.self c.in_ok-first.first c.take_wide.result (subst P c.self.view_is c.in_ok-first.ensures.steps) c.take_wide.ensures.some c.take_wide.ensures.none

pub returns-clause-goes : goal.returns-clause-goes
returns-clause-goes g c = character_goes g.R.Read.remaining c.args.self.now c.take_wide.new.self c.take_wide.result (returns-clause-steps g c)
