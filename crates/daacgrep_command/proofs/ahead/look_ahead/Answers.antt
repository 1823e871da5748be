-- The next line is sought by what is asked.
use Rattle.std.proofs.Common.{Bool, sym, subst}
use Rattle.daacgrep_command.specs.Ahead.{IsNext}
use Rattle.daacgrep_command.specs.Sought.{sought_of}
use Rattle.daacgrep_command.proofs.ahead.look_ahead.Goals as goal

pub returns-then-inverts : goal.returns-then-inverts
returns-then-inverts g c = subst (λ (b : Bool). IsNext (sought_of c.args.searcher.now) c.args.mark b c.args.text.now c.next_without_match.result) (sym c.if-inverts.true) c.next_without_match.ensures

pub returns-else-inverts : goal.returns-else-inverts
returns-else-inverts g c = subst (λ (b : Bool). IsNext (sought_of c.args.searcher.now) c.args.mark b c.args.text.now c.next_with_match.result) (sym c.if-inverts.false) c.next_with_match.ensures
