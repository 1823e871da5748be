-- The file begins with the automaton that was read of its bytes.
use Rattle.daacgrep_command.proofs.automaton.load.Goals as goal

pub returns-then-is_saved_with-clause-ok : goal.returns-then-is_saved_with-clause-ok
returns-then-is_saved_with-clause-ok g c =
    let read = rw c.deref.ensures.value at c.in_ok-automaton.ensures.ok in
    record {
      bytes = c.in-Some.bytes.items;
      has = c.in-Some.ensures.has;
      rest = read.0;
      begins = read.1;
      fits = c.is_saved_with.ensures.0 c.if-is_saved_with.true;
    }
