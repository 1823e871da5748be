-- The automaton is that of the file that is named, or of the patterns.
use Rattle.std.proofs.Common.{ℕ, List, map, subst}
use Rattle.std.specs.Prelude.{IfOk}
use Rattle.std.specs.Borrow.{Bor}
use Rattle.daacgrep_command.specs.Asked.{IsAutomatonAsked}
use Rattle.daacgrep_command.proofs.automaton.automaton.Goals as goal

pub returns-in-Some-clause-ok : goal.returns-in-Some-clause-ok
returns-in-Some-clause-ok g c =
    subst (λ l. IfOk c.load.result (IsAutomatonAsked c.args.options.now.flags (g.F.FileSystem.sees c.args.files.now).given
    (map (λ (r : Bor (List ℕ)). r.now) c.args.rules.now) l)) c.in-Some.ensures c.load.ensures.ok

pub returns-in_ok-build-in-None-clause-ok : goal.returns-in_ok-build-in-None-clause-ok
returns-in_ok-build-in-None-clause-ok g c =
    subst (λ l. IsAutomatonAsked c.args.options.now.flags (g.F.FileSystem.sees c.args.files.now).given
    (map (λ (r : Bor (List ℕ)). r.now) c.args.rules.now) l c.in_ok-build-in-None.field-0) c.in-None.ensures
    c.in_ok-build-in-None.ensures.ok
