-- A carriage return is reported, or nothing.
use Rattle.std.proofs.Common.{[], inl, inr, refl}
use Rattle.daacgrep_command.proofs.Reports.{sends_none}
use Rattle.daacgrep_command.proofs.patterns.report_returns.Goals as goal

pub returns-then-any : goal.returns-then-any
returns-then-any g c = (_, inr refl, c.send.ensures)

pub returns-else-any : goal.returns-else-any
returns-else-any g c = ([], inl refl, sends_none _)
