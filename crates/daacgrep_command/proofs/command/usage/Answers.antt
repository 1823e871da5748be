-- The text begins as the usage does.
use Rattle.std.proofs.Common.{refl}
use Rattle.daacgrep_command.proofs.command.usage.Goals as goal

pub returns : goal.returns
returns c = (_, refl)
