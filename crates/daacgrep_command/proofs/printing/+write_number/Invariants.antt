-- A number without its last digit is less.
use Rattle.daacgrep_command.proofs.printing.+write_number.Given as goal

abbrev pub decreases-write_number : goal.decreases-write_number
decreases-write_number g l = l.number
