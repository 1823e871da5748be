-- One element of the double array: its base, its check, its failure link, and the position of its first output. A base
-- or a position of 0 stands for none.
use Rattle.std.specs.Prelude.{ℕ}
use Rattle.daachorse_charwise_states.specs.declared.state.State.{State}

abbrev pub base_in : State → ℕ
base_in e = e.base

abbrev pub check_in : State → ℕ
check_in e = e.check

abbrev pub fail_in : State → ℕ
fail_in e = e.fail

abbrev pub output_in : State → ℕ
output_in e = e.output_pos

-- the element with these parts
abbrev pub element : ℕ → ℕ → ℕ → ℕ → State
element base check fail output = record { base = base; check = check; fail = fail; output_pos = output }

-- what a default makes: no base, no output, and check and link are the dead state
abbrev pub vacant : State
vacant = element 0 1 1 0
