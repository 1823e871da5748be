-- The number that a count stands for.
use Rattle.std.specs.Prelude.{ℕ, ◌+◌}
use Rattle.daachorse_core.specs.declared.counter.Count.{Count, fold-Count}
use Rattle.daachorse_core.specs.declared.counter.Count.TheOpen.{Count-F, Zero, Same, More, Sum}

-- the number at one step, from that before it
abbrev pub number_step : Count-F ℕ → ℕ
number_step Zero = 0
number_step (Same s) = s.value.value
number_step (More s) = s.value.value + 1
number_step (Sum s t) = s.value.value + t.value.value

abbrev pub number_of : Count → ℕ
number_of c = fold-Count ℕ number_step c
