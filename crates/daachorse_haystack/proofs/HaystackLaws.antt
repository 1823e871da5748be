-- Taking the first unit of a haystack makes progress.
use Rattle.std.proofs.Common.{List, length, Option, Some, None, ap, arith}
use Rattle.std.specs.Iterator.{MakesProgress, YieldsFirst, item_count}

-- a call that takes the first of a list makes progress
pub progress_of_first : {S B : Type 0} (rest : S → List B) (can : S → Type 0) (s : S) (r : Option B) (t : S) → ((x : S) → can x) → YieldsFirst rest s r t → MakesProgress can (item_count rest) s r t
progress_of_first rest can s None t any h = record { on = λ _. tt; keeps = tt; rests = λ _. tt }
progress_of_first rest can s (Some x) t any h = record { on = λ _. (any t, tt, omega (arith, ap length h)); keeps = any t; rests = λ _. tt }
