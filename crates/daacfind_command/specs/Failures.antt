-- How a sink counts its failures.
use Rattle.std.specs.Prelude.{ℕ, zero, suc, ◌+◌, List, [], ◌∷◌, Result, Ok, Err}

-- a failed write, or one that took no byte of some, is one failure more
abbrev pub failures_after_write : {E : Type 0} → Result ℕ E → List ℕ → ℕ → ℕ
failures_after_write (Err e) bytes n = n + 1
failures_after_write (Ok k) [] n = n
failures_after_write (Ok zero) (b ∷ bytes) n = n + 1
failures_after_write (Ok (suc k)) (b ∷ bytes) n = n

-- a failed flush is one failure more
abbrev pub failures_after_flush : {T E : Type 0} → Result T E → ℕ → ℕ
failures_after_flush (Err e) n = n + 1
failures_after_flush (Ok x) n = n
