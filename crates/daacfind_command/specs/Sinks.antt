-- What contracts see of a sink over a writer.
use Rattle.std.specs.Prelude.{ℕ}

-- the writer, the number of its failures, and that of its writes after the last flush
pub record CountedWriter (W : Type 0) : Type 0 where
  pub writer : W
  pub failures : ℕ
  pub unflushed : ℕ
