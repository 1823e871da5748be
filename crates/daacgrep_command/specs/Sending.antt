-- What is sent to an output.
use Rattle.std.specs.Prelude.{◌≡◌, ◌+◌, ℕ, List, Option, OnErr, OnOk, Result}
use Rattle.std.specs.Io.KnownBytes.{Appends}
use Rattle.daachorse.specs.Replaced.{AppendsBeginning}

-- the bytes that were taken, if known, the number of failures, and that of the writes after the last flush
pub record Sent : Type 0 where
  pub taken : Option (List ℕ)
  pub failures : ℕ
  pub unflushed : ℕ

-- An output took all of a text, and did not fail; or it failed once, and took a beginning.
pub record IsWritten {T E : Type 0} (old new : Sent) (result : Result T E) (text : List ℕ) : Type 0 where
  pub whole : OnOk result (Appends old.taken new.taken text)
  pub unfailed : OnOk result (new.failures ≡ old.failures)
  pub beginning : OnErr result (AppendsBeginning old.taken new.taken text)
  pub failed : OnErr result (new.failures ≡ old.failures + 1)
