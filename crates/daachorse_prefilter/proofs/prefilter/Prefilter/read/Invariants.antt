-- The window has read the first bytes too.
use Rattle.std.proofs.Common.{◌++◌, ℕ, List, take}
use Rattle.daachorse_prefilter.specs.Windows.{HasRead}
use Rattle.daachorse_prefilter.proofs.prefilter.Prefilter.read.Given as goal

abbrev pub invariant-loop-byte : goal.invariant-loop-byte
invariant-loop-byte g l = (text : List ℕ) → HasRead l.self text l.initial.window → HasRead l.self (text ++ take l.byte-index l.bytes) l.window
