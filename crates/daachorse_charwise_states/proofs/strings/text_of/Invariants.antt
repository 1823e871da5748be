-- The characters so far are written.
use Rattle.std.proofs.Common.{◌≡◌, take}
use Rattle.std.proofs.Math.Utf8.{encodes}
use Rattle.std.specs.Prelude.{IsTrue}
use Rattle.std.specs.Str.{all_scalars}
use Rattle.std.specs.String.{string_bytes}
use Rattle.daachorse_charwise_states.proofs.strings.text_of.Given as goal

abbrev pub invariant-loop-c : goal.invariant-loop-c
invariant-loop-c g l = record {
  written : string_bytes l.text ≡ encodes (take l.c-index l.characters);
  scalars : IsTrue (all_scalars (take l.c-index l.characters));
}
