-- The bytes of the characters so far are counted, at most four of each.
use Rattle.std.proofs.Common.{◌≡◌, ◌*◌, ◌≤◌, length, take}
use Rattle.std.proofs.Math.Utf8.{encodes}
use Rattle.daachorse_charwise_states.proofs.strings.num_bytes.Given as goal

abbrev pub invariant-loop-c : goal.invariant-loop-c
invariant-loop-c l = record {
  counted : l.size ≡ length (encodes (take l.c-index l.characters));
  few : l.size ≤ 4 * l.c-index;
}
