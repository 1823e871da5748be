-- The links before `i` are written.
use Rattle.std.proofs.Common.{◌≡◌, take}
use Rattle.daachorse_build.specs.Tables.{fails_of}
use Rattle.daachorse_build.specs.Growth.{HasTrieOf}
use Rattle.daachorse_build.proofs.nfa_builder.links.set_links.Given as goal

abbrev pub invariant-loop-i : goal.invariant-loop-i
invariant-loop-i g l = record {
  kept : HasTrieOf l.fn.states l.states;
  links : take l.i (fails_of l.states) ≡ take l.i l.fails;
}
