-- The patterns so far are registered, each takes at most 4,294,967,295 bytes, and there are no more states than ids of 32 bits.
use Rattle.std.proofs.Common.{◌≡◌, ◌≤◌, length, take}
use Rattle.std.specs.Prelude.{All}
use Rattle.daachorse_model.specs.Units.{size}
use Rattle.daachorse_build.specs.Builders.{kind_of, outputs_of, states_of}
use Rattle.daachorse_patterns.specs.Patterns.{texts_of}
use Rattle.daachorse_patterns.specs.Tries.{HasTexts}
use Rattle.daachorse_patterns.proofs.trie.add_all.Given as goal

abbrev pub invariant-loop-pattern : goal.invariant-loop-pattern
invariant-loop-pattern g l = record {
  so_far : HasTexts g.L.Ord.cmp g.L.EdgeLabel.unit g.L.EdgeLabel.width l.nfa (texts_of g.P.Pattern.units (take l.pattern-index l.patterns));
  kind : kind_of l.nfa ≡ kind_of l.fn.nfa;
  outputs : outputs_of l.nfa ≡ outputs_of l.fn.nfa;
  short : All (λ r. size g.L.EdgeLabel.width r.0 ≤ 4294967295) (texts_of g.P.Pattern.units (take l.pattern-index l.patterns));
  fits : length (states_of l.nfa) ≤ 4294967296;
}
