-- As many patterns are counted as are not left.
use Rattle.std.proofs.Common.{◌≡◌, ℕ, List, length, ◌+◌}
use Rattle.daachorse_model.specs.Prefixes.{IsListing}
use Rattle.daachorse.specs.charwise.Automata.{dictionary_of}
use Rattle.daachorse.proofs.charwise.CharwiseDoubleArrayAhoCorasick+V+A.num_patterns.Given as goal

abbrev pub invariant-loop-item : goal.invariant-loop-item
invariant-loop-item g l = record {
  so_far : (listed : List (List ℕ × g.row.V.Denot)) × IsListing (dictionary_of l.self) listed × (length listed ≡ length l.counted.items + length l.item-iterator);
}
