-- The greatest length so far and those of the patterns that are left give the greatest of all.
use Rattle.std.proofs.Common.{◌≡◌, ℕ, List, length}
use Rattle.std.specs.Prelude.{max}
use Rattle.std.specs.List.{fold}
use Rattle.daachorse_model.specs.Prefixes.{IsListing}
use Rattle.daachorse.specs.bytewise.Automata.{dictionary_of}
use Rattle.daachorse.proofs.bytewise.DoubleArrayAhoCorasick+V+A.max_pattern_len.Given as goal

abbrev pub invariant-loop-item : goal.invariant-loop-item
invariant-loop-item g l = record {
  so_far : (listed : List (List ℕ × g.row.V.Denot)) × IsListing (dictionary_of l.self) listed × (fold (λ longest r. max longest (length r.0)) l.longest l.item-iterator ≡ fold (λ longest r. max longest (length r.0)) 0 listed);
}
