-- The greatest length so far and those of the patterns that are left give the greatest of all.
use Rattle.std.proofs.Common.{◌≡◌, ℕ, List}
use Rattle.std.specs.Prelude.{max}
use Rattle.std.specs.List.{fold}
use Rattle.daachorse_model.specs.Prefixes.{IsListing}
use Rattle.daachorse_model.specs.Units.{char_width, size}
use Rattle.daachorse.specs.charwise.Automata.{dictionary_of}
use Rattle.daachorse_c.proofs.counts.longest_text.Given as goal

abbrev pub invariant-loop-item : goal.invariant-loop-item
invariant-loop-item l = record {
  so_far : (listed : List (List ℕ × ℕ)) × IsListing (dictionary_of l.automaton) listed
      × (fold (λ longest r. max longest (size char_width r.0)) l.longest l.item-iterator ≡ fold (λ longest r. max longest (size char_width r.0)) 0 listed);
}
