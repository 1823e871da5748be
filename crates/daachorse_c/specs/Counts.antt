-- What an automaton holds, in numbers.
use Rattle.std.specs.Prelude.{◌≡◌, ℕ, List, length, max}
use Rattle.std.specs.List.{fold}
use Rattle.daachorse_model.specs.Prefixes.{HasPrefixes, IsListing}
use Rattle.daachorse_model.specs.Units.{size}
use Rattle.daachorse_c.specs.Automata.{Automaton, dictionary_of, width_of}
use Rattle.daachorse_c.specs.declared.counts.Counts.{Counts}
use Rattle.daachorse_c.specs.Written.{form_of}

-- how many patterns and how many prefixes of patterns an automaton has, how many bytes the longest pattern has, and how many bytes its written form has
pub record AreCounts (a : Automaton) (c : Counts) : Type 0 where
  pub patterns : (listed : List (List ℕ × ℕ)) × IsListing (dictionary_of a) listed × (c.patterns ≡ length listed)
  pub states : HasPrefixes (dictionary_of a) c.states
  pub longest : (listed : List (List ℕ × ℕ)) × IsListing (dictionary_of a) listed × (c.longest ≡ fold (λ longest r. max longest (size (width_of a) r.0)) 0 listed)
  pub size : c.size ≡ length (form_of a)
