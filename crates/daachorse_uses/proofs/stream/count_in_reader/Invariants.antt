-- The matches so far were counted.
use Rattle.daachorse_model.specs.Matches.{matches_after}
use Rattle.daachorse_model.specs.Units.{byte_width}
use Rattle.daachorse.specs.bytewise.Automata.{dictionary_of, states_of}
use Rattle.daachorse_uses.proofs.ReadFound.{Counts}
use Rattle.daachorse_uses.proofs.stream.count_in_reader.Given as goal

abbrev pub invariant-loop-found : goal.invariant-loop-found
invariant-loop-found g l =
    Counts g.R.Read.remaining (λ p. matches_after byte_width (dictionary_of (record l.fn.words { parts = p }))) (states_of l.fn.words)
    l.fn.reader l.fn.words.folds l.found-iterator l.count
