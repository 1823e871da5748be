-- The states, the option and the filter are those that were written.
use Rattle.std.proofs.Common.{◌∙◌}
use Rattle.daachorse_checker.proofs.ReadLaws.{by_parts, fits_read}
use Rattle.daachorse.proofs.bytewise.written.DoubleArrayAhoCorasick+V+A.deserialize_unchecked.Goals as goal

pub of_states-requires : goal.of_states-requires
of_states-requires g c =
    let a = c.requires.automaton in let r = c.in_ok-read in
    let same = r.ensures.ok a.parts a.folds a.filter c.requires.begins.0 c.requires.is_one.parts c.requires.begins.1 in
    record {
      folded = (fits_read a r.read.0 r.read.1 r.read.2 same.0 same.1 same.2 c.requires.is_one).0;
      filter = (fits_read a r.read.0 r.read.1 r.read.2 same.0 same.1 same.2 c.requires.is_one).1;
    }

pub returns-clause-ok : goal.returns-clause-ok
returns-clause-ok g c a rest is begins =
    let same = c.in_ok-read.ensures.ok a.parts a.folds a.filter rest is.parts begins in
    let e = c.of_states.ensures in
    (by_parts a c.of_states.result (e.states ∙ same.0) (e.folds ∙ same.1) (e.filter ∙ same.2) e.depths, same.3)
