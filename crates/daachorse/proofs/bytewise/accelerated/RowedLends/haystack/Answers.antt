-- It may be cut behind each unit.
use Rattle.daachorse_streams.proofs.Cuts.{bytes_cut}
use Rattle.daachorse.proofs.bytewise.accelerated.RowedLends.haystack.Goals as goal

pub returns-clause-cuts : goal.returns-clause-cuts
returns-clause-cuts g c front back splits = bytes_cut c.args.self.now.automaton.folds c.args.text.now front back splits
