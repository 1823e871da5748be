-- It may be cut behind each unit.
use Rattle.daachorse_streams.proofs.Cuts.{text_cut}
use Rattle.daachorse.proofs.charwise.searched.PlainLends.haystack.Goals as goal

pub returns-clause-cuts : goal.returns-clause-cuts
returns-clause-cuts g c front back splits = text_cut c.args.self.now.folds c.args.text.now c.utf8.text front back splits
