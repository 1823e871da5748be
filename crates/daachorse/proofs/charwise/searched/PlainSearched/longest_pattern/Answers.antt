-- The states tell the longest pattern.
use Rattle.std.proofs.Common.{subst, ap, ◌∙◌}
use Rattle.std.specs.Prelude.{IfOk}
use Rattle.std.proofs.lemmas.Result.{IfOk-weaker}
use Rattle.daachorse_model.specs.Units.{char_width}
use Rattle.daachorse_streams.specs.Streams.{IsLongest}
use Rattle.daachorse.specs.charwise.Automata.{Automaton, dictionary_of}
use Rattle.daachorse.proofs.charwise.searched.PlainSearched.longest_pattern.Goals as goal

pub returns-clause-ok : goal.returns-clause-ok
returns-clause-ok g c =
    let P : Automaton g.row.V.Denot → Type 0 = λ a. IfOk c.longest.result (IsLongest char_width (dictionary_of a)) in
    subst P c.self.view_is (IfOk-weaker c.longest.result _ _ (λ longest is. record { none_longer = is.0; some = is.1 }) c.longest.ensures.ok)
