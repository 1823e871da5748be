-- The prefilter lets pass at each pattern of the automaton that the stream searches for.
use Rattle.std.proofs.Common.{sym, ap, ◌∙◌, subst}
use Rattle.daachorse_haystack.specs.Filters.{IsSoundFor}
use Rattle.daachorse.proofs.automaton.AhoCorasick.leftmost_stream_from_reader.Goals as goal

pub new-requires-clause-sound : goal.new-requires-clause-sound
new-requires-clause-sound g c =
    subst (λ K. IsSoundFor (g.S.Unit.BlockUnit.passes c.skipping.result) K)
    (ap g.S.Searched.dictionary c.self.view_is ∙ sym c.in_ok-stream.ensures.content) c.skipping.ensures.sound
