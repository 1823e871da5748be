-- The states hold the dictionary, and what is walked along is the text as it is read.
use Rattle.std.proofs.Common.{ap, ◌∙◌}
use Rattle.daachorse_model.specs.Folding.{as_read}
use Rattle.daachorse_model.specs.Units.{byte_width}
use Rattle.daachorse_array.specs.Lookups.{common_prefixes}
use Rattle.daachorse_bytewise_states.specs.Parts.{content}
use Rattle.daachorse.specs.bytewise.Automata.{dictionary_of}
use Rattle.daachorse.proofs.bytewise.lookup.DoubleArrayAhoCorasick+V+A.common_prefixes.Goals as goal

pub returns : goal.returns
returns g c =
    c.new-2.ensures
    ∙ (ap (λ t. common_prefixes byte_width (content c.self-inside.inside.0.0.states) t) c.new.ensures.bytes
    ∙ ap (λ a. common_prefixes byte_width (dictionary_of a) (as_read a.folds c.args.text.now)) (ap (λ s. s.searched) c.self-inside.view_is ∙ c.self.view_is))
