-- The states hold the dictionary, and what is walked along is the text as it is read.
use Rattle.std.proofs.Common.{ap, ◌∙◌}
use Rattle.std.specs.Str.{chars}
use Rattle.daachorse_model.specs.Folding.{as_read}
use Rattle.daachorse_model.specs.Units.{char_width}
use Rattle.daachorse_array.specs.Lookups.{common_prefixes}
use Rattle.daachorse_charwise_states.specs.Parts.{content}
use Rattle.daachorse.specs.charwise.Automata.{dictionary_of}
use Rattle.daachorse.proofs.charwise.lookup.CharwiseDoubleArrayAhoCorasick+V+A.common_prefixes.Goals as goal

pub returns : goal.returns
returns g c =
    c.new-2.ensures
    ∙ (ap (λ t. common_prefixes char_width (content c.self-inside.inside.0.0.states) t) c.new.ensures.characters
    ∙ ap (λ a. common_prefixes char_width (dictionary_of a) (as_read a.folds (chars c.args.text.now))) (ap (λ s. s.searched) c.self-inside.view_is ∙ c.self.view_is))
