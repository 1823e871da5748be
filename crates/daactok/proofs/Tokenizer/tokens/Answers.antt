-- The matches that are left at first are those of the whole text.
use Rattle.std.proofs.Common.{ap, ◌∙◌}
use Rattle.std.specs.Str.{chars}
use Rattle.daachorse_model.specs.Folding.{as_read}
use Rattle.daachorse_model.specs.Leftmost.{leftmost}
use Rattle.daachorse_model.specs.Units.{char_width}
use Rattle.daachorse.specs.charwise.Automata.{dictionary_of}
use Rattle.daactok.specs.Tokens.{tokens_from}
use Rattle.daactok.proofs.Parts.{parts_of_search, tokens_of_search}
use Rattle.daactok.proofs.Tokenizer.tokens.Goals as goal

pub invariant_of-result : goal.invariant_of-result
invariant_of-result g c = parts_of_search c.args.text.now c.self.inside.words.now.folds (dictionary_of c.self.inside.words.now) _ c.leftmost_find_iter.ensures.begins.left c.self.invariant.1 c.utf8.text

pub returns : goal.returns
returns g c = record {
  list = ap (tokens_from c.args.text.now 0) (c.leftmost_find_iter.ensures.begins.left ∙ ap (λ a. leftmost char_width (dictionary_of a) (as_read a.folds (chars c.args.text.now))) c.self.view_is);
  joined = (tokens_of_search c.args.text.now c.self.inside.words.now.folds (dictionary_of c.self.inside.words.now) _ c.leftmost_find_iter.ensures.begins.left c.self.invariant.1 c.utf8.text).joined;
  few = (tokens_of_search c.args.text.now c.self.inside.words.now.folds (dictionary_of c.self.inside.words.now) _ c.leftmost_find_iter.ensures.begins.left c.self.invariant.1 c.utf8.text).few;
  nonempty = (tokens_of_search c.args.text.now c.self.inside.words.now.folds (dictionary_of c.self.inside.words.now) _ c.leftmost_find_iter.ensures.begins.left c.self.invariant.1 c.utf8.text).nonempty;
  apart = (tokens_of_search c.args.text.now c.self.inside.words.now.folds (dictionary_of c.self.inside.words.now) _ c.leftmost_find_iter.ensures.begins.left c.self.invariant.1 c.utf8.text).apart;
}
