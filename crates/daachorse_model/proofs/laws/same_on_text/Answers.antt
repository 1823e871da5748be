-- No text begins with a byte inside a character, and none ends inside one, so the matches of nonempty text patterns start and end at the characters' own boundaries in both forms.
use Rattle.daachorse_model.specs.Units.{byte_width, char_width}
use Rattle.daachorse_model.specs.Leftmost.{leftmost}
use Rattle.daachorse_model.specs.Matches.{overlapping, no_suffix, standard}
use Rattle.daachorse_model.proofs.AsRead.{read_texts_same}
use Rattle.daachorse_model.proofs.SameOnText.{overlapping_texts, no_suffix_texts}
use Rattle.daachorse_model.proofs.SameSearches.{standard_texts, leftmost_texts}
use Rattle.daachorse_model.proofs.laws.same_on_text.Goals as goal

pub returns : goal.returns
returns g c = record {
  overlapping = read_texts_same (overlapping byte_width) (overlapping char_width) c.args.kind (overlapping_texts c.args.kind);
  no_suffix = read_texts_same (no_suffix byte_width) (no_suffix char_width) c.args.kind (no_suffix_texts c.args.kind);
  standard = read_texts_same (standard byte_width) (standard char_width) c.args.kind (standard_texts c.args.kind);
  leftmost = read_texts_same (leftmost byte_width) (leftmost char_width) c.args.kind (leftmost_texts c.args.kind);
}
