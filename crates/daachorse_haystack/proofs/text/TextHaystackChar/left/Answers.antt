-- What is still to come is UTF-8, so its characters take just its bytes, which are those of the string, less those given, however they are read.
use Rattle.std.proofs.Common.{drop, sym, ap, ◌∙◌}
use Rattle.std.proofs.lemmas.List.{length-drop}
use Rattle.std.specs.Str.{chars}
use Rattle.daachorse_core.specs.FoldedForms.{char_as_wide}
use Rattle.daachorse_model.specs.Units.{size, char_width}
use Rattle.daachorse_model.proofs.FoldLaws.{size-as_read}
use Rattle.daachorse_haystack.proofs.TextLaws.{size-chars}
use Rattle.daachorse_haystack.proofs.text.TextHaystackChar.left.Goals as goal

pub returns : goal.returns
returns c =
    let bytes = drop c.self.inside.given c.self.inside.text.now in
    sym (length-drop c.self.inside.given c.self.inside.text.now)
    ∙ sym (size-chars bytes c.self.invariant.1)
    ∙ sym (size-as_read char_width char_as_wide c.self.inside.folds (chars bytes))
    ∙ ap (size char_width) c.self.view_is
