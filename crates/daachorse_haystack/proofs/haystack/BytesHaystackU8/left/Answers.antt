-- Each byte counts as one, so the size of the bytes still to come is the length of the slice, less the bytes given, however they are read.
use Rattle.std.proofs.Common.{drop, sym, ap, ◌∙◌}
use Rattle.std.proofs.lemmas.List.{length-drop}
use Rattle.daachorse_core.specs.FoldedForms.{byte_as_wide}
use Rattle.daachorse_model.specs.Units.{size, byte_width}
use Rattle.daachorse_model.proofs.FoldLaws.{size-as_read}
use Rattle.daachorse_model.proofs.Suffixes.{size-bytes}
use Rattle.daachorse_haystack.proofs.haystack.BytesHaystackU8.left.Goals as goal

pub returns : goal.returns
returns c =
    let bytes = drop c.self.inside.given c.self.inside.bytes.now in
    sym (length-drop c.self.inside.given c.self.inside.bytes.now)
    ∙ sym (size-bytes bytes)
    ∙ sym (size-as_read byte_width byte_as_wide c.self.inside.folds bytes)
    ∙ ap (size byte_width) c.self.view_is
