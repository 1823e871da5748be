-- The source is the bytes of the string.
use Rattle.std.proofs.Common.{◌∙◌, ap}
use Rattle.std.specs.Str.Iter.{bytes_rest}
use Rattle.daachorse_table.proofs.searched.chars_rows.overlapping_in_bytes_of.Goals as goal

pub gives_overlapping_from_text-requires-clause-source : goal.gives_overlapping_from_text-requires-clause-source
gives_overlapping_from_text-requires-clause-source c = ap bytes_rest c.find_overlapping_iter_from_iter.ensures.source ∙ c.bytes.ensures.rest
