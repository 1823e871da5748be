-- The source is the bytes of the string.
use Rattle.std.proofs.Common.{◌∙◌, ap}
use Rattle.std.specs.Str.Iter.{bytes_rest}
use Rattle.daachorse_table.proofs.searched.chars_rows.no_suffix_in_bytes_of.Goals as goal

pub gives_no_suffix_from_text-requires-clause-source : goal.gives_no_suffix_from_text-requires-clause-source
gives_no_suffix_from_text-requires-clause-source c = ap bytes_rest c.find_overlapping_no_suffix_iter_from_iter.ensures.source ∙ c.bytes.ensures.rest
