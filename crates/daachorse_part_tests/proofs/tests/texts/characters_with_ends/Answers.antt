-- A string's bytes are UTF-8 and their number fits in 64 bits, so that they can be decoded and the ends of their characters counted.
use Rattle.std.proofs.Common.{◌∙◌, inl, ap, length, subst, sym, arith}
use Rattle.std.specs.Str.{IsUtf8}
use Rattle.daachorse_haystack.proofs.DecodedRuns.{IsText-known}
use Rattle.daachorse_part_tests.proofs.tests.texts.characters_with_ends.Goals as goal

pub collect-requires-clause-can : goal.collect-requires-clause-can
collect-requires-clause-can c = record {
  text = IsText-known _ (λ s. s) (λ s r t h. h) _ _ c.new-2.result.source tt tt (subst IsUtf8 (sym (c.new-2.ensures.source ∙ c.new.ensures.bytes)) c.as_bytes.ensures.utf8);
  fits = inl (omega (arith, c.new-2.ensures.place, c.as_bytes.ensures.len, ap length (c.new-2.ensures.source ∙ c.new.ensures.bytes)));
}
