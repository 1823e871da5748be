-- What is skipped is the first of the block's text as it is read, and so of the block as it is.
use Rattle.std.proofs.Common.{
  ◌≡◌,
  ◌+◌,
  ◌++◌,
  ◌≤◌,
  ℕ,
  List,
  length,
  drop,
  sym,
  ap,
  ◌∙◌,
  subst,
  append_assoc,
  length-append,
  take-append-drop,
  arith,
}
use Rattle.std.proofs.lemmas.List.{length-take-le}
use Rattle.std.proofs.lemmas.Str.{encodes-chars, length-encode, scalars-chars}
use Rattle.std.specs.Char.{IsScalar, encode_utf8}
use Rattle.std.specs.Prelude.{encode_utf8_all}
use Rattle.std.specs.Str.{chars}
use Rattle.daachorse_core.specs.CharForms.{char_wide}
use Rattle.daachorse_core.specs.FoldedForms.{char_as_wide}
use Rattle.daachorse_haystack.proofs.TextLaws.{size-chars}
use Rattle.daachorse_model.specs.Folding.{as_read}
use Rattle.daachorse_model.specs.Units.{byte_width, char_width, size}
use Rattle.daachorse_model.proofs.FoldLaws.{length-as_read, size-as_read}
use Rattle.daachorse_model.proofs.Suffixes.{size-bytes}
use Rattle.daachorse_streams.specs.SourceLaws.{characters_are}
use Rattle.daachorse_streams.specs.Streamed.{HasSkipped}
use Rattle.daachorse_streams.proofs.AdvancingLaws.{all_scalars, consumes-front}
use Rattle.daachorse_streams.proofs.block_source.CharBlockUnit.skip_front.Given as given
use Rattle.daachorse_streams.proofs.block_source.CharBlockUnit.skip_front.Goals as goal
use Rattle.daachorse_streams.proofs.block_source.CharBlockUnit.skip_front.Goals.{After-text_at_front-text, After-pass_over-count}

within : (g : given.Over) (c : After-pass_over-count g) → c.pass_over-count.result ≤ length c.args.block.now
within g c =
    let folds = c.folds-folds.result in let block = c.args.block.now in
    omega (
      arith,
      c.pass_over-count.ensures.within,
      ap (size byte_width) c.new.ensures.bytes,
      size-bytes (as_read folds block),
      length-as_read folds block,
    )

pub slice_bounds-text_at_front-end : goal.slice_bounds-text_at_front-end
slice_bounds-text_at_front-end g c =
    sym (length-take-le c.pass_over-count.result c.args.block.now
    (within g (goal.at.slice_bounds-text_at_front-end g c).After-pass_over-count))

-- the text is the first of the block
begins : (g : given.Over) (c : After-text_at_front-text g)
    → c.args.block.now ≡ c.text_at_front-text.result.now
    ++ (c.text_at_front-text.ensures.front.0 ++ drop c.pass_over-count.result c.args.block.now)
begins g c =
    let n = c.pass_over-count.result in let block = c.args.block.now in let front = c.text_at_front-text.ensures.front in
    sym (take-append-drop n block) ∙ ap (λ w. w ++ drop n block) front.1
    ∙ append_assoc c.text_at_front-text.result.now front.0 (drop n block)

pub skip-requires-clause-fits : goal.skip-requires-clause-fits
skip-requires-clause-fits g c =
    let text = c.text_at_front-text.result.now in let units = chars text in
    let rest = c.text_at_front-text.ensures.front.0 ++ drop c.pass_over-count.result c.args.block.now in
    omega (
      arith,
      c.requires.fits,
      ap (size char_width) c.new-units.ensures.characters,
      size-as_read char_width char_as_wide c.folds-folds.result units,
      size-chars text c.text_at_front-text.ensures.text,
      ap length (begins g (goal.at.skip-requires-clause-fits g c).After-text_at_front-text),
      length-append text rest,
    )

pub skip-requires-clause-sound : goal.skip-requires-clause-sound
skip-requires-clause-sound g c key rest is = c.pass_over-count.ensures.passes (encode_utf8_all (key ++ rest)) ∙ c.requires.sound key rest is

pub returns-clause-passes : goal.returns-clause-passes
returns-clause-passes g c w = c.skip.ensures.passes w ∙ c.pass_over-count.ensures.passes (encode_utf8_all w)

pub returns-clause-front : goal.returns-clause-front
returns-clause-front g c =
    let block = c.args.block.now in let s = c.args.stream.now in let t = c.skip.new.self in
    let K = (g.A.Automaton.sees s.automaton).content in let skips = c.skip.ensures in
    let text = c.text_at_front-text.result.now in let utf8 = c.text_at_front-text.ensures.text in let units = chars text in
    let more = c.text_at_front-text.ensures.front.0 ++ drop c.pass_over-count.result block in
    let H : List ℕ → Type 0 = λ w. HasSkipped char_width K s w c.skip.result t in
    consumes-front g.A.Automaton.sees IsScalar char_width encode_utf8 char_as_wide char_wide length-encode c.folds-folds.result units block
    more c.skip.result s t c.folds-folds.ensures (all_scalars units (scalars-chars text utf8))
    (begins g (goal.at.returns-clause-front g c).After-text_at_front-text
    ∙ ap (λ w. w ++ more) (sym (characters_are units ∙ encodes-chars text utf8))) skips.automaton skips.folds
    (subst H c.new-units.ensures.characters skips.skipped) skips.none skips.given
    (skips.ended ∙ sym c.requires.open)
