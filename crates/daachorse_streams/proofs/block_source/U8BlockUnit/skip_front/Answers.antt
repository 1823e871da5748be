-- What is skipped is the first of the block as it is read, and so of the block as it is.
use Rattle.std.proofs.Common.{◌∷◌, [], ℕ, List, refl, sym, ap, ◌∙◌, subst, append-nil, arith}
use Rattle.std.specs.Prelude.{⊤}
use Rattle.daachorse_core.specs.ByteForms.{byte_wide}
use Rattle.daachorse_core.specs.FoldedForms.{byte_as_wide}
use Rattle.daachorse_model.specs.Folding.{as_read}
use Rattle.daachorse_model.specs.Units.{byte_width, size}
use Rattle.daachorse_model.proofs.FoldLaws.{length-as_read}
use Rattle.daachorse_model.proofs.Suffixes.{size-bytes}
use Rattle.daachorse_streams.specs.SourceLaws.{bytes_are}
use Rattle.daachorse_streams.specs.Streamed.{HasSkipped}
use Rattle.daachorse_streams.proofs.AdvancingLaws.{consumes-front}
use Rattle.daachorse_streams.proofs.block_source.U8BlockUnit.skip_front.Goals as goal

pub skip-requires-clause-fits : goal.skip-requires-clause-fits
skip-requires-clause-fits g c =
    omega (
      arith,
      c.requires.fits,
      ap (size byte_width) c.new.ensures.bytes,
      size-bytes (as_read c.folds.result c.args.block.now),
      length-as_read c.folds.result c.args.block.now,
    )

pub returns-clause-front : goal.returns-clause-front
returns-clause-front g c =
    let block = c.args.block.now in let s = c.args.stream.now in let t = c.skip.new.self in
    let K = (g.A.Automaton.sees s.automaton).content in let skips = c.skip.ensures in
    let H : List ℕ → Type 0 = λ w. HasSkipped byte_width K s w c.skip.result t in
    consumes-front g.A.Automaton.sees (λ b. ⊤) byte_width (λ b. b ∷ []) byte_as_wide byte_wide (λ b. refl) c.folds.result block block []
    c.skip.result s t c.folds.ensures (λ k d inside. tt) (sym (append-nil _ ∙ bytes_are block)) skips.automaton skips.folds
    (subst H c.new.ensures.bytes skips.skipped) skips.none skips.given (skips.ended ∙ sym c.requires.open)
