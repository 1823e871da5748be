-- Each match is moved by the text, whatever place the cursor stands at.
use Rattle.std.proofs.Common.{map, get_or, ap, ◌∙◌, arith}
use Rattle.daachorse_c.specs.declared.found.CMatch.{CMatch}
use Rattle.daachorse_c.specs.Characters.{in_characters}
use Rattle.daachorse_patterns.proofs.FoldingLaws.{written_more}
use Rattle.daachorse_c.proofs.daachorse_to_characters.Goals as goal

pub loop-found-preserved : goal.loop-found-preserved
loop-found-preserved c =
    let matches = c.loop-found.matches in let i = c.loop-found.found-index in let nowhere : CMatch = record { start = 0; end = 0; value = 0 } in (
      written_more (in_characters c.args.text.now c.args.bytes c.args.characters c.args.origin) (λ m. m) matches (map (λ m. m) c.args.matches.now) i nowhere c.moved.result c.loop-found.invariant.0 (omega (arith, c.loop-found-test.true, c.loop-found.auto.matches))
          (c.moved.ensures.moved ∙ ap (λ text. in_characters text c.args.bytes c.args.characters c.args.origin (get_or matches i nowhere)) c.loop-found.invariant.1),
      c.moved.ensures.text ∙ c.loop-found.invariant.1,
    )
