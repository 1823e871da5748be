-- Lists are those of standard searches just where there are no leftmost elements and no links beside them, and the standard elements make blocks, and that is what is asked in turn.
use Rattle.std.proofs.Common.{◌≡◌, length, arith}
use Rattle.std.proofs.lemmas.Grind.{common_steps}
use Rattle.daachorse_bytewise_states.specs.Elements.{vacant}
use Rattle.daachorse_bytewise_states.proofs.unchecked.are_standard.Goals as goal

pub returns : goal.returns
returns c =
    let none : length c.args.leftmost.now ≡ 0 = grind (arith, common_steps, c.is_empty.ensures, c.if-not-is_empty.false) in
    let no_links : length c.args.fails.now ≡ 0 = grind (arith, common_steps, c.is_empty-2.ensures, c.if-not-is_empty-2.false) in
    let blocks = c.are_blocks.ensures vacant in
    (λ e. (none, no_links, blocks.0 e), λ are. blocks.1 are.2)
