-- Lists are those of leftmost searches just where there are no standard elements, as many links as leftmost elements, and these make blocks, and that is what is asked in turn.
use Rattle.std.proofs.Common.{◌≡◌, length, arith}
use Rattle.std.proofs.lemmas.Grind.{common_steps}
use Rattle.daachorse_bytewise_states.specs.Elements.{vacant_left}
use Rattle.daachorse_bytewise_states.proofs.unchecked.are_leftmost.Goals as goal

pub returns : goal.returns
returns c =
    let none : length c.args.standard.now ≡ 0 = grind (arith, common_steps, c.is_empty.ensures, c.if-not-is_empty.false) in
    let blocks = c.are_blocks.ensures vacant_left in
    (λ e. (none, omega (arith, c.if-fails-leftmost.false), blocks.0 e), λ are. blocks.1 are.2)
