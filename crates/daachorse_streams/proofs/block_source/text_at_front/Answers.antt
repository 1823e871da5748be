-- What comes before the first fault is the beginning of the block.
use Rattle.std.proofs.Common.{◌++◌, drop, sym, ap, ◌∙◌, take-append-drop}
use Rattle.daachorse_streams.proofs.block_source.text_at_front.Goals as goal

pub returns-in-Err-clause-front : goal.returns-in-Err-clause-front
returns-in-Err-clause-front c =
    let n = c.valid_up_to.result in let block = c.args.block.now in (drop n block, sym (ap (λ w. w ++ drop n block) c.from_utf8_unchecked.ensures ∙ take-append-drop n block))
