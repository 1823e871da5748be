-- Each character's bytes are added.
use Rattle.std.proofs.Common.{◌≡◌, ℕ, length, slice_index, take, refl, sym, ap, ◌∙◌, arith, length-append}
use Rattle.std.proofs.Math.Utf8.{encode, encodes}
use Rattle.std.proofs.lemmas.List.{get_or_default, take_all}
use Rattle.daachorse_charwise_states.proofs.StringLaws.{written_more}
use Rattle.daachorse_charwise_states.proofs.strings.num_bytes.Goals as goal

pub loop-c-preserved : goal.loop-c-preserved
loop-c-preserved c =
    let cs = c.args.characters.now in
    let i = c.loop-c.c-index in
    let x : ℕ = c.c-item.result in
    let at : slice_index cs i ≡ x = sym (c.c-item.is ∙ get_or_default cs i x 0 c.loop-c-test.true) in
    let more = ap length (written_more cs i x (encodes (take i cs)) _ c.loop-c-test.true at refl refl) in
    record {
      counted = omega (arith, c.loop-c.invariant.counted, c.len_utf8-size.ensures.len, length-append (encodes (take i cs)) (encode x)) ∙ more;
      few = omega (arith, c.loop-c.invariant.few, c.len_utf8-size.ensures.upper_bound);
    }

pub returns : goal.returns
returns c =
    let all = take_all c.loop-c.c-index c.args.characters.now (let end = c.loop-c-test.false in omega (arith, end)) in
    c.loop-c.invariant.counted ∙ ap (λ l. length (encodes l)) all
