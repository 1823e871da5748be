-- Each character is written, and the bytes tell them all.
use Rattle.std.proofs.Common.{◌≡◌, ℕ, slice_index, sym, ap, ◌∙◌, arith, rules}
use Rattle.std.proofs.Math.Utf8.{encodes}
use Rattle.std.specs.Char.{IsScalar}
use Rattle.std.specs.Str.{all_scalars, chars}
use Rattle.std.specs.String.{string_bytes}
use Rattle.std.proofs.lemmas.List.{get_or_default, take_all}
use Rattle.std.proofs.lemmas.Str.{chars-encodes}
use Rattle.daachorse_charwise_states.proofs.StringLaws.{scalars_more, written_more}
use Rattle.daachorse_charwise_states.proofs.strings.text_of.Goals as goal

pub loop-c-preserved : goal.loop-c-preserved
loop-c-preserved g c =
    let cs = c.args.characters.now in
    let i = c.loop-c.c-index in
    let x : ℕ = c.c-item.result in
    let at : slice_index cs i ≡ x = sym (c.c-item.is ∙ get_or_default cs i x 0 c.loop-c-test.true) in
    let character : IsScalar x = search rules in
    record {
      written = written_more cs i x (string_bytes c.loop-c.text) (string_bytes c.push.new.self) c.loop-c-test.true at c.loop-c.invariant.written c.in_ok-push.ensures.bytes;
      scalars = scalars_more cs i x c.loop-c-test.true at c.loop-c.invariant.scalars character;
    }

pub returns-clause-ok : goal.returns-clause-ok
returns-clause-ok g c =
    let cs = c.args.characters.now in
    let all = take_all c.loop-c.c-index cs (let end = c.loop-c-test.false in omega (arith, end)) in
    ap chars (c.loop-c.invariant.written ∙ ap encodes all) ∙ chars-encodes cs (ap all_scalars (sym all) ∙ c.loop-c.invariant.scalars)
