-- A code point with a code is written at the code.
use Rattle.std.proofs.Common.{◌≡◌, ℕ, ◌+◌, ◌<◌, ◌∙◌, suc, List, Option, length, set, slice_index, sym, ap, subst, arith}
use Rattle.daachorse_charwise_states.specs.Edges.{AreCharacters}
use Rattle.daachorse_charwise_states.proofs.Entries.{code_read, none_read}
use Rattle.daachorse_charwise_states.proofs.CharacterLaws.{character_left, character_written}
use Rattle.daachorse_charwise_states.proofs.edges.characters.Goals.{then-code, else-code}
use Rattle.daachorse_charwise_states.proofs.edges.characters.Goals as goal

pub index_mut-requires : goal.index_mut-requires
index_mut-requires g c =
    let u = c.loop-code_point.code_point in
    let less : u < length c.table-code-items.result.now = omega (arith, c.loop-code_point-test.true) in
    let code = code_read c.args.mapper.now c.table-code-items.result.now c.table-code-items.ensures.is u less c.if-code.true in
    let low : slice_index c.table-code-items.result.now u < c.args.mapper.now.alphabet_size = c.requires.below u _ code in
    omega (arith, low, c.loop-code_point.invariant.characters.size, c.loop-code_point.characters.ok.0)

pub loop-code_point-preserved : goal.loop-code_point-preserved
loop-code_point-preserved g c =
    let u = c.loop-code_point.code_point in
    let less : u < length c.table-code-items.result.now = omega (arith, c.loop-code_point-test.true) in
    let next : u + 1 ≡ suc u = omega arith in
    let table = c.table-code-items.result.now in
    let so = c.loop-code_point.invariant.characters in
    elim c.if-code.branch [
      | then-code w ↦ record {
        characters = character_written c.args.mapper.now c.requires u (u + 1) (slice_index table u) c.loop-code_point.characters.items c.if-code.characters.items next
            (code_read c.args.mapper.now table c.table-code-items.ensures.is u less w.if-code.true) (ap (λ v. v.items) w.characters-is ∙ ap (set c.loop-code_point.characters.items (slice_index table u)) w.character_at.ensures) so;
      }
      | else-code w ↦ record {
        characters =
            let left = character_left c.args.mapper.now c.requires u (u + 1) c.loop-code_point.characters.items next (none_read c.args.mapper.now table c.table-code-items.ensures.is u less w.if-code.false) so in
            let P : List (Option ℕ) → Type 0 = λ l. AreCharacters c.args.mapper.now (u + 1) l in
            subst P (sym (ap (λ v. v.items) w.characters-is)) left;
      }
    ]
