-- What was taken in a block was given by the source.
use Rattle.std.proofs.Common.{◌≡◌, Bool, true, Option, Some, None, sym, ap, ◌∙◌, subst, arith}
use Rattle.std.proofs.lemmas.Result.{IfOk-weaker}
use Rattle.std.specs.Char.{IsScalar, encode_utf8}
use Rattle.std.specs.Iterator.{at_most}
use Rattle.daachorse_core.specs.FoldedForms.{char_as_wide}
use Rattle.daachorse_model.specs.Units.{char_width}
use Rattle.daachorse_search.specs.Readers.{GivesCharacter, MayReadCharacters, Reading}
use Rattle.daachorse_streams.specs.Advancing.{Advances, SkipsBlock}
use Rattle.daachorse_streams.specs.LeftmostReading.{MayReadOn}
use Rattle.daachorse_streams.specs.Streamed.{LeftmostStreamed}
use Rattle.daachorse_streams.proofs.AdvancingLaws.{fits_as_read, gives_characters, skips-advances, skips-may, stays-advances, stays-may}
use Rattle.daachorse_streams.proofs.block_source.ReadCharsBlockSourceChar.advance.Given as given
use Rattle.daachorse_streams.proofs.block_source.ReadCharsBlockSourceChar.advance.Goals as goal
use Rattle.daachorse_streams.proofs.block_source.ReadCharsBlockSourceChar.advance.Goals.{In_ok-behind}

pub skip_block-requires-clause-fits : goal.skip_block-requires-clause-fits
skip_block-requires-clause-fits g c =
    let s = c.args.stream.now in
    omega (arith, fits_as_read char_width char_as_wide s.folds c.args.self s.read c.requires.may.1, ap (λ (x : Reading g.row.R.Denot). x.left) c.into_bytes.ensures)

-- what was skipped in the block
skipped : (g : given.Over) (c : In_ok-behind g) (taken : Option Bool) → c.in_ok-behind.taken ≡ taken
    → SkipsBlock g.A.Automaton.sees IsScalar char_width (λ u. u) encode_utf8 g.K.Keep.keeps g.R.Read.remaining c.args.stream.now c.args.self c.args.kept.now taken c.skip_block.new.stream c.in_ok-behind.behind c.skip_block.new.kept
skipped g c taken is =
    let T : Option Bool → Type 0 =
    λ x. SkipsBlock g.A.Automaton.sees IsScalar char_width (λ u. u) encode_utf8 g.K.Keep.keeps g.R.Read.remaining c.args.stream.now c.into_bytes.result c.args.kept.now x c.skip_block.new.stream c.in_ok-behind.behind c.skip_block.new.kept in
    let F : Reading g.row.R.Denot → Type 0 =
    λ x. SkipsBlock g.A.Automaton.sees IsScalar char_width (λ u. u) encode_utf8 g.K.Keep.keeps g.R.Read.remaining c.args.stream.now x c.args.kept.now taken c.skip_block.new.stream c.in_ok-behind.behind c.skip_block.new.kept in
    subst F c.into_bytes.ensures (subst T is c.in_ok-behind.ensures.ok)

pub returns-in-Some-clause-advances : goal.returns-in-Some-clause-advances
returns-in-Some-clause-advances g c =
    let known = g.R.Read.remaining in let is = skipped g (goal.at.returns-in-Some-clause-advances g c).In_ok-behind (Some c.in-Some.some) c.in-Some.is in
    let T : Reading g.row.R.Denot → Type 0 = λ x. Advances g.A.Automaton.sees char_width (GivesCharacter known) (λ x. at_most x.left) (λ u. u) encode_utf8 g.K.Keep.keeps c.args.stream.now c.args.self c.args.kept.now c.in-Some.some c.skip_block.new.stream x c.skip_block.new.kept in
    subst T (sym c.from_bytes.ensures) (skips-advances known g.A.Automaton.sees g.K.Keep.keeps (gives_characters known) c.args.stream.now c.skip_block.new.stream c.args.self c.in_ok-behind.behind c.args.kept.now c.skip_block.new.kept c.in-Some.some is)

pub returns-in-Some-clause-may : goal.returns-in-Some-clause-may
returns-in-Some-clause-may g c some =
    let known = g.R.Read.remaining in let is = skipped g (goal.at.returns-in-Some-clause-may g c).In_ok-behind (Some true) (c.in-Some.is ∙ ap Some some) in
    let T : Reading g.row.R.Denot → Type 0 = λ x. MayReadOn MayReadCharacters c.skip_block.new.stream (Some x) in
    subst T (sym c.from_bytes.ensures) (skips-may known g.A.Automaton.sees g.K.Keep.keeps (gives_characters known) c.args.stream.now c.skip_block.new.stream c.args.self c.in_ok-behind.behind c.args.kept.now c.skip_block.new.kept is c.requires.may)

pub consume_one-requires-in-None-clause-taken : goal.consume_one-requires-in-None-clause-taken
consume_one-requires-in-None-clause-taken g c =
    let is = skipped g (goal.at.consume_one-requires-in-None-clause-taken g c).In_ok-behind None c.in-None.is in ap (λ (x : LeftmostStreamed g.row.V.Denot g.row.A.Denot). x.waiting) is.2 ∙ c.requires.taken

pub consume_one-requires-in-None-clause-may : goal.consume_one-requires-in-None-clause-may
consume_one-requires-in-None-clause-may g c =
    let known = g.R.Read.remaining in let is = skipped g (goal.at.consume_one-requires-in-None-clause-may g c).In_ok-behind None c.in-None.is in
    let T : Reading g.row.R.Denot → Type 0 = λ x. MayReadOn MayReadCharacters c.skip_block.new.stream (Some x) in
    subst T (sym c.from_bytes-in-None.ensures) (stays-may known g.A.Automaton.sees g.K.Keep.keeps (gives_characters known) c.args.stream.now c.skip_block.new.stream c.args.self c.in_ok-behind.behind c.args.kept.now c.skip_block.new.kept is c.requires.may)

pub returns-in-None-clause-advances : goal.returns-in-None-clause-advances
returns-in-None-clause-advances g c =
    let known = g.R.Read.remaining in let is = skipped g (goal.at.returns-in-None-clause-advances g c).In_ok-behind None c.in-None.is in
    let last = c.consume_one-in-None.new.stream in let all = c.consume_one-in-None.new.kept in
    let was = c.from_bytes-in-None.ensures in
    IfOk-weaker c.consume_one-in-None.result (λ r. Advances g.A.Automaton.sees char_width (GivesCharacter known) (λ x. at_most x.left) (λ u. u) encode_utf8 g.K.Keep.keeps c.skip_block.new.stream c.from_bytes-in-None.result c.skip_block.new.kept r.1 last r.0 all)
    (λ r. Advances g.A.Automaton.sees char_width (GivesCharacter known) (λ x. at_most x.left) (λ u. u) encode_utf8 g.K.Keep.keeps c.args.stream.now c.args.self c.args.kept.now r.1 last r.0 all)
    (λ r h.
    let F : Reading g.row.R.Denot → Type 0 = λ x. Advances g.A.Automaton.sees char_width (GivesCharacter known) (λ x. at_most x.left) (λ u. u) encode_utf8 g.K.Keep.keeps c.skip_block.new.stream x c.skip_block.new.kept r.1 last r.0 all in
    stays-advances known g.A.Automaton.sees g.K.Keep.keeps (gives_characters known) c.args.stream.now c.skip_block.new.stream c.args.self c.in_ok-behind.behind c.args.kept.now c.skip_block.new.kept is r.1 last r.0 all (subst F was h)) c.consume_one-in-None.ensures.advances
