-- What was taken of the reader was taken of what the source had to give.
use Rattle.std.proofs.Common.{◌≡◌, [], ℕ, inl, List, Option, Some, sym, ap, ◌∙◌, subst, arith}
use Rattle.std.specs.Io.KnownBytes.{Consumes, Keeps}
use Rattle.daachorse_search.specs.Readers.{Reading, behind, to_give}
use Rattle.daachorse_streams.specs.declared.block_source.Taken.{Taken}
use Rattle.daachorse_streams.specs.declared.block_source.Taken.TheVariants.{Block, Ended, Nothing}
use Rattle.daachorse_streams.specs.Advancing.{TakesBlock}
use Rattle.daachorse_streams.proofs.block_source.skip_block.Given as given
use Rattle.daachorse_streams.proofs.block_source.skip_block.Goals as goal
use Rattle.daachorse_streams.proofs.block_source.skip_block.Goals.{In_ok-count}

pub take_block-requires-clause-fits : goal.take_block-requires-clause-fits
take_block-requires-clause-fits g c = omega (arith, c.requires.fits, c.min-most.ensures, c.into_parts-reader.ensures.left)

-- what a reader has is what its source has to give
had : {R : Type 0} (known : R → Option (List ℕ)) (s : Reading R) (reader : R) → reader ≡ s.reader → s.ahead ≡ [] → known reader ≡ to_give known s
had known s reader same none = ap known same ∙ ap (λ l. behind l (known s.reader)) (sym none)

-- what was taken of the source's reader
taken : (g : given.Over) (c : In_ok-count g) (r : Taken) → c.in_ok-count.field-0 ≡ r
    → TakesBlock g.A.Automaton.sees g.U.BlockUnit.is_given g.U.EdgeLabel.width g.U.EdgeLabel.unit g.U.EdgeLabel.form g.K.Keep.keeps c.min-most.result (to_give g.R.Read.remaining c.args.source) c.args.stream.now c.args.kept.now r (g.R.Read.remaining c.take_block.new.reader) c.take_block.new.stream
    c.take_block.new.kept
taken g c r is =
    let known = g.R.Read.remaining in let label = g.U.EdgeLabel in let parts = c.into_parts-reader.ensures in
    let T : Taken → Type 0 =
    λ x. TakesBlock g.A.Automaton.sees g.U.BlockUnit.is_given label.width label.unit label.form g.K.Keep.keeps c.min-most.result (known c.into_parts-reader.result.0) c.args.stream.now c.args.kept.now x (known c.take_block.new.reader) c.take_block.new.stream c.take_block.new.kept in
    let O : Option (List ℕ) → Type 0 =
    λ old. TakesBlock g.A.Automaton.sees g.U.BlockUnit.is_given label.width label.unit label.form g.K.Keep.keeps c.min-most.result old c.args.stream.now c.args.kept.now r (known c.take_block.new.reader) c.take_block.new.stream c.take_block.new.kept in
    subst O (had known c.args.source c.into_parts-reader.result.0 parts.reader parts.ahead) (subst T is c.in_ok-count.ensures.ok)

pub returns-in-Block-clause-ok : goal.returns-in-Block-clause-ok
returns-in-Block-clause-ok g c =
    let known = g.R.Read.remaining in let to = c.from_parts.ensures in let took = taken g (goal.at.returns-in-Block-clause-ok g c).In_ok-count (Block c.in-Block.count) c.in-Block.is in
    let C : Option (List ℕ) → Type 0 = λ new. Consumes (to_give known c.args.source) new took.0 in
    record {
      bytes = took.0;
      some = omega (arith, took.1, took.3);
      took = subst C (sym (ap (to_give known) to)) took.5;
      fewer = omega (arith, took.2, took.3, ap (λ (x : Reading g.row.R.Denot). x.left) to, c.into_parts-reader.ensures.left, c.min-most.ensures);
      consumes = took.4;
      kept = took.6;
    }

pub returns-in-Nothing-clause-ok : goal.returns-in-Nothing-clause-ok
returns-in-Nothing-clause-ok g c =
    let known = g.R.Read.remaining in let to = c.from_parts-in-Nothing.ensures in let took = taken g (goal.at.returns-in-Nothing-clause-ok g c).In_ok-count Nothing c.in-Nothing.is in
    let K : Option (List ℕ) → Type 0 = λ new. Keeps (to_give known c.args.source) new in
    (subst K (sym (ap (to_give known) to)) took.0, ap (λ (x : Reading g.row.R.Denot). x.left) to ∙ c.into_parts-reader.ensures.left, took.1, took.2)

pub returns-in-Ended-clause-ok : goal.returns-in-Ended-clause-ok
returns-in-Ended-clause-ok g c =
    let known = g.R.Read.remaining in let to = c.ended.ensures in let failure = ap (λ (x : Reading g.row.R.Denot). x.failure) to in
    let took = taken g (goal.at.returns-in-Ended-clause-ok g c).In_ok-count (Ended c.in-Ended.failure) c.in-Ended.is in
    let K : Option (List ℕ) → Type 0 = λ new. Keeps (to_give known c.args.source) new in (
      (
        subst K (sym (ap (to_give known) to)) took.0,
        ap (λ (x : Reading g.row.R.Denot). x.left) to ∙ c.into_parts-reader.ensures.left,
        inl (ap (λ (x : Reading g.row.R.Denot). x.end) to ∙ ap Some (sym failure)),
        λ whole. took.1 (sym failure ∙ whole),
      ),
      took.3,
      took.4,
    )
