-- Each pattern is shown to the builder; all were in the end.
use Rattle.std.proofs.Common.{◌≡◌, ℕ, ◌+◌, List, ◌∷◌, [], ◌++◌, ◌∙◌, take, sym, ap, subst, arith}
use Rattle.std.proofs.lemmas.List.{take_all}
use Rattle.daachorse_model.specs.declared.MatchKind.{MatchKind}
use Rattle.daachorse_model.specs.Dictionary.{dictionary}
use Rattle.daachorse_prefilter.specs.Builders.{HasAdded}
use Rattle.daachorse_prefilter.specs.Building.{built_filter}
use Rattle.daachorse_prefilter.specs.Filters.{PassesKeys}
use Rattle.daachorse_patterns.specs.Patterns.{texts_of}
use Rattle.daachorse_patterns.proofs.FilterLaws.{sound_passes, words, words-push}
use Rattle.daachorse_patterns.proofs.RefusalLaws.{texts_more}
use Rattle.daachorse_patterns.proofs.filter.build_filter.Goals as goal

pub loop-pattern-preserved : goal.loop-pattern-preserved
loop-pattern-preserved g c =
    let units = g.P.Pattern.units in let spell = g.P.Pattern.spell in
    let patterns = c.args.patterns.now in let i = c.loop-pattern.pattern-index in
    let pair : g.row.P.Denot × g.row.V.Denot = c.loop-pattern-item.result in
    let before : List (List ℕ × g.row.V.Denot) = texts_of units (take i patterns) in
    let more : words spell before ++ c.bytes.result.now ∷ [] ≡ words spell (texts_of units (take (i + 1) patterns)) =
    ap (λ b. words spell before ++ b ∷ []) c.bytes.ensures
    ∙ sym (words-push spell before (units pair.0, pair.1))
    ∙ ap (words spell) (texts_more units patterns i pair c.loop-pattern-test.true c.loop-pattern-item.is) in
    subst (HasAdded c.add.new.self) more (c.add.ensures (words spell before) c.loop-pattern.invariant)

pub returns-clause-ok : goal.returns-clause-ok
returns-clause-ok g c =
    let texts = texts_of g.P.Pattern.units in let patterns = c.args.patterns.now in let i = c.loop-pattern.pattern-index in
    let whole : take i patterns ≡ patterns = take_all i patterns (omega (arith, c.loop-pattern-test.false)) in
    let made = c.build.ensures.made (words g.P.Pattern.spell (texts (take i patterns))) c.loop-pattern.invariant in
    rw c.if-not-wanted.false (made ∙ ap (λ ps. built_filter (words g.P.Pattern.spell (texts ps))) whole)

pub returns-clause-passes : goal.returns-clause-passes
returns-clause-passes g c =
    let spell = g.P.Pattern.spell in let texts = texts_of g.P.Pattern.units in let patterns = c.args.patterns.now in let i = c.loop-pattern.pattern-index in
    let whole : take i patterns ≡ patterns = take_all i patterns (omega (arith, c.loop-pattern-test.false)) in
    let P : List (g.row.P.Denot × g.row.V.Denot) → Type 0 = λ ps. (kind : MatchKind) → PassesKeys spell (dictionary kind (texts ps)) c.build.result in
    subst P whole (sound_passes spell (texts (take i patterns)) c.build.result (c.build.ensures.sound (words spell (texts (take i patterns))) c.loop-pattern.invariant))
