-- Each pattern is registered after those before it; the first that is refused comes after patterns that fit.
use Rattle.std.proofs.Common.{◌≡◌, ◌<◌, ◌≤◌, ◌+◌, ℕ, List, take, drop, map, ◌∙◌, subst, arith}
use Rattle.std.specs.Prelude.{All}
use Rattle.std.proofs.lemmas.Result.{err_from_is_err_and}
use Rattle.std.proofs.lemmas.List.{take_all}
use Rattle.std.proofs.lemmas.List.Elements.{All-push}
use Rattle.std.proofs.lemmas.Grind.{common_steps}
use Rattle.daachorse_model.specs.declared.MatchKind.{MatchKind}
use Rattle.daachorse_model.specs.Units.{size}
use Rattle.daachorse_build.specs.Builders.{kind_of}
use Rattle.daachorse_patterns.specs.Building.{Fit, IsRefusalWithin}
use Rattle.daachorse_patterns.specs.Patterns.{texts_of}
use Rattle.daachorse_patterns.specs.Tries.{HasTexts}
use Rattle.daachorse_patterns.proofs.RefusalLaws.{Fit-texts, HasTexts-push, add_refused, prefixes_more, texts_around, texts_more}
use Rattle.daachorse_patterns.proofs.trie.add_all.Goals as goal

pub returns-in_err-add-clause-err : goal.returns-in_err-add-clause-err
returns-in_err-add-clause-err g c =
    let p = err_from_is_err_and c.from_residual-in_err-add.result c.from_residual-in_err-add.ensures.1 in
    let units = g.P.Pattern.units in let width = g.L.EdgeLabel.width in
    let patterns = c.args.patterns.now in let i = c.loop-pattern.pattern-index in
    let pair : g.row.P.Denot × g.row.V.Denot = c.loop-pattern-item.result in
    let text = units pair.0 in let labels : List g.row.L.Denot = c.in_ok-labels.field-0.now in
    let was = c.loop-pattern.invariant in
    let same : map g.L.EdgeLabel.unit labels ≡ text = c.in_ok-labels.ensures.ok in
    let S : List ℕ → Type 0 = λ x. size width x ≤ 4294967295 in
    let M : List ℕ → Type 0 = λ x. 4294967295 < size width x in
    rw (p.1, p.2) (λ limits.
    let P : MatchKind → Type 0 = λ k. IsRefusalWithin width limits k (texts_of units patterns) c.in_err-add.field-0.0 in
    subst P was.kind
    (add_refused width limits (kind_of c.loop-pattern.nfa) (texts_of units patterns) (texts_of units (take i patterns)) (texts_of units (drop (i + 1) patterns)) text pair.1
    (texts_around units patterns i pair c.loop-pattern-test.true c.loop-pattern-item.is)
    (Fit-texts g.L.Ord.cmp g.L.EdgeLabel.unit width c.loop-pattern.nfa (texts_of units (take i patterns)) was.so_far was.fits was.short)
    c.in_err-add.field-0.0 _ _ (λ much. subst M same much)
    (λ passed. (subst S same passed.short, prefixes_more g.L.Ord.cmp g.L.EdgeLabel.unit width c.loop-pattern.nfa (texts_of units (take i patterns)) labels text pair.1 was.so_far same passed.more))
    c.in_err-add.ensures.err))

pub returns-clause-fit : goal.returns-clause-fit
returns-clause-fit g c =
    let was = c.loop-pattern.invariant in
    let units = g.P.Pattern.units in
    let patterns = c.args.patterns.now in
    let whole : take c.loop-pattern.pattern-index patterns ≡ patterns = take_all c.loop-pattern.pattern-index patterns (omega arith) in
    let P : MatchKind → Type 0 = λ k. Fit g.L.EdgeLabel.width k (texts_of units patterns) in
    let Q : List (g.row.P.Denot × g.row.V.Denot) → Type 0 = λ ps. Fit g.L.EdgeLabel.width (kind_of c.loop-pattern.nfa) (texts_of units ps) in
    subst P was.kind (subst Q whole (Fit-texts g.L.Ord.cmp g.L.EdgeLabel.unit g.L.EdgeLabel.width c.loop-pattern.nfa _ was.so_far was.fits was.short))

pub loop-pattern-preserved : goal.loop-pattern-preserved
loop-pattern-preserved g c =
    let was = c.loop-pattern.invariant in
    let cmp = g.L.Ord.cmp in let unit = g.L.EdgeLabel.unit in let width = g.L.EdgeLabel.width in let units = g.P.Pattern.units in
    let patterns = c.args.patterns.now in let i = c.loop-pattern.pattern-index in
    let pair : g.row.P.Denot × g.row.V.Denot = c.loop-pattern-item.result in
    let text = units pair.0 in let labels : List g.row.L.Denot = c.in_ok-labels.field-0.now in
    let before : List (List ℕ × g.row.V.Denot) = texts_of units (take i patterns) in
    let same : map unit labels ≡ text = c.in_ok-labels.ensures.ok in
    let P = λ (rs : List (List ℕ × g.row.V.Denot)). HasTexts cmp unit width c.add.new.self rs in
    let Q = λ (rs : List (List ℕ × g.row.V.Denot)). All (λ r. size width r.0 ≤ 4294967295) rs in
    let S : List ℕ → Type 0 = λ x. size width x ≤ 4294967295 in
    let more = texts_more units patterns i pair c.loop-pattern-test.true c.loop-pattern-item.is in
    record {
      so_far = subst P more (HasTexts-push cmp unit width c.loop-pattern.nfa c.add.new.self before labels text pair.1 was.so_far same c.in_ok-add.ensures.added.registered);
      kind = c.in_ok-add.ensures.kind ∙ was.kind;
      outputs = c.in_ok-add.ensures.outputs ∙ was.outputs;
      short = subst Q more (All-push (λ r. size width r.0 ≤ 4294967295) before (text, pair.1) was.short (subst S same c.in_ok-add.ensures.added.short));
      fits = c.in_ok-add.ensures.added.fits was.fits;
    }

pub returns-clause-ok : goal.returns-clause-ok
returns-clause-ok g c = grind (arith, common_steps)
