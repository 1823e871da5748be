-- What is built or refused of the patterns with the values of their indexes is so of the texts, as they are read.
use Rattle.std.proofs.Common.{◌≡◌, ◌∙◌, ℕ, List, map, ap, sym, subst}
use Rattle.std.proofs.lemmas.Result.{IfOk-weaker, IfErr-weaker, err_from_is_err_and}
use Rattle.std.specs.Borrow.{Bor}
use Rattle.daachorse_model.specs.Dictionary.{registrations_of}
use Rattle.daachorse_model.specs.Units.{byte_width}
use Rattle.daachorse_model.specs.Folding.{all_as_read}
use Rattle.daachorse_patterns.specs.Patterns.{AreIndexed}
use Rattle.daachorse_patterns.proofs.IndexLaws.{AreIndexed-map, AreIndexed-texts, refused_build}
use Rattle.daachorse_patterns.proofs.TextLaws.{AreIndexed-as_read, values_refused-as_read}
use Rattle.daachorse.specs.bytewise.Building.{IsBuildRefusal, IsBuiltOf, byte_limits, kept_filter}
use Rattle.daachorse.proofs.bytewise.builder.from_texts.Goals as goal

pub returns-in_err-patterns-clause-err : goal.returns-in_err-patterns-clause-err
returns-in_err-patterns-clause-err g c =
    let p = err_from_is_err_and c.from_residual.result c.from_residual.ensures.1 in
    let now : Bor (List ℕ) → List ℕ = λ t. t.now in
    rw (p.1, p.2)
    (values_refused-as_read g.V.TryFrom.try_from_gives c.args.settings.now.ascii_case_insensitive now byte_width byte_limits c.args.settings.now.match_kind c.args.texts.now c.in_err-patterns.field-0.0 c.in_err-patterns.ensures.err)

pub returns-clause-ok : goal.returns-clause-ok
returns-clause-ok g c =
    let gives = g.V.TryFrom.try_from_gives in
    let now : Bor (List ℕ) → List ℕ = λ t. t.now in
    let folds = c.args.settings.now.ascii_case_insensitive in
    let all : List (List ℕ) = map now c.args.texts.now in
    let P : List (Bor (List ℕ) × g.row.V.Denot) → Type 0 = λ ps. AreIndexed gives 0 all (registrations_of ps) in
    let indexed = subst P (sym c.deref.ensures.value) (AreIndexed-texts gives now 0 c.args.texts.now c.in_ok-patterns.patterns.items c.in_ok-patterns.ensures.ok) in
    IfOk-weaker c.from_patterns.result _ (IsBuiltOf gives c.args.settings.now.match_kind folds all) (λ a built. (registrations_of c.deref.result.now, indexed, built)) c.from_patterns.ensures.ok

pub returns-clause-err : goal.returns-clause-err
returns-clause-err g c =
    let gives = g.V.TryFrom.try_from_gives in
    let now : Bor (List ℕ) → List ℕ = λ t. t.now in
    let folds = c.args.settings.now.ascii_case_insensitive in
    let all : List (List ℕ) = map now c.args.texts.now in
    let P : List (Bor (List ℕ) × g.row.V.Denot) → Type 0 = λ ps. AreIndexed gives 0 all (registrations_of ps) in
    let indexed = subst P (sym c.deref.ensures.value) (AreIndexed-texts gives now 0 c.args.texts.now c.in_ok-patterns.patterns.items c.in_ok-patterns.ensures.ok) in
    IfErr-weaker c.from_patterns.result _ (IsBuildRefusal gives c.args.settings.now.match_kind (all_as_read folds all))
    (refused_build gives byte_width byte_limits c.args.settings.now.match_kind (all_as_read folds all) _ (AreIndexed-as_read gives folds 0 all (registrations_of c.deref.result.now) indexed))
    c.from_patterns.ensures.err

pub returns-clause-filter : goal.returns-clause-filter
returns-clause-filter g c =
    let now : Bor (List ℕ) → List ℕ = λ t. t.now in
    let values : Bor (List ℕ) × g.row.V.Denot → List ℕ = λ p. p.0.now in
    let same : map values c.deref.result.now ≡ map now c.args.texts.now =
    ap (map values) c.deref.ensures.value ∙ AreIndexed-map g.V.TryFrom.try_from_gives now 0 c.args.texts.now c.in_ok-patterns.patterns.items c.in_ok-patterns.ensures.ok in
    IfOk-weaker c.from_patterns.result _ _ (λ a is. is ∙ ap (λ ts. kept_filter c.args.settings.now.use_prefilter (all_as_read c.args.settings.now.ascii_case_insensitive ts)) same) c.from_patterns.ensures.filter
