-- The strings with the values of their indexes are the texts with these, as they are read.
use Rattle.std.proofs.Common.{◌≡◌, ◌∙◌, ℕ, List, map, ap, sym, subst, inl}
use Rattle.std.proofs.lemmas.Result.{IfOk-weaker, IfErr-weaker, err_from_is_err_and}
use Rattle.std.specs.Borrow.{Bor}
use Rattle.std.specs.Str.{chars}
use Rattle.daachorse_model.specs.Units.{char_width}
use Rattle.daachorse_model.specs.Folding.{all_as_read}
use Rattle.daachorse_patterns.specs.Patterns.{AreIndexed}
use Rattle.daachorse_patterns.proofs.IndexLaws.{AreIndexed-map, AreIndexed-texts}
use Rattle.daachorse_patterns.proofs.FilterLaws.{texts-first}
use Rattle.daachorse_patterns.proofs.TextLaws.{AreIndexed-as_read, first-as_read, values_refused-as_read}
use Rattle.daachorse.specs.charwise.Building.{char_limits, kept_filter, registrations_of_strings, texts_of_strings}
use Rattle.daachorse.proofs.BuildLaws.{refused_with_values}
use Rattle.daachorse.proofs.charwise.builder.from_texts.Goals as goal

pub returns-in_err-patterns-clause-err : goal.returns-in_err-patterns-clause-err
returns-in_err-patterns-clause-err g c =
    let p = err_from_is_err_and c.from_residual.result c.from_residual.ensures.1 in
    let text : Bor (List ℕ) → List ℕ = λ s. chars s.now in
    rw (p.1, p.2)
    (inl (values_refused-as_read g.V.TryFrom.try_from_gives c.args.settings.now.ascii_case_insensitive text char_width char_limits c.args.settings.now.match_kind c.args.texts.now c.in_err-patterns.field-0.0 c.in_err-patterns.ensures.err))

pub returns-clause-ok : goal.returns-clause-ok
returns-clause-ok g c =
    let gives = g.V.TryFrom.try_from_gives in
    let P : List (Bor (List ℕ) × g.row.V.Denot) → Type 0 = λ ps. AreIndexed gives 0 (texts_of_strings c.args.texts.now) (registrations_of_strings ps) in
    let indexed = subst P (sym c.deref.ensures.value) (AreIndexed-texts gives (λ (s : Bor (List ℕ)). chars s.now) 0 c.args.texts.now _ c.in_ok-patterns.ensures.ok) in
    IfOk-weaker c.from_patterns.result _ _ (λ a built. (registrations_of_strings c.deref.result.now, indexed, built)) c.from_patterns.ensures.ok

pub returns-clause-err : goal.returns-clause-err
returns-clause-err g c =
    let gives = g.V.TryFrom.try_from_gives in
    let folds = c.args.settings.now.ascii_case_insensitive in
    let P : List (Bor (List ℕ) × g.row.V.Denot) → Type 0 = λ ps. AreIndexed gives 0 (texts_of_strings c.args.texts.now) (registrations_of_strings ps) in
    let indexed = subst P (sym c.deref.ensures.value) (AreIndexed-texts gives (λ (s : Bor (List ℕ)). chars s.now) 0 c.args.texts.now _ c.in_ok-patterns.ensures.ok) in
    let read = AreIndexed-as_read gives folds 0 (texts_of_strings c.args.texts.now) (registrations_of_strings c.deref.result.now) indexed in
    IfErr-weaker c.from_patterns.result _ _ (λ e refused. refused_with_values gives c.args.settings.now.match_kind (all_as_read folds (texts_of_strings c.args.texts.now)) _ read e refused) c.from_patterns.ensures.err

pub returns-clause-filter : goal.returns-clause-filter
returns-clause-filter g c =
    let text : Bor (List ℕ) → List ℕ = λ s. chars s.now in
    let first : List ℕ × g.row.V.Denot → List ℕ = λ r. r.0 in
    let values : Bor (List ℕ) × g.row.V.Denot → List ℕ = λ p. chars p.0.now in
    let same : map first (registrations_of_strings c.deref.result.now) ≡ texts_of_strings c.args.texts.now =
    texts-first text c.deref.result.now ∙ ap (map values) c.deref.ensures.value
    ∙ AreIndexed-map g.V.TryFrom.try_from_gives text 0 c.args.texts.now c.in_ok-patterns.patterns.items c.in_ok-patterns.ensures.ok in
    let folds = c.args.settings.now.ascii_case_insensitive in
    let read = first-as_read folds (registrations_of_strings c.deref.result.now) ∙ ap (all_as_read folds) same in
    IfOk-weaker c.from_patterns.result _ _ (λ a is. is ∙ ap (kept_filter c.args.settings.now.use_prefilter) read) c.from_patterns.ensures.filter
