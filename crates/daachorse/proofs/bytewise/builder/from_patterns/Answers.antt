-- Patterns that are not to be folded stand as they are read; else their folded copies do, which are lent to the build.
use Rattle.std.proofs.Common.{◌≡◌, ◌∙◌, ℕ, Bool, List, map, refl, ap, sym, subst}
use Rattle.std.specs.Borrow.{Bor}
use Rattle.std.proofs.lemmas.Result.{IfOk-weaker}
use Rattle.daachorse_model.specs.declared.MatchKind.{MatchKind}
use Rattle.daachorse_model.specs.Dictionary.{registrations_of}
use Rattle.daachorse_model.specs.Folding.{all_as_read, texts_as_read}
use Rattle.daachorse_patterns.specs.Patterns.{texts_of}
use Rattle.daachorse_patterns.proofs.FilterLaws.{texts-first}
use Rattle.daachorse_patterns.proofs.TextLaws.{first-as_read, lent_read, read_stands}
use Rattle.daachorse.specs.bytewise.Automata.{Automaton}
use Rattle.daachorse.specs.bytewise.Building.{HoldsPatterns, IsBuiltWith, kept_filter}
use Rattle.daachorse.proofs.bytewise.builder.from_patterns.Goals as goal

-- the texts of what is lent are those of the patterns, as they are read
texts : {V : Type 0} (folds : Bool) (ps lends : List (Bor (List ℕ) × V)) → registrations_of lends ≡ texts_as_read folds (registrations_of ps) → map (λ p. p.0.now) lends ≡ all_as_read folds (map (λ p. p.0.now) ps)
texts {V} folds ps lends is =
    let units : Bor (List ℕ) → List ℕ = λ p. p.now in
    let first : List (List ℕ × V) → List (List ℕ) = map (λ r. r.0) in
    sym (texts-first units lends) ∙ ap first is ∙ first-as_read folds (registrations_of ps) ∙ ap (all_as_read folds) (texts-first units ps)

-- what is built of patterns as they are read is built of the patterns
built : {V : Type 0} (kind : MatchKind) (folds : Bool) (rs read : List (List ℕ × V)) (a : Automaton V) → read ≡ texts_as_read folds rs → IsBuiltWith kind folds read a → IsBuiltWith kind folds rs a
built {V} kind folds rs read a is was =
    let P : List (List ℕ × V) → Type 0 = λ l. HoldsPatterns kind l a in
    record { holds = subst P (read_stands folds rs read is ∙ is) was.holds; kind = was.kind; folds = was.folds; depths = was.depths }

pub from_read-requires : goal.from_read-requires
from_read-requires g c = rw c.if-not-settings.true refl

pub returns-then-not-settings-clause-filter : goal.returns-then-not-settings-clause-filter
returns-then-not-settings-clause-filter g c = rw c.if-not-settings.true c.from_read.ensures.filter

pub returns-then-not-settings-clause-err : goal.returns-then-not-settings-clause-err
returns-then-not-settings-clause-err g c = rw c.if-not-settings.true c.from_read.ensures.err

pub from_read-requires-2 : goal.from_read-requires-2
from_read-requires-2 g c =
    let rs = registrations_of c.args.patterns.now in
    read_stands c.args.settings.now.ascii_case_insensitive rs (registrations_of c.deref-2.result.now)
    (lent_read c.args.settings.now.ascii_case_insensitive rs (registrations_of c.deref-2.result.now) _ c.if-not-settings.false (ap registrations_of c.deref-2.ensures.value ∙ c.in_ok-folded.ensures.ok)
    (ap (texts_of (λ x. x.items)) c.deref.ensures.value ∙ c.in_ok-copies.ensures.ok))

pub returns-clause-ok : goal.returns-clause-ok
returns-clause-ok g c =
    let is =
    lent_read c.args.settings.now.ascii_case_insensitive (registrations_of c.args.patterns.now) (registrations_of c.deref-2.result.now) _ c.if-not-settings.false (ap registrations_of c.deref-2.ensures.value ∙ c.in_ok-folded.ensures.ok)
    (ap (texts_of (λ x. x.items)) c.deref.ensures.value ∙ c.in_ok-copies.ensures.ok) in
    IfOk-weaker c.from_read-2.result _ _ (λ a. built c.args.settings.now.match_kind c.args.settings.now.ascii_case_insensitive (registrations_of c.args.patterns.now) (registrations_of c.deref-2.result.now) a is) c.from_read-2.ensures.ok

pub returns-clause-err : goal.returns-clause-err
returns-clause-err g c =
    let is =
    lent_read c.args.settings.now.ascii_case_insensitive (registrations_of c.args.patterns.now) (registrations_of c.deref-2.result.now) _ c.if-not-settings.false (ap registrations_of c.deref-2.ensures.value ∙ c.in_ok-folded.ensures.ok)
    (ap (texts_of (λ x. x.items)) c.deref.ensures.value ∙ c.in_ok-copies.ensures.ok) in
    rw is at c.from_read-2.ensures.err

pub returns-clause-filter : goal.returns-clause-filter
returns-clause-filter g c =
    let is =
    lent_read c.args.settings.now.ascii_case_insensitive (registrations_of c.args.patterns.now) (registrations_of c.deref-2.result.now) _ c.if-not-settings.false (ap registrations_of c.deref-2.ensures.value ∙ c.in_ok-folded.ensures.ok)
    (ap (texts_of (λ x. x.items)) c.deref.ensures.value ∙ c.in_ok-copies.ensures.ok) in
    IfOk-weaker c.from_read-2.result _ _ (λ a same. same ∙ ap (kept_filter c.args.settings.now.use_prefilter) (texts c.args.settings.now.ascii_case_insensitive c.args.patterns.now c.deref-2.result.now is)) c.from_read-2.ensures.filter
