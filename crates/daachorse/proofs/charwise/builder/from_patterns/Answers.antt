-- Patterns that are not to be folded stand as they are read; else their folded copies do, which are lent to the build.
use Rattle.std.proofs.Common.{◌≡◌, ◌∙◌, ℕ, Bool, List, refl, ap, subst}
use Rattle.std.proofs.lemmas.Result.{IfOk-weaker}
use Rattle.std.specs.Str.{chars}
use Rattle.std.specs.String.{string_bytes}
use Rattle.daachorse_model.specs.declared.MatchKind.{MatchKind}
use Rattle.daachorse_model.specs.Folding.{texts_as_read}
use Rattle.daachorse_patterns.specs.Patterns.{texts_of}
use Rattle.daachorse_patterns.proofs.TextLaws.{lent_read, read_stands}
use Rattle.daachorse.specs.charwise.Automata.{Automaton}
use Rattle.daachorse.specs.charwise.Building.{HoldsPatterns, IsBuiltWith, registrations_of_strings}
use Rattle.daachorse.proofs.charwise.builder.from_patterns.Goals as goal

-- what is built of patterns as they are read is built of the patterns
built : {V : Type 0} (kind : MatchKind) (folds : Bool) (rs read : List (List ℕ × V)) (a : Automaton V) → read ≡ texts_as_read folds rs → IsBuiltWith kind folds read a → IsBuiltWith kind folds rs a
built {V} kind folds rs read a is was =
    let P : List (List ℕ × V) → Type 0 = λ l. HoldsPatterns kind l a in
    record { holds = subst P (read_stands folds rs read is ∙ is) was.holds; kind = was.kind; folds = was.folds; depths = was.depths }

pub from_read-requires : goal.from_read-requires
from_read-requires g c = rw c.if-not-settings.true refl

pub returns-then-not-settings-clause-filter : goal.returns-then-not-settings-clause-filter
returns-then-not-settings-clause-filter g c = rw c.if-not-settings.true c.from_read.ensures.filter

pub returns-then-not-settings-clause-err : goal.returns-then-not-settings-clause-err
returns-then-not-settings-clause-err g c = rw c.if-not-settings.true c.from_read.ensures.err

pub from_read-requires-2 : goal.from_read-requires-2
from_read-requires-2 g c =
    let folds = c.args.settings.now.ascii_case_insensitive in
    let rs : List (List ℕ × g.row.V.Denot) = registrations_of_strings c.args.patterns.now in
    read_stands folds rs (registrations_of_strings c.deref-2.result.now)
    (lent_read folds rs (registrations_of_strings c.deref-2.result.now) _ c.if-not-settings.false (ap registrations_of_strings c.deref-2.ensures.value ∙ c.in_ok-folded.ensures.ok)
    (ap (texts_of (λ s. chars (string_bytes s))) c.deref.ensures.value ∙ c.in_ok-copies.ensures.ok))

pub returns-clause-ok : goal.returns-clause-ok
returns-clause-ok g c =
    let read =
    lent_read c.args.settings.now.ascii_case_insensitive (registrations_of_strings c.args.patterns.now) (registrations_of_strings c.deref-2.result.now) _ c.if-not-settings.false (ap registrations_of_strings c.deref-2.ensures.value ∙ c.in_ok-folded.ensures.ok)
    (ap (texts_of (λ s. chars (string_bytes s))) c.deref.ensures.value ∙ c.in_ok-copies.ensures.ok) in
    IfOk-weaker c.from_read-2.result _ _ (λ a. built c.args.settings.now.match_kind c.args.settings.now.ascii_case_insensitive (registrations_of_strings c.args.patterns.now) (registrations_of_strings c.deref-2.result.now) a read) c.from_read-2.ensures.ok

pub returns-clause-filter : goal.returns-clause-filter
returns-clause-filter g c =
    let read =
    lent_read c.args.settings.now.ascii_case_insensitive (registrations_of_strings c.args.patterns.now) (registrations_of_strings c.deref-2.result.now) _ c.if-not-settings.false (ap registrations_of_strings c.deref-2.ensures.value ∙ c.in_ok-folded.ensures.ok)
    (ap (texts_of (λ s. chars (string_bytes s))) c.deref.ensures.value ∙ c.in_ok-copies.ensures.ok) in
    rw read at c.from_read-2.ensures.filter

pub returns-clause-err : goal.returns-clause-err
returns-clause-err g c =
    let read =
    lent_read c.args.settings.now.ascii_case_insensitive (registrations_of_strings c.args.patterns.now) (registrations_of_strings c.deref-2.result.now) _ c.if-not-settings.false (ap registrations_of_strings c.deref-2.ensures.value ∙ c.in_ok-folded.ensures.ok)
    (ap (texts_of (λ s. chars (string_bytes s))) c.deref.ensures.value ∙ c.in_ok-copies.ensures.ok) in
    rw read at c.from_read-2.ensures.err
