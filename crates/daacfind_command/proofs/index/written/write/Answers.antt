-- The bytes are the form of the automaton that was built; a flush takes nothing.
use Rattle.std.proofs.Common.{◌≡◌, ℕ, ◌+◌, List, Option, ap, refl, subst, ◌∙◌, IfErr}
use Rattle.std.specs.Prelude.{Result}
use Rattle.std.specs.Result.{IsErrAnd}
use Rattle.std.specs.Io.KnownBytes.{Keeps}
use Rattle.std.proofs.KnownBytes.{Appends-kept, Keeps-refl}
use Rattle.daachorse.proofs.Refusals.{at_error}
use Rattle.daachorse_model.specs.declared.MatchKind.{MatchKind}
use Rattle.daachorse_model.specs.Program.{pattern_lines}
use Rattle.daachorse.specs.bytewise.Building.{IsBuildRefusal}
use Rattle.daachorse.specs.Replaced.{AppendsBeginning}
use Rattle.daacfind_command.specs.declared.mode.Mode.{Mode}
use Rattle.daacfind_command.specs.declared.index.written.IndexError.{IndexError}
use Rattle.daacfind_command.specs.declared.index.written.IndexError.TheVariants.{Refused, Write}
use Rattle.daacfind_command.specs.Modes.{kind_of_mode}
use Rattle.daacfind_command.specs.Runs.{value_gives}
use Rattle.daacfind_command.specs.Written.{IfRefused, IsFormOf, OnFailure, OnRefusal}
use Rattle.daacfind_command.proofs.WrittenLaws.{form_of_built, a_beginning_of_all}
use Rattle.daacfind_command.proofs.index.written.write.Goals as goal

-- where writing failed, a beginning of the form was written
failed_after : {T : Type 0} (r : Result T IndexError) (mode : Mode) (patterns : List ℕ) (old new : Option (List ℕ)) (bytes : List ℕ)
    → IsErrAnd r (λ e. e ≡ Write) → IsFormOf (kind_of_mode mode) patterns bytes → AppendsBeginning old new bytes
    → IfErr r (λ e. OnFailure e ((b : List ℕ) × IsFormOf (kind_of_mode mode) patterns b × AppendsBeginning old new b))
failed_after r mode patterns old new bytes is form to =
    at_error r Write (λ e. OnFailure e ((b : List ℕ) × IsFormOf (kind_of_mode mode) patterns b × AppendsBeginning old new b)) is
    (bytes, form, to)

pub returns-in_err-automaton-clause-refusal : goal.returns-in_err-automaton-clause-refusal
returns-in_err-automaton-clause-refusal g c =
    let P : MatchKind → Type 0 = λ k. IsBuildRefusal value_gives k (pattern_lines c.args.patterns.now) c.in_err-automaton.field-0.0 in
    at_error c.from_residual.result (Refused c.in_err-automaton.field-0.0)
    (λ e. IfRefused e (IsBuildRefusal value_gives (kind_of_mode c.args.mode) (pattern_lines c.args.patterns.now)))
    c.from_residual.ensures.1 (subst P c.match_kind.ensures c.in_err-automaton.ensures.err)

pub returns-in_err-automaton-clause-unwritten : goal.returns-in_err-automaton-clause-unwritten
returns-in_err-automaton-clause-unwritten g c =
    let old = g.S.Sink.taken c.args.out.now in
    at_error c.from_residual.result (Refused c.in_err-automaton.field-0.0) (λ e. OnRefusal e (Keeps old old))
    c.from_residual.ensures.1 (Keeps-refl old)

pub returns-in_err-automaton-clause-untried : goal.returns-in_err-automaton-clause-untried
returns-in_err-automaton-clause-untried g c =
    let old = g.S.Sink.failures c.args.out.now in
    at_error c.from_residual.result (Refused c.in_err-automaton.field-0.0) (λ e. OnRefusal e (old ≡ old)) c.from_residual.ensures.1 refl

pub returns-in_err-bytes-clause-unwritten : goal.returns-in_err-bytes-clause-unwritten
returns-in_err-bytes-clause-unwritten g c =
    let old = g.S.Sink.taken c.args.out.now in
    at_error c.from_residual-in_err-bytes.result (Refused c.in_err-bytes.field-0.0) (λ e. OnRefusal e (Keeps old old))
    c.from_residual-in_err-bytes.ensures.1 (Keeps-refl old)

pub returns-in_err-bytes-clause-untried : goal.returns-in_err-bytes-clause-untried
returns-in_err-bytes-clause-untried g c =
    let old = g.S.Sink.failures c.args.out.now in
    at_error c.from_residual-in_err-bytes.result (Refused c.in_err-bytes.field-0.0) (λ e. OnRefusal e (old ≡ old))
    c.from_residual-in_err-bytes.ensures.1 refl

pub returns-in_err-write_whole-clause-beginning : goal.returns-in_err-write_whole-clause-beginning
returns-in_err-write_whole-clause-beginning g c =
    failed_after c.from_residual-in_err-write_whole.result c.args.mode c.args.patterns.now (g.S.Sink.taken c.args.out.now)
    (g.S.Sink.taken c.write_whole.new.out) c.deref.result.now c.from_residual-in_err-write_whole.ensures.1
    (form_of_built c.args.mode c.args.patterns.now c.match_kind.result c.in_ok-automaton.automaton c.deref.result.now
    c.match_kind.ensures c.in_ok-automaton.ensures.built c.in_ok-bytes.ensures.automaton
    (c.deref.ensures.value ∙ c.in_ok-bytes.ensures.ok))
    c.in_err-write_whole.ensures.beginning

pub returns-in_err-write_whole-clause-failed : goal.returns-in_err-write_whole-clause-failed
returns-in_err-write_whole-clause-failed g c =
    at_error c.from_residual-in_err-write_whole.result Write
    (λ e. OnFailure e (g.S.Sink.failures c.write_whole.new.out ≡ g.S.Sink.failures c.args.out.now + 1))
    c.from_residual-in_err-write_whole.ensures.1 c.in_err-write_whole.ensures.failed

pub returns-in_err-flush-clause-beginning : goal.returns-in_err-flush-clause-beginning
returns-in_err-flush-clause-beginning g c =
    let old = g.S.Sink.taken c.args.out.now in
    let new = g.S.Sink.taken c.flush.new.self in
    failed_after c.from_residual-in_err-flush.result c.args.mode c.args.patterns.now old new c.deref.result.now
    c.from_residual-in_err-flush.ensures.1
    (form_of_built c.args.mode c.args.patterns.now c.match_kind.result c.in_ok-automaton.automaton c.deref.result.now
    c.match_kind.ensures c.in_ok-automaton.ensures.built c.in_ok-bytes.ensures.automaton
    (c.deref.ensures.value ∙ c.in_ok-bytes.ensures.ok))
    (a_beginning_of_all old new c.deref.result.now
    (Appends-kept old (g.S.Sink.taken c.write_whole.new.out) new c.deref.result.now c.in_ok-write_whole.ensures.whole
    c.in_err-flush.ensures.taken))

pub returns-in_err-flush-clause-failed : goal.returns-in_err-flush-clause-failed
returns-in_err-flush-clause-failed g c =
    at_error c.from_residual-in_err-flush.result Write
    (λ e. OnFailure e (g.S.Sink.failures c.flush.new.self ≡ g.S.Sink.failures c.args.out.now + 1))
    c.from_residual-in_err-flush.ensures.1 (c.in_err-flush.ensures.failures ∙ ap (λ n. n + 1) c.in_ok-write_whole.ensures.unfailed)

pub returns-clause-written : goal.returns-clause-written
returns-clause-written g c = (
  c.deref.result.now,
  form_of_built c.args.mode c.args.patterns.now c.match_kind.result c.in_ok-automaton.automaton c.deref.result.now
      c.match_kind.ensures c.in_ok-automaton.ensures.built c.in_ok-bytes.ensures.automaton
      (c.deref.ensures.value ∙ c.in_ok-bytes.ensures.ok),
  Appends-kept (g.S.Sink.taken c.args.out.now) (g.S.Sink.taken c.write_whole.new.out) (g.S.Sink.taken c.flush.new.self)
      c.deref.result.now c.in_ok-write_whole.ensures.whole c.in_ok-flush.ensures.taken,
)

pub returns-clause-unfailed : goal.returns-clause-unfailed
returns-clause-unfailed g c =
    c.in_ok-flush.ensures.failures ∙ c.in_ok-write_whole.ensures.unfailed
