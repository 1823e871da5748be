-- The search ended, and its source tells why.
use Rattle.std.proofs.Common.{◌≡◌, Some, None, Err, ap, ◌∙◌, sym}
use Rattle.std.specs.Option.{option_map}
use Rattle.daachorse_search.proofs.ReaderLaws.{GivesRead-last}
use Rattle.daachorse_search.proofs.matches_from_reader.MatchesFromReaderIterator.next.Goals as goal

some_same : {A : Type 0} {x y : A} → Some x ≡ Some y → x ≡ y
some_same is = cc

pub returns-in_err-into_failure-clause-steps : goal.returns-in_err-into_failure-clause-steps
returns-in_err-into_failure-clause-steps g c =
    let was : c.args.self.now ≡ Some c.in_ok-matches.matches.now = sym c.self.view_is ∙ sym c.in_ok-matches.ensures.value in
    let same : c.in_ok-ended.ended ≡ c.next.new.self = some_same c.in_ok-ended.ensures.value in
    let source = c.into_source.ensures in
    let none : c.into_failure.result ≡ None = c.in_err-into_failure.was in
    GivesRead-last _ _ _ _ _ _ _ was c.in_default.ensures.steps same c.turns_are_bounded.ensures c.take.ensures.after
    (c.into_failure.ensures.failure ∙ ap g.S.ReadSource.failure source) c.into_failure.ensures.lasting
    (c.from_residual-in_err-into_failure.ensures ∙ sym (ap (option_map Err) none))

pub returns-clause-steps : goal.returns-clause-steps
returns-clause-steps g c =
    let was : c.args.self.now ≡ Some c.in_ok-matches.matches.now = sym c.self.view_is ∙ sym c.in_ok-matches.ensures.value in
    let same : c.in_ok-ended.ended ≡ c.next.new.self = some_same c.in_ok-ended.ensures.value in
    let source = c.into_source.ensures in
    let some : c.into_failure.result ≡ Some c.in_ok-into_failure.field-0 = c.in_ok-into_failure.was in
    GivesRead-last _ _ _ _ _ _ _ was c.in_default.ensures.steps same c.turns_are_bounded.ensures c.take.ensures.after
    (c.into_failure.ensures.failure ∙ ap g.S.ReadSource.failure source) c.into_failure.ensures.lasting
    (sym (ap (option_map Err) some))
