-- The text is what the automaton that the bytes begin with finds; a flush takes nothing.
use Rattle.std.proofs.Common.{◌≡◌, ◌≢◌, ℕ, Bool, true, false, List, Option, rules, sym, subst, ◌∙◌, IfErr, refl}
use Rattle.std.specs.Prelude.{Result}
use Rattle.std.specs.Result.{IsErrAnd}
use Rattle.std.specs.Int.{w32}
use Rattle.std.specs.Io.KnownBytes.{Appends}
use Rattle.std.proofs.KnownBytes.{Appends-kept}
use Rattle.daachorse.proofs.Refusals.{at_error}
use mathlib.Core.Bool.{not}
use denote.Enum.Bare.{sameb}
use Rattle.daachorse_model.specs.contracts.MatchKind.{the_type}
use Rattle.daachorse_model.specs.declared.MatchKind.{MatchKind}
use Rattle.daachorse_model.specs.Folding.{as_read}
use Rattle.daachorse_model.specs.Program.{match_text}
use Rattle.daachorse.specs.Forms.{take_number}
use Rattle.daachorse.specs.Refusals.{IsOutOfMemory}
use Rattle.daachorse.specs.bytewise.Automata.{Automaton as Searches, dictionary_of, kind_of}
use Rattle.daachorse.specs.bytewise.ReadForms.{GivesAutomaton}
use Rattle.daachorse.specs.Replaced.{AppendsBeginning}
use Rattle.daacfind_command.specs.declared.mode.Mode.{Mode}
use Rattle.daacfind_command.specs.declared.index.written.IndexError.{IndexError}
use Rattle.daacfind_command.specs.declared.index.written.IndexError.TheVariants.{Refused, Write}
use Rattle.daacfind_command.specs.Modes.{found_by, kind_of_mode}
use Rattle.daacfind_command.specs.Written.{BeginsWithForm, IfRefused, IsOfAnotherKind, IsTextBy, OnFailure, OnKind}
use Rattle.daacfind_command.proofs.WrittenLaws.{a_beginning_of_all, finds_same, kind_is_right, refused_for_memory}
use Rattle.daacfind_command.proofs.index.written.run_written.Goals as goal

-- kinds that do not differ
same_kind : (a m : MatchKind) (differ : Bool) → differ ≡ not (sameb the_type a m) → differ ≡ false → a ≡ m
same_kind a m differ is not_so = search (rules, is, not_so)

other_kind : (a m : MatchKind) (differ : Bool) → differ ≡ not (sameb the_type a m) → differ ≡ true → a ≢ m
other_kind a m differ is so = search (rules, is, so)

-- what the automaton finds
abbrev text_by : Mode → Searches ℕ → List ℕ → List ℕ
text_by mode a haystack = match_text (found_by mode (dictionary_of a) (as_read a.folds haystack))

by_given : (mode : Mode) (bytes haystack : List ℕ) (a : Searches ℕ) (rest : List ℕ) (k m : MatchKind) (differ : Bool)
    → GivesAutomaton (take_number w32) bytes a rest → k ≡ kind_of a → m ≡ kind_of_mode mode
    → differ ≡ not (sameb the_type k m) → differ ≡ false → IsTextBy mode bytes haystack (text_by mode a haystack)
by_given mode bytes haystack a rest k m differ given is_k is_m is not_so =
    record { automaton = a; rest = rest; given = given; kind = sym is_k ∙ same_kind k m differ is not_so ∙ is_m; found = refl }

-- where writing failed, a beginning was written
failed_after : {T : Type 0} (r : Result T IndexError) (mode : Mode) (bytes haystack : List ℕ) (old new : Option (List ℕ)) (text : List ℕ)
    → IsErrAnd r (λ e. e ≡ Write) → IsTextBy mode bytes haystack text → AppendsBeginning old new text
    → IfErr r (λ e. OnFailure e ((t : List ℕ) × IsTextBy mode bytes haystack t × AppendsBeginning old new t))
failed_after r mode bytes haystack old new text is by to =
    at_error r Write (λ e. OnFailure e ((t : List ℕ) × IsTextBy mode bytes haystack t × AppendsBeginning old new t)) is (text, by, to)

pub returns-in_err-write_found-clause-beginning : goal.returns-in_err-write_found-clause-beginning
returns-in_err-write_found-clause-beginning g c =
    let s = c.in_ok-searches in
    failed_after c.from_residual-in_err-write_found.result c.args.mode c.args.automaton.now c.args.haystack.now
    (g.S.Sink.taken c.args.out.now) (g.S.Sink.taken c.write_found.new.out) (text_by c.args.mode s.searches c.args.haystack.now)
    c.from_residual-in_err-write_found.ensures.1
    (by_given c.args.mode c.args.automaton.now c.args.haystack.now s.searches s._rest.now c.match_kind.result c.match_kind-2.result
    c.ne.result s.ensures.given c.match_kind.ensures c.match_kind-2.ensures c.ne.ensures c.if-ne.false)
    c.in_err-write_found.ensures.beginning

pub returns-in_err-flush-clause-beginning : goal.returns-in_err-flush-clause-beginning
returns-in_err-flush-clause-beginning g c =
    let s = c.in_ok-searches in
    let old = g.S.Sink.taken c.args.out.now in
    let new = g.S.Sink.taken c.flush.new.self in
    failed_after c.from_residual-in_err-flush.result c.args.mode c.args.automaton.now c.args.haystack.now old new
    (text_by c.args.mode s.searches c.args.haystack.now)
    c.from_residual-in_err-flush.ensures.1
    (by_given c.args.mode c.args.automaton.now c.args.haystack.now s.searches s._rest.now c.match_kind.result c.match_kind-2.result
    c.ne.result s.ensures.given c.match_kind.ensures c.match_kind-2.ensures c.ne.ensures c.if-ne.false)
    (a_beginning_of_all old new (text_by c.args.mode s.searches c.args.haystack.now)
    (Appends-kept old (g.S.Sink.taken c.write_found.new.out) new (text_by c.args.mode s.searches c.args.haystack.now)
    c.in_ok-write_found.ensures.whole c.in_err-flush.ensures.taken))

pub returns-clause-written : goal.returns-clause-written
returns-clause-written g c =
    let s = c.in_ok-searches in (
      text_by c.args.mode s.searches c.args.haystack.now,
      by_given c.args.mode c.args.automaton.now c.args.haystack.now s.searches s._rest.now c.match_kind.result c.match_kind-2.result
          c.ne.result s.ensures.given c.match_kind.ensures c.match_kind-2.ensures c.ne.ensures c.if-ne.false,
      Appends-kept (g.S.Sink.taken c.args.out.now) (g.S.Sink.taken c.write_found.new.out) (g.S.Sink.taken c.flush.new.self)
          (text_by c.args.mode s.searches c.args.haystack.now) c.in_ok-write_found.ensures.whole c.in_ok-flush.ensures.taken,
    )

pub returns-in_err-searches-clause-memory : goal.returns-in_err-searches-clause-memory
returns-in_err-searches-clause-memory g c =
    let cause = c.in_err-searches.field-0.0 in
    at_error c.from_residual.result (Refused cause)
    (λ e. (patterns : List ℕ) → BeginsWithForm c.args.mode patterns c.args.automaton.now
    → IfRefused e IsOutOfMemory × OnKind e ⊥)
    c.from_residual.ensures.1
    (λ patterns is_form. (refused_for_memory c.args.mode patterns c.args.automaton.now is_form cause c.in_err-searches.ensures.err, tt))

pub returns-then-ne-clause-memory : goal.returns-then-ne-clause-memory
returns-then-ne-clause-memory g c patterns is_form =
    let s = c.in_ok-searches in
    let differ = other_kind c.match_kind.result c.match_kind-2.result c.ne.result c.ne.ensures c.if-ne.true in
    let other : IsOfAnotherKind c.args.mode c.args.automaton.now =
    record {
      automaton = s.searches;
      rest = s._rest.now;
      given = s.ensures.given;
      kind = λ same. differ (c.match_kind.ensures ∙ same ∙ sym c.match_kind-2.ensures);
    } in
    (tt, kind_is_right c.args.mode patterns c.args.automaton.now is_form other)

pub returns-clause-back : goal.returns-clause-back
returns-clause-back g c patterns is_form =
    let written = returns-clause-written g c in
    subst (Appends (g.S.Sink.taken c.args.out.now) (g.S.Sink.taken c.flush.new.self))
    (finds_same c.args.mode patterns c.args.automaton.now is_form c.args.haystack.now written.0 written.1) written.2
