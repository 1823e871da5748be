-- The bytes before the next match went out, and then the call for it is made with its own, which are held no more.
use Rattle.std.proofs.Common.{
  ◌≡◌,
  ℕ,
  ◌++◌,
  ◌∷◌,
  ◌-◌,
  [],
  Bool,
  true,
  false,
  List,
  length,
  take,
  refl,
  sym,
  ap,
  ◌∙◌,
  subst,
  append_assoc,
  append-nil,
  arith,
  of_calls,
}
use Rattle.std.proofs.lemmas.List.{length-drop, length-take-le}
use Rattle.std.proofs.lemmas.Result.{err_from_is_err_and}
use Rattle.std.specs.Io.KnownBytes.{Appends}
use Rattle.std.specs.Prelude.{slice_range}
use Rattle.daachorse_model.specs.declared.Match.{Match}
use Rattle.daachorse_model.specs.Leftmost.{leftmost}
use Rattle.daachorse_model.specs.Units.{size}
use Rattle.daachorse_streams.specs.Replaced.{AppendsPart}
use Rattle.daachorse_streams.proofs.Answered.{answered}
use Rattle.daachorse_streams.proofs.GoesOutLaws.{IsNext, out-at, out-before, out-more, out-next, out-nothing}
use Rattle.daachorse_streams.proofs.replacing_leftmost.replace_certain.Given as given
use Rattle.daachorse_streams.proofs.replacing_leftmost.replace_certain.Goals as goal
use Rattle.daachorse_streams.proofs.replacing_leftmost.replace_certain.Goals.{In-Some}

-- the match given is the next of those of what was read
record Gives (g : given.Over) (c : In-Some g) : Type 0 where
  rest : List (Match g.row.V.Denot)
  is : leftmost g.A.Unit.EdgeLabel.width (g.A.Automaton.sees c.args.stream.now.automaton).content c.args.stream.now.read
      ≡ c.matches.stream.given ++ c.in-Some.found ∷ rest
  next : IsNext c.matches.held.place c.matches.held.bytes.items c.in-Some.found rest

gives : (g : given.Over) (c : In-Some g) → Gives g c
gives g c =
    let width = g.A.Unit.EdgeLabel.width in let A = g.A.Automaton in let now = c.next_certain.new.self in let was = c.matches.invariant in
    let m = c.in-Some.found in
    let same = c.next_certain.ensures.same in let first = c.next_certain.ensures.first in
    let K = (A.sees c.args.stream.now.automaton).content in let read = c.args.stream.now.read in
    let start : leftmost width (A.sees now.automaton).content now.read ≡ leftmost width K read =
    ap (λ a. leftmost width (A.sees a).content now.read) (same.0 ∙ was.same.0) ∙ ap (leftmost width K) (same.2 ∙ was.same.2) in
    let is : leftmost width K read ≡ c.matches.stream.given ++ m ∷ first.0 =
    sym start ∙ first.1 ∙ ap (λ l. l ++ first.0) c.in-Some.ensures.gives ∙ append_assoc c.matches.stream.given (m ∷ []) first.0 in
    record {
      rest = first.0;
      is = is;
      next = out-next was.out width K read m first.0 c.requires.behind (was.read ∙ ap (size width) was.same.2) is [] first.0
          (ap (leftmost width K) (append-nil read) ∙ is);
    }

-- and so it is however the haystack goes on, unless it has ended
record GivesOn (g : given.Over) (c : In-Some g) (d : List ℕ) : Type 0 where
  rest : List (Match g.row.V.Denot)
  is : leftmost g.A.Unit.EdgeLabel.width (g.A.Automaton.sees c.args.stream.now.automaton).content (c.args.stream.now.read ++ d)
      ≡ c.matches.stream.given ++ c.in-Some.found ∷ rest
  next : IsNext c.matches.held.place c.matches.held.bytes.items c.in-Some.found rest

gives_on : (g : given.Over) (c : In-Some g) (d : List ℕ) → (c.args.stream.now.ended ≡ true → d ≡ []) → GivesOn g c d
gives_on g c d known = by c.next_certain.new.self.ended refl
  where
    here : Gives g c
    here = gives g c

    by : (b : Bool) → c.next_certain.new.self.ended ≡ b → GivesOn g c d
    by true ended =
        let none = known (sym (c.next_certain.ensures.same.3 ∙ c.matches.invariant.same.3) ∙ ended) in
        let K = (g.A.Automaton.sees c.args.stream.now.automaton).content in
        record {
          rest = here.rest;
          is = ap (λ x. leftmost g.A.Unit.EdgeLabel.width K (c.args.stream.now.read ++ x)) none
              ∙ ap (leftmost g.A.Unit.EdgeLabel.width K) (append-nil c.args.stream.now.read) ∙ here.is;
          next = here.next;
        }
    by false going =
        let width = g.A.Unit.EdgeLabel.width in let A = g.A.Automaton in let now = c.next_certain.new.self in
        let was = c.matches.invariant in let m = c.in-Some.found in
        let same = c.next_certain.ensures.same in let later = c.next_certain.ensures.begins going d in
        let K = (A.sees c.args.stream.now.automaton).content in let read = c.args.stream.now.read in
        let start : leftmost width (A.sees now.automaton).content (now.read ++ d) ≡ leftmost width K (read ++ d) =
        ap (λ a. leftmost width (A.sees a).content (now.read ++ d)) (same.0 ∙ was.same.0)
        ∙ ap (λ l. leftmost width K (l ++ d)) (same.2 ∙ was.same.2) in
        let is : leftmost width K (read ++ d) ≡ c.matches.stream.given ++ m ∷ later.0 =
        sym start ∙ later.1 ∙ ap (λ l. l ++ later.0) c.in-Some.ensures.gives ∙ append_assoc c.matches.stream.given (m ∷ []) later.0 in
        record {
          rest = later.0;
          is = is;
          next = out-next was.out width K read m here.rest c.requires.behind (was.read ∙ ap (size width) was.same.2) here.is d later.0 is;
        }

pub matches-init : goal.matches-init
matches-init g c =
    record { callable = c.requires.callable; same = (refl, refl, refl, refl); read = c.requires.read; out = out-nothing _ _ _ _ _ }

pub overflow_sub-start : goal.overflow_sub-start
overflow_sub-start g c = (gives g (goal.at.overflow_sub-start g c).In-Some).next.after.0

pub overflow_sub-end : goal.overflow_sub-end
overflow_sub-end g c = let after = (gives g (goal.at.overflow_sub-end g c).In-Some).next.after in omega (arith, after.0, after.1)

pub slice_bounds-write_whole-end : goal.slice_bounds-write_whole-end
slice_bounds-write_whole-end g c = let next = (gives g (goal.at.slice_bounds-write_whole-end g c).In-Some).next in
    sym (length-take-le (c.in-Some.found.start - c.matches.held.place) c.deref.result.now
    (omega (arith, next.inner, next.after.0, next.after.1, ap length c.deref.ensures.value)))

pub returns-in_err-write_whole-clause-beginning : goal.returns-in_err-write_whole-clause-beginning
returns-in_err-write_whole-clause-beginning g c =
    let p = err_from_is_err_and c.from_residual.result c.from_residual.ensures.1 in
    let m = c.in-Some.found in let place = c.matches.held.place in
    rw p.1 (λ d known. let here = gives_on g (goal.at.returns-in_err-write_whole-clause-beginning g c).In-Some d known in
    out-before c.matches.invariant.out m here.rest here.next _ here.is _
    (subst (AppendsPart _ _) (ap (take (m.start - place)) c.deref.ensures.value) c.in_err-write_whole.ensures.part) _)

pub slice_bounds-write-count : goal.slice_bounds-write-count
slice_bounds-write-count g c =
    let after = (gives g (goal.at.slice_bounds-write-count g c).In-Some).next.after in omega (arith, after.0, after.1)

pub slice_bounds-write-start : goal.slice_bounds-write-start
slice_bounds-write-start g c =
    let after = (gives g (goal.at.slice_bounds-write-start g c).In-Some).next.after in omega (arith, after.0, after.1)

pub slice_bounds-write-end : goal.slice_bounds-write-end
slice_bounds-write-end g c =
    let next = (gives g (goal.at.slice_bounds-write-end g c).In-Some).next in
    omega (arith, next.inner, next.after.0, next.after.1, ap length c.deref-in-Some.ensures.value)

pub returns-in_err-write-clause-beginning : goal.returns-in_err-write-clause-beginning
returns-in_err-write-clause-beginning g c =
    let p = err_from_is_err_and c.from_residual-in_err-write.result c.from_residual-in_err-write.ensures.1 in
    let m = c.in-Some.found in let place = c.matches.held.place in
    rw p.1 (λ d known. let here = gives_on g (goal.at.returns-in_err-write-clause-beginning g c).In-Some d known in
    out-at c.matches.invariant.out m here.rest here.next _ here.is _ _ _ _
    (subst (Appends _ _) (ap (take (m.start - place)) c.deref.ensures.value) c.in_ok-write_whole.ensures.whole) (
      _,
      _,
      _,
      ap (λ l. slice_range l (m.start - place) (m.end - place)) c.deref-in-Some.ensures.value,
      refl,
      refl,
      answered (given.F-step g) p.2 c.in_err-write.ensures,
    ))

pub drop_first-requires : goal.drop_first-requires
drop_first-requires g c =
    let next = (gives g (goal.at.drop_first-requires g c).In-Some).next in omega (arith, next.inner, next.after.0, next.after.1)

pub matches-preserved : goal.matches-preserved
matches-preserved g c =
    let here = gives g (goal.at.matches-preserved g c).In-Some in let was = c.matches.invariant in let same = c.next_certain.ensures.same in
    let m = c.in-Some.found in let place = c.matches.held.place in
    record {
      callable = search of_calls;
      same = (same.0 ∙ was.same.0, same.1 ∙ was.same.1, same.2 ∙ was.same.2, same.3 ∙ was.same.3);
      read =
          omega (
            arith,
            ap length c.drop_first.ensures,
            length-drop (m.end - place) c.matches.held.bytes.items,
            here.next.inner,
            here.next.after.0,
            here.next.after.1,
            was.read,
            ap (size g.A.Unit.EdgeLabel.width) same.2,
          );
      out =
          out-more was.out m here.rest here.next _ _ c.in-Some.ensures.gives c.drop_first.ensures _ _ _
          (subst (Appends _ _) (ap (take (m.start - place)) c.deref.ensures.value) c.in_ok-write_whole.ensures.whole) (
            _,
            _,
            _,
            ap (λ l. slice_range l (m.start - place) (m.end - place)) c.deref-in-Some.ensures.value,
            refl,
            refl,
            c.in_ok-write.ensures,
          );
    }
