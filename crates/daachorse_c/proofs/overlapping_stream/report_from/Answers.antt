-- The walk gives the first of what is left, and says where the rest begins, of which nothing is reported where only the first is.
use Rattle.std.proofs.Common.{◌≡◌, ◌+◌, ◌<◌, true, false, Bool, [], ◌∷◌, length, List, ℕ, Option, Some, refl, ap, ◌∙◌, arith}
use Rattle.std.proofs.lemmas.List.{length-set}
use Rattle.std.specs.declared.num.NonZeroU32.{NonZeroU32}
use Rattle.daachorse_core.specs.Outputs.{number}
use Rattle.daachorse_core.specs.Seen.{units}
use Rattle.daachorse_model.specs.declared.Match.{Match}
use Rattle.daachorse_model.specs.Units.{size}
use Rattle.daachorse_search.specs.Nothing.{HasPlace-none, matches_from-none}
use Rattle.daachorse_search.specs.Walks.{Walked, matches_from}
use Rattle.daachorse_search.proofs.AfreshLaws.{unshifted}
use Rattle.daachorse_c.specs.OverlappingStreams.{all_or_first}
use Rattle.daachorse_c.proofs.Reported.{Writes-from_reported, reported-one}
use Rattle.daachorse_c.proofs.overlapping_stream.report_from.Given as given
use Rattle.daachorse_c.proofs.overlapping_stream.report_from.Goals as goal
use Rattle.daachorse_c.proofs.overlapping_stream.report_from.Goals.{After-of}

none_reported : (first_only : Bool) → all_or_first first_only [] ≡ []
none_reported true = refl
none_reported false = refl

-- what is left after the first, where only the first is reported, and else
first_reported : {first_only : Bool} (m : Match ℕ) (left rest none : List (Match ℕ)) → first_only ≡ true → left ≡ m ∷ rest → none ≡ [] → all_or_first first_only left ≡ m ∷ all_or_first first_only none
first_reported {first_only} m left rest none is next end = rw (is, next, end) refl

next_reported : {first_only : Bool} (m : Match ℕ) (left rest : List (Match ℕ)) → first_only ≡ false → left ≡ m ∷ rest → all_or_first first_only left ≡ m ∷ all_or_first first_only rest
next_reported {first_only} m left rest is next = rw is next

nothing : (g : given.Over) (walk : Walked g.row.A.Denot) → matches_from g.A.Unit.EdgeLabel.width (g.A.Automaton.sees walk.automaton) walk.seen 0 ≡ []
nothing g walk = matches_from-none g.A.Unit.EdgeLabel.width (g.A.Automaton.sees walk.automaton) walk.seen (g.met.A.Automaton.no_output walk.automaton)

-- what is given is the first of what is left
record Gives (g : given.Over) (c : After-of g) : Type 0 where
  next : matches_from g.A.Unit.EdgeLabel.width (g.A.Automaton.sees c.args.walk.now.automaton) c.args.walk.now.seen (number c.loop-next.next)
      ≡ c.give-later.result.0 ∷ matches_from g.A.Unit.EdgeLabel.width (g.A.Automaton.sees c.args.walk.now.automaton) c.args.walk.now.seen (number c.give-later.result.1)
  lt : c.loop-next.written < length c.args.out.now

gives : (g : given.Over) (c : After-of g) → Gives g c
gives g c =
    let i = c.loop-next.invariant in let width = g.A.Unit.EdgeLabel.width in let walk = c.args.walk.now in
    let from = λ (o : Option NonZeroU32). matches_from width (g.A.Automaton.sees walk.automaton) walk.seen (number o) in
    let at : c.args.place ≡ 0 + size width (units walk.seen) = omega (arith, c.requires.place) in
    record {
      next = ap from c.in-Some.is ∙ unshifted (from (Some c.in-Some.position)) (from c.give-later.result.1) c.give-later.result.0 (c.give-later.ensures.given 0 at);
      lt = omega (arith, i.reported.room, i.long, c.if-written-out.false);
    }

pub loop-next-smaller-then-first_only : goal.loop-next-smaller-then-first_only
loop-next-smaller-then-first_only g c =
    let was = gives g (goal.at.loop-next-smaller-then-first_only g c).After-of in
    omega (arith, ap length (first_reported _ _ _ _ c.if-first_only.true was.next (nothing g c.args.walk.now)))

pub loop-next-preserved-then-first_only : goal.loop-next-preserved-then-first_only
loop-next-preserved-then-first_only g c =
    let was = gives g (goal.at.loop-next-preserved-then-first_only g c).After-of in let i = c.loop-next.invariant in let walk = c.args.walk.now in
    record {
      long = length-set _ _ _ ∙ i.long;
      place = HasPlace-none g.A.Unit.EdgeLabel.width (g.A.Automaton.sees walk.automaton) walk.seen (g.met.A.Automaton.no_output walk.automaton);
      reported = rw c.of.ensures (reported-one c.give-later.result.0 _ i.reported (first_reported _ _ _ _ c.if-first_only.true was.next (nothing g walk)) was.lt);
    }

pub loop-next-smaller : goal.loop-next-smaller
loop-next-smaller g c = let was = gives g (goal.at.loop-next-smaller g c).After-of in omega (arith, ap length (next_reported _ _ _ c.if-first_only.false was.next))

pub loop-next-preserved : goal.loop-next-preserved
loop-next-preserved g c =
    let was = gives g (goal.at.loop-next-preserved g c).After-of in let i = c.loop-next.invariant in
    record {
      long = length-set _ _ _ ∙ i.long;
      place = c.give-later.ensures.place;
      reported = rw c.of.ensures (reported-one c.give-later.result.0 _ i.reported (next_reported _ _ _ c.if-first_only.false was.next) was.lt);
    }

pub returns-clause-writes : goal.returns-clause-writes
returns-clause-writes g c =
    let width = g.A.Unit.EdgeLabel.width in let walk = c.args.walk.now in let view = g.A.Automaton.sees walk.automaton in
    let from = λ (o : Option NonZeroU32). all_or_first c.args.first_only (matches_from width view walk.seen (number o)) in
    let none : from c.loop-next.next ≡ [] = ap from c.in_default.is ∙ ap (all_or_first c.args.first_only) (nothing g walk) ∙ none_reported c.args.first_only in
    Writes-from_reported c.loop-next.invariant.reported (λ _. none)
