-- A best match that is decided is given, and without one no more matches are certain than were given; at the end of the haystack each best match is given.
use Rattle.std.proofs.Common.{◌≡◌, ◌++◌, ◌∷◌, [], ◌⊎◌, inl, inr, ℕ, true, false, cond, length, take, Option, None, sym, ap, ◌∙◌, subst, arith}
use Rattle.std.specs.Prelude.{MatchOption}
use Rattle.daachorse_core.specs.Seen.{SeenUnits}
use Rattle.daachorse_model.specs.declared.Match.{Match}
use Rattle.daachorse_model.specs.Leftmost.{leftmost}
use Rattle.daachorse_streams.specs.Searching.{given_of}
use Rattle.daachorse_streams.specs.Streamed.{LeftmostStreamed}
use Rattle.daachorse_streams.proofs.StreamLaws.{all_given, are_certain, begin_each, first_given, is_quiet, undecided}
use Rattle.daachorse_streams.proofs.leftmost_stream.LeftmostStream.next_certain.Given as given
use Rattle.daachorse_streams.proofs.leftmost_stream.LeftmostStream.next_certain.Goals as goal
use Rattle.daachorse_streams.proofs.leftmost_stream.LeftmostStream.next_certain.Goals.{After-walk, In_default}

-- reading on gives no match
walked_given : (g : given.Over) (c : After-walk g) → given_of g.A.Unit.EdgeLabel.width (g.A.Automaton.sees c.matches.self-inside.automaton).content c.walk.new.search ≡ c.args.self.now.given
walked_given g c =
    let width = g.A.Unit.EdgeLabel.width in let K = (g.A.Automaton.sees c.matches.self-inside.automaton).content in
    ap (λ (x : SeenUnits). take x.given (leftmost width K x.since)) c.walk.ensures.on.0 ∙ c.matches.invariant.given

pub matches-init : goal.matches-init
matches-init g c =
    record {
      marks = c.self.invariant.0;
      stands = c.self.invariant.1;
      automaton = ap (λ (x : LeftmostStreamed g.row.V.Denot g.row.A.Denot). x.automaton) c.self.view_is;
      folds = ap (λ (x : LeftmostStreamed g.row.V.Denot g.row.A.Denot). x.folds) c.self.view_is;
      read = ap (λ (x : LeftmostStreamed g.row.V.Denot g.row.A.Denot). x.read) c.self.view_is;
      ended = ap (λ (x : LeftmostStreamed g.row.V.Denot g.row.A.Denot). x.ended) c.self.view_is;
      given = ap (λ (x : LeftmostStreamed g.row.V.Denot g.row.A.Denot). x.given) c.self.view_is;
    }

pub walk-requires-clause-stands : goal.walk-requires-clause-stands
walk-requires-clause-stands g c = c.matches.invariant.stands

pub give-requires-clause-marks : goal.give-requires-clause-marks
give-requires-clause-marks g c = c.matches.invariant.marks

pub give-requires-clause-stands : goal.give-requires-clause-stands
give-requires-clause-stands g c = c.walk.ensures.stands

pub give-requires-clause-best : goal.give-requires-clause-best
give-requires-clause-best g c = c.in-Some.ensures.some.0

pub give-requires-clause-certain : goal.give-requires-clause-certain
give-requires-clause-certain g c = elim c.walk.ensures.stops [
  | inl decided ↦ inl decided
  | inr all ↦ elim c.in-Some.ensures.some.1 [ inl decided ↦ inl decided | inr over ↦ inr (over, all) ]
]

pub matches-preserved : goal.matches-preserved
matches-preserved g c =
    let width = g.A.Unit.EdgeLabel.width in let K = (g.A.Automaton.sees c.matches.self-inside.automaton).content in let was = c.matches.invariant in let walked = c.walk.new.search in
    let M : Option (Match g.row.V.Denot) → Type 0 = λ o. MatchOption o (given_of width K c.give.new.search ≡ given_of width K walked) (λ m. given_of width K c.give.new.search ≡ given_of width K walked ++ m ∷ []) in
    record {
      marks = was.marks;
      stands = c.give.ensures.stands;
      automaton = was.automaton;
      folds = was.folds;
      read = c.give.ensures.same.0 ∙ ap (λ (x : SeenUnits). x.since) c.walk.ensures.on.0 ∙ was.read;
      ended = c.give.ensures.same.1 ∙ c.walk.ensures.on.1 ∙ was.ended;
      given = subst M c.in_default-give.is c.give.ensures.given ∙ walked_given g (goal.at.matches-preserved g c).After-walk;
    }

pub matches-smaller : goal.matches-smaller
matches-smaller g c =
    let fewer = c.give.ensures.fewer c.in_default-give.is in
    omega (arith, ap {B = ℕ} (λ b. cond b 1 0) (sym c.walk.ensures.on.2 ∙ fewer.0), ap {B = ℕ} (λ b. cond b 1 0) fewer.1)

-- without a best match all units were read
record Settles (g : given.Over) (c : In_default g) : Type 0 where
  none : (c.walk.new.search.scan.best ≡ None) ⊎ ((c.walk.new.search.scan.decided ≡ false) × (c.walk.new.search.ended ≡ false))
  undecided : c.walk.new.search.scan.decided ≡ false
  all : c.walk.new.search.walked ≡ length c.walk.new.search.ring.items

settles : (g : given.Over) (c : In_default g) → Settles g c
settles g c =
    let unit = g.A.Unit.EdgeLabel in
    let none = c.certain.ensures.none c.in_default.is in
    let open_yet : c.walk.new.search.scan.decided ≡ false = undecided unit.width g.met.A.Unit.EdgeLabel.wide (g.A.Automaton.sees c.matches.self-inside.automaton) unit.unit c.walk.ensures.stands none in
    record {
      none = none;
      undecided = open_yet;
      all = elim c.walk.ensures.stops [
        | inl decided ↦ absurd (let bad : true ≡ false = sym decided ∙ open_yet in cc)
        | inr all ↦ all ∙ c.walk.new.search.ring.ok.0
      ];
    }

pub returns-in_default-clause-gives : goal.returns-in_default-clause-gives
returns-in_default-clause-gives g c =
    let unit = g.A.Unit.EdgeLabel in let view = g.A.Automaton.sees c.matches.self-inside.automaton in let is = c.walk.ensures.stands in
    let settled = settles g (goal.at.returns-in_default-clause-gives g c).In_default in
    let best : c.walk.new.search.ended ≡ true → c.walk.new.search.scan.best ≡ None = λ over. elim settled.none [ inl none ↦ none | inr parts ↦ absurd (let bad : true ≡ false = sym over ∙ parts.1 in cc) ] in
    record {
      same = walked_given g (goal.at.returns-in_default-clause-gives g c).After-walk;
      quiet = is_quiet unit.width g.met.A.Unit.EdgeLabel.wide view unit.unit is settled.all settled.undecided;
      certain = λ open_yet. are_certain unit.width g.met.A.Unit.EdgeLabel.wide view unit.unit is settled.all settled.undecided open_yet;
      all = λ over. all_given unit.width g.met.A.Unit.EdgeLabel.wide view unit.unit is settled.all (best over);
    }

pub returns-in_default-clause-begins : goal.returns-in_default-clause-begins
returns-in_default-clause-begins g c =
    let unit = g.A.Unit.EdgeLabel in
    λ open_yet. begin_each unit.width g.met.A.Unit.EdgeLabel.wide (g.A.Automaton.sees c.matches.self-inside.automaton) unit.unit c.walk.ensures.stands open_yet

pub returns-in_default-clause-first : goal.returns-in_default-clause-first
returns-in_default-clause-first g c =
    let unit = g.A.Unit.EdgeLabel in
    first_given unit.width g.met.A.Unit.EdgeLabel.wide (g.A.Automaton.sees c.matches.self-inside.automaton) unit.unit c.walk.ensures.stands

pub returns-in-Some-give-clause-begins : goal.returns-in-Some-give-clause-begins
returns-in-Some-give-clause-begins g c =
    let unit = g.A.Unit.EdgeLabel in
    λ open_yet. begin_each unit.width g.met.A.Unit.EdgeLabel.wide (g.A.Automaton.sees c.matches.self-inside.automaton) unit.unit c.give.ensures.stands open_yet

pub returns-in-Some-give-clause-first : goal.returns-in-Some-give-clause-first
returns-in-Some-give-clause-first g c =
    let unit = g.A.Unit.EdgeLabel in
    first_given unit.width g.met.A.Unit.EdgeLabel.wide (g.A.Automaton.sees c.matches.self-inside.automaton) unit.unit c.give.ensures.stands
