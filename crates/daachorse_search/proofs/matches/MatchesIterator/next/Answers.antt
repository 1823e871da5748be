-- A call comes to the next output, by going on where none is pending, and gives its match; what is left begins with it.
use Rattle.std.proofs.Common.{◌≡◌, ◌+◌, ◌∷◌, ◌++◌, ℕ, List, [], length, Option, Some, None, refl, sym, ap, ◌∙◌, subst, arith}
use Rattle.std.specs.Prelude.{IfNone, IfSome}
use Rattle.std.specs.declared.num.NonZeroU32.{NonZeroU32}
use Rattle.daachorse_core.specs.Outputs.{number}
use Rattle.daachorse_core.specs.Seen.{SeenUnits}
use Rattle.daachorse_model.specs.declared.Match.{Match}
use Rattle.daachorse_model.specs.Units.{size}
use Rattle.daachorse_search.specs.declared.matches.Matches.TheInside.{Inside}
use Rattle.daachorse_search.specs.LeftmostSearches.{before_rest}
use Rattle.daachorse_search.specs.Matches.{Progress, GaveMatch, GaveNone, StandsAtEnd}
use Rattle.daachorse_search.specs.Skipping.{matches_behind, next_position, ComesTo, HasNoPlace, IsReading}
use Rattle.daachorse_search.proofs.SkipLaws.{SkipsTo-places, no_place_on, reading-on, reading-gives, reading-ended, place_is}
use Rattle.daachorse_search.proofs.matches.MatchesIterator.next.Given as given
use Rattle.daachorse_search.proofs.matches.MatchesIterator.next.Goals as goal
use Rattle.daachorse_search.proofs.matches.MatchesIterator.next.Goals.{in-Some, in-None+in_ok-position-in-None, After-go_on, After-left}

abbrev Ins : given.Over → Type 0
Ins g = Inside g.row.V.Denot g.row.W.Denot g.row.H.Denot g.row.F.Denot g.row.W-Unit.Denot g.row.W-Automaton.Denot

-- the search stands so, with the next output at the position
abbrev standing : (g : given.Over) → Ins g → ℕ → Type 0
standing g i position =
    let view = g.W.Stepwise.sees in let F = g.F.Filter in let rest = g.H.Haystack.rest in
    ((w : List ℕ) → F.passes i.filter w ≡ F.passes i.first_filter.value w) × IsReading g.W.Unit.EdgeLabel.width view (F.passes i.first_filter.value) (F.opened i.first_filter.value) (rest i.whole.value) i.size (F.opened i.filter) i.walk (rest i.rest) position i.taken

abbrev left_at : (g : given.Over) → Ins g → ℕ → List (Match g.row.V.Denot)
left_at g i position =
    let view = g.W.Stepwise.sees in let rest = g.H.Haystack.rest in
    matches_behind g.W.Unit.EdgeLabel.width view (rest i.whole.value) i.walk (rest i.rest) position

-- a call that began as `was` came to the output at the position
record Came (g : given.Over) (was now : Ins g) (position : ℕ) : Type 0 where
  filter : now.first_filter ≡ was.first_filter
  whole : now.whole ≡ was.whole
  seen : now.seen ≡ was.seen
  automaton : g.W.Stepwise.sees.automaton now.walk ≡ g.W.Stepwise.sees.automaton was.walk
  none : now.first ≡ None
  stands : standing g now position
  left : left_at g was (next_position was.first was.output) ≡ left_at g now position

-- the next output to give, where it is known what stands first
next_is : (first output known : Option NonZeroU32) → first ≡ known → next_position first output ≡ next_position known output
next_is first output known is = ap (λ f. next_position f output) is

-- where an output is pending, none stands apart
none_apart : (E : Type 0) (first output : Option NonZeroU32) (q : NonZeroU32) → IfSome first (λ _. E × (output ≡ None)) → output ≡ Some q → first ≡ None
none_apart E None output q apart some = refl
none_apart E (Some first) output q apart some = (let bad : Some q ≡ None = sym some ∙ apart.1 in cc)

apart_none : (first : Option NonZeroU32) (E : Type 0) → first ≡ None → IfSome first (λ _. E)
apart_none first E none = let P : Option NonZeroU32 → Type 0 = λ f. IfSome f (λ _. E) in subst P (sym none) tt

-- none was pending, and the search came to the first of all, or went on
went_on : (g : given.Over) (was : Ins g) (known : Option NonZeroU32) (walk : g.row.W.Denot) (later : g.row.H.Denot) (taken position : ℕ) (filter : g.row.F.Denot) (first : Option NonZeroU32) → standing g was (next_position was.first was.output) → was.output ≡ None → was.first ≡ known → first ≡ None
    → ((w : List ℕ) → g.F.Filter.passes filter w ≡ g.F.Filter.passes was.filter w)
    → ComesTo g.W.Unit.EdgeLabel.width g.W.Stepwise.sees (g.F.Filter.passes was.filter) known was.walk (g.H.Haystack.rest was.rest) was.taken position (g.W.Stepwise.sees.given_from walk position) walk (g.H.Haystack.rest later) taken
    → g.W.Stepwise.sees.has_output walk position
    → IfNone known (HasNoPlace (g.F.Filter.passes was.filter) (g.F.Filter.opened was.filter) (g.W.Stepwise.sees.read was.walk) (g.H.Haystack.rest was.rest) → (taken + g.W.Stepwise.sees.turns walk ≡ was.taken + g.W.Stepwise.sees.turns was.walk) × (g.H.Haystack.rest later ≡ []))
    → IfSome known (λ _. filter ≡ was.filter)
    → Came g was (record was { walk = walk; taken = taken; rest = later; filter = filter; first = first }) position
went_on g was None walk later taken position filter first stands pending is none places reads output idle kept =
    let view = g.W.Stepwise.sees in
    let zero : next_position was.first was.output ≡ 0 = next_is was.first was.output None is ∙ ap number pending in
    let on = reading-on stands.1 (ap (view.given_from was.walk) zero ∙ (g.met.W.Stepwise.no_output was.walk).1) (SkipsTo-places stands.0 reads) output (λ nowhere. idle (no_place_on stands.0 nowhere)) in
    record { filter = refl; whole = refl; seen = refl; automaton = reads.same; none = none; stands = (λ w. places w ∙ stands.0 w, on.0); left = on.1 }
went_on g was (Some p) walk later taken position filter first stands pending is none places reads output idle kept =
    let view = g.W.Stepwise.sees in let F = g.F.Filter in let rest = g.H.Haystack.rest in let begun = F.passes was.first_filter.value in
    let here : next_position was.first was.output ≡ position = next_is was.first was.output (Some p) is ∙ sym reads.0 in
    let R : g.row.F.Denot → g.row.W.Denot → List ℕ → ℕ → ℕ → Type 0 = λ f w l n t. IsReading g.W.Unit.EdgeLabel.width view begun (F.opened was.first_filter.value) (rest was.whole.value) was.size (F.opened f) w l n t in
    let L : g.row.W.Denot → List ℕ → ℕ → List (Match g.row.V.Denot) = λ w l n. matches_behind g.W.Unit.EdgeLabel.width view (rest was.whole.value) w l n in
    record {
      filter = refl;
      whole = refl;
      seen = refl;
      automaton = ap view.automaton reads.1;
      none = none;
      stands = (λ w. places w ∙ stands.0 w, subst (λ f. R f walk (rest later) position taken) (sym kept) (subst (λ w. R was.filter w (rest later) position taken) (sym reads.1) (subst (λ l. R was.filter was.walk l position taken) (sym reads.2) (subst (λ t. R was.filter was.walk (rest was.rest) position t) (sym reads.3) (subst (λ n. R was.filter was.walk (rest was.rest) n was.taken) here stands.1)))));
      left = ap (left_at g was) here ∙ ap (λ w. L w (rest was.rest) position) (sym reads.1) ∙ ap (λ l. L walk l position) (sym reads.2);
    }

-- one was pending
pending_came : (g : given.Over) (was now : Ins g) (p q : NonZeroU32) → standing g was (next_position was.first was.output) → was.first ≡ None → was.output ≡ Some q → p ≡ q → now ≡ was → Came g was now p.value
pending_came g was now p q stands none pending same stays =
    let P : Ins g → Type 0 = λ i. Came g was i p.value in
    let Q : NonZeroU32 → Type 0 = λ x. Came g was was x.value in
    let N : ℕ → Type 0 = λ n. Came g was was n in
    subst P (sym stays) (subst Q (sym same) (subst N (next_is was.first was.output None none ∙ ap number pending) (record { filter = refl; whole = refl; seen = refl; automaton = refl; none = none; stands = stands; left = refl })))

same_came : (g : given.Over) (was after now : Ins g) (p q : NonZeroU32) → Came g was after q.value → p ≡ q → now ≡ after → Came g was now p.value
same_came g was after now p q came same stays =
    let P : Ins g → Type 0 = λ i. Came g was i p.value in
    let Q : NonZeroU32 → Type 0 = λ x. Came g was after x.value in
    subst P (sym stays) (subst Q (sym same) came)

came : (g : given.Over) (c : goal.After-left g) → Came g c.self.inside c.match-self.self-inside c.match-self.position.value
came g c =
    let was = c.self.inside in let now = c.match-self.self-inside in let p = c.match-self.position in
    elim c.match-self.branch [
      | in-Some w ↦ pending_came g was now p w.in-Some.position (c.self.invariant.0, c.self.invariant.1) (none_apart (g.W.Stepwise.sees.everywhere was.walk) was.first was.output w.in-Some.position c.self.invariant.2 w.in-Some.is) w.in-Some.is w.position-is w.self-inside-is
      | in-None+in_ok-position-in-None w ↦
          let to = w.go_on.new in let found = w.in_ok-position-in-None in
          same_came g was (record was { walk = to.walk; taken = to.taken; rest = to.rest; filter = to.filter; first = to.first }) now p found.position
          (went_on g was was.first to.walk to.rest to.taken found.position.value to.filter to.first (c.self.invariant.0, c.self.invariant.1) w.in-None.is refl found.ensures.first found.ensures.passes found.ensures.comes found.ensures.output found.ensures.idle found.ensures.kept) w.position-is w.self-inside-is
    ]

pub overflow_sub-place : goal.overflow_sub-place
overflow_sub-place g c = omega (arith, place_is (came g c).stands.1, c.left.ensures)

pub give-found-requires-clause-here : goal.give-found-requires-clause-here
give-found-requires-clause-here g c = omega (arith, place_is (came g c).stands.1, c.left.ensures)

pub give-found-requires-clause-output : goal.give-found-requires-clause-output
give-found-requires-clause-output g c = (came g c).stands.1.output

-- what callers see of a search
abbrev seen_of : (g : given.Over) → Ins g → Progress g.row.V.Denot g.row.W-Automaton.Denot g.row.F.Denot
seen_of g i =
    let view = g.W.Stepwise.sees in let rest = g.H.Haystack.rest in
    record {
      automaton = view.automaton i.walk;
      filter = i.first_filter.value;
      haystack = rest i.whole.value;
      left = left_at g i (next_position i.first i.output);
      passed = before_rest (rest i.whole.value) (rest i.rest);
      since = view.read i.walk;
      turns = i.taken + view.turns i.walk;
      given = i.seen.given;
    }

-- where nothing is pending, and the search went on
abbrev ahead : (g : given.Over) → After-go_on g → Ins g
ahead g c = let to = c.go_on.new in record (c.self.inside) { walk = to.walk; taken = to.taken; rest = to.rest; filter = to.filter; first = to.first }

gone : (g : given.Over) (c : After-go_on g) → Came g c.self.inside (ahead g c) (number c.go_on.result) × (next_position c.go_on.new.first c.self.inside.output ≡ 0)
gone g c =
    let was = c.self.inside in let to = c.go_on.new in let found = c.go_on.ensures in (
      went_on g was was.first to.walk to.rest to.taken (number c.go_on.result) to.filter to.first (c.self.invariant.0, c.self.invariant.1) c.in-None.is refl found.first found.passes found.comes found.output found.idle found.kept,
      next_is to.first was.output None found.first ∙ ap number c.in-None.is,
    )

-- the haystack ended: nothing is pending
pub invariant_of-self : goal.invariant_of-self
invariant_of-self g c =
    let at = (goal.at.invariant_of-self g c).After-go_on in let to = gone g at in
    let stands : standing g (ahead g at) (next_position c.go_on.new.first c.self.inside.output) = subst (standing g (ahead g at)) (ap number c.in_err-position-in-None.was ∙ sym to.1) to.0.stands in
    (stands.0, stands.1, apart_none c.go_on.new.first (g.W.Stepwise.sees.everywhere c.go_on.new.walk × (c.self.inside.output ≡ None)) c.go_on.ensures.first)

pub returns-in_err-position-in-None : goal.returns-in_err-position-in-None
returns-in_err-position-in-None g c =
    let rest = g.H.Haystack.rest in
    let at = (goal.at.returns-in_err-position-in-None g c).After-go_on in let after = ahead g at in let come = gone g at in
    let here : Came g c.self.inside after 0 = subst (Came g c.self.inside after) (ap number c.in_err-position-in-None.was) come.0 in
    let E : Option NonZeroU32 → Type 0 = λ r. IfNone r (rest after.rest ≡ []) in
    let ended = reading-ended here.stands.1 (g.met.W.Stepwise.no_output after.walk).1
    (subst E c.in_err-position-in-None.was c.go_on.ensures.ended) in
    let P : Progress g.row.V.Denot g.row.W-Automaton.Denot g.row.F.Denot → Type 0 = λ s. GaveNone (StandsAtEnd {V = g.row.V.Denot} g.W.Unit.EdgeLabel.width) s (seen_of g after) in
    let none : P c.args.self.now = subst P c.self.view_is (record { automaton = here.automaton; filter = refl; haystack = refl; none = here.left ∙ ended.0; still_none = ap (left_at g after) come.1 ∙ ended.0; counted = refl; all = ended.1 }) in
    rw c.from_residual.ensures (record { steps = none; goes = record { on = λ _. tt; keeps = tt; rests = λ _. tt } })

-- the search after the match was given
abbrev given_on : (g : given.Over) (c : goal.After-give g) → Ins g
given_on g c = record c.match-self.self-inside { output = c.give-found.result.1; seen = c.give.new.self }

gives : (g : given.Over) (c : goal.After-give g) → standing g c.match-self.self-inside c.match-self.position.value → standing g (given_on g c) (number c.give-found.result.1)
    × (left_at g c.match-self.self-inside c.match-self.position.value ≡ c.give-found.result.0 ∷ left_at g (given_on g c) (number c.give-found.result.1))
    × (c.give-found.result.0.end ≡ size g.W.Unit.EdgeLabel.width (before_rest (g.H.Haystack.rest c.match-self.self-inside.whole.value) (g.H.Haystack.rest c.match-self.self-inside.rest)))
gives g c stands =
    let found = c.give-found in
    let next = reading-gives stands.1
    (omega (arith, place_is stands.1, c.left.ensures)) found.ensures.given found.ensures.ends found.ensures.place in
    ((stands.0, next.0), next.1, next.2)

pub invariant_of-self-2 : goal.invariant_of-self-2
invariant_of-self-2 g c =
    let now = given_on g c in let to = came g (goal.at.invariant_of-self-2 g c).After-left in
    let stands : standing g now (next_position now.first now.output) = subst (standing g now) (sym (next_is now.first now.output None to.none)) (gives g c to.stands).0 in
    (stands.0, stands.1, apart_none now.first (g.W.Stepwise.sees.everywhere now.walk × (now.output ≡ None)) to.none)

pub returns : goal.returns
returns g c =
    let rest = g.H.Haystack.rest in let to = came g (goal.at.returns g c).After-left in let next = gives g c to.stands in
    let P : Progress g.row.V.Denot g.row.W-Automaton.Denot g.row.F.Denot → Type 0 = λ s. GaveMatch (StandsAtEnd {V = g.row.V.Denot} g.W.Unit.EdgeLabel.width) s c.give-found.result.0 (seen_of g (given_on g c)) in
    let gave : P c.args.self.now = subst P c.self.view_is (record {
      automaton = to.automaton;
      filter = ap (λ x. x.value) to.filter;
      haystack = ap (λ x. rest x.value) to.whole;
      first = to.left ∙ next.1 ∙ ap (λ n. c.give-found.result.0 ∷ left_at g (given_on g c) n) (sym (next_is c.match-self.self-inside.first c.give-found.result.1 None to.none));
      counted = ap (λ (x : SeenUnits). x.given) c.give.ensures ∙ ap (λ (x : SeenUnits). x.given + 1) to.seen;
      behind = next.2;
    }) in
    record { steps = gave; goes = record { on = λ _. (tt, tt, omega (arith, ap length gave.first)); keeps = tt; rests = λ _. tt } }

pub go_on-requires-clause-sound : goal.go_on-requires-clause-sound
go_on-requires-clause-sound g c = λ key rest is. c.self.invariant.0 (key ++ rest) ∙ c.self.invariant.1.sound key rest is

-- where none is pending, the first of all is the next to give
first_next : (first : Option NonZeroU32) (P : ℕ → Type 0) → P (next_position first None) → P (number first)
first_next None P here = here
first_next (Some first) P here = here

pub go_on-requires-clause-place : goal.go_on-requires-clause-place
go_on-requires-clause-place g c =
    let P : Option NonZeroU32 → Type 0 = λ output. g.W.Stepwise.sees.has_output c.self.inside.walk (next_position c.self.inside.first output) in
    first_next c.self.inside.first (g.W.Stepwise.sees.has_output c.self.inside.walk) (subst P c.in-None.is c.self.invariant.1.output)
