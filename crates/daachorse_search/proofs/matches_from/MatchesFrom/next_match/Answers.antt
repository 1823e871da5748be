-- Whether an output was pending or a scan came to one, what is given from its position on begins with the match that the call gives, and the others stay pending. The source may be read on behind what was taken of it.
use Rattle.std.proofs.Common.{◌≡◌, [], ◌∷◌, ℕ, Bool, List, sym, ap, ◌∙◌, subst, arith}
use Rattle.std.specs.declared.num.NonZeroU32.{NonZeroU32}
use Rattle.daachorse_core.specs.Outputs.{number}
use Rattle.daachorse_core.specs.Seen.{SeenUnits}
use Rattle.daachorse_model.specs.Units.{size}
use Rattle.daachorse_haystack.specs.Readings.{MayReadAsRead, unit_as_read}
use Rattle.daachorse_haystack.specs.Sources.{IsReady}
use Rattle.daachorse_haystack.proofs.ReadingLaws.{MayReadAsRead-kept, MayReadAsRead-ready}
use Rattle.daachorse_search.specs.declared.matches_from.MatchesFrom.TheInside.{Inside}
use Rattle.daachorse_search.specs.Searches.{SourceProgress}
use Rattle.daachorse_search.proofs.AfreshLaws.{unshifted}
use Rattle.daachorse_search.proofs.SearchLaws.{IsReached, IsReached-pending, IsReached-scan, Gave-reached, progress-reached}
use Rattle.daachorse_search.proofs.matches_from.MatchesFrom.next_match.Given as given
use Rattle.daachorse_search.proofs.matches_from.MatchesFrom.next_match.Goals as goal
use Rattle.daachorse_search.proofs.matches_from.MatchesFrom.next_match.Goals.{in-Some, in-None+in_ok-position-in-None}

-- the call came to outputs that are not all given
reached : (g : given.Over) (c : goal.After-give g) → IsReached g.W.Stepwise.sees g.S.Iterator.can_next g.S.Iterator.next_gives g.S.Iterator.remaining (unit_as_read c.args.self.now.folds g.W.Unit.EdgeLabel.unit) g.W.Unit.EdgeLabel.width c.args.self.now c.match-self.self-inside.walk c.match-self.self-inside.source c.match-self.self-inside.folds c.match-self.self-inside.place c.match-self.self-inside.seen.given c.match-self.position.value
reached g c =
    let view = g.W.Stepwise.sees in let S = g.S.Iterator in let source = g.S.Source in let unit = g.W.Unit.EdgeLabel in let was = c.self.inside in
    let I : Type 0 = Inside g.row.V.Denot g.row.W.Denot g.row.S.Denot g.row.W-Unit.Denot g.row.W-Automaton.Denot in
    let Seen : Type 0 = SourceProgress g.row.V.Denot g.row.W-Automaton.Denot g.row.S.Denot in
    let R = λ (s : Seen) (i : I) (position : ℕ). IsReached view S.can_next S.next_gives S.remaining (unit_as_read s.folds unit.unit) unit.width s i.walk i.source i.folds i.place i.seen.given position in
    let P : I → Type 0 = λ i. R c.args.self.now i c.match-self.position.value in
    let Q : I → NonZeroU32 → Type 0 = λ i p. R c.args.self.now i p.value in
    let F : ℕ → Type 0 = λ n. R c.args.self.now was n in
    let May : Seen → Type 0 = λ s. MayReadAsRead source.may_read s.folds s.source s.read in
    let may = subst May (sym c.self.view_is) c.requires in
    elim c.match-self.branch [
      | in-Some w ↦
          let At : Seen → Type 0 = λ s. R s was (number was.output) in
          let ready = MayReadAsRead-ready S.can_next S.next_gives S.remaining unit.unit unit.width g.met.W.Unit.AsciiFold.as_wide source.may_read g.met.S.Source.ready was.folds was.source (view.read was.walk) may in
          subst P (sym w.self-inside-is) (subst (Q was) (sym w.position-is) (subst F (ap number w.in-Some.is) (subst At c.self.view_is
          (IsReached-pending ready c.self.invariant.1))))
      | in-None+in_ok-position-in-None w ↦
          let to = w.scan.new in let scanned = w.in_ok-position-in-None in
          let after : I = record { walk = to.walk; source = to.source; folds = was.folds; place = to.place; output = was.output; automaton = was.automaton; seen = was.seen; of = was.of } in
          let At : Seen → Type 0 = λ s. R s after scanned.position.value in
          let none : view.given_from was.walk (number was.output) ≡ [] = ap (λ o. view.given_from was.walk (number o)) w.in-None.is ∙ (g.met.W.Stepwise.no_output was.walk).1 in
          subst P (sym w.self-inside-is) (subst (Q after) (sym w.position-is) (subst At c.self.view_is
          (IsReached-scan none scanned.ensures.took scanned.ensures.stops scanned.ensures.ready scanned.ensures.here)))
    ]

-- what is given from the position on
first : (g : given.Over) (c : goal.After-give g) → g.W.Stepwise.sees.given_from c.match-self.self-inside.walk c.match-self.position.value ≡ c.give-found.result.0 ∷ g.W.Stepwise.sees.given_from c.match-self.self-inside.walk (number c.give-found.result.1)
first g c = unshifted _ _ c.give-found.result.0 (c.give-found.ensures.given 0 (let r = reached g c in omega (arith, r.here)))

pub scan-requires-clause-ready : goal.scan-requires-clause-ready
scan-requires-clause-ready g c =
    let S = g.S.Iterator in let source = g.S.Source in let unit = g.W.Unit.EdgeLabel in let was = c.self.inside in
    let May : SourceProgress g.row.V.Denot g.row.W-Automaton.Denot g.row.S.Denot → Type 0 = λ s. MayReadAsRead source.may_read s.folds s.source s.read in
    MayReadAsRead-ready S.can_next S.next_gives S.remaining unit.unit unit.width g.met.W.Unit.AsciiFold.as_wide source.may_read g.met.S.Source.ready was.folds was.source (g.W.Stepwise.sees.read was.walk) (subst May (sym c.self.view_is) c.requires)

-- the source ended: nothing is pending
pub invariant_of-self : goal.invariant_of-self
invariant_of-self g c =
    let P : ℕ → Type 0 = λ n. g.W.Stepwise.sees.has_output c.scan.new.walk n in
    (subst P (sym (ap number c.in-None.is)) (g.met.W.Stepwise.no_output c.scan.new.walk).0, c.scan.ensures.here)

pub returns-clause-steps : goal.returns-clause-steps
returns-clause-steps g c =
    let r = reached g c in
    record { folds = r.as_before; gives = Gave-reached r (first g c) (ap (λ (x : SeenUnits). x.given) c.give.ensures) c.give-found.ensures.ends }

-- the source may be read on behind what was taken
pub returns-clause-goes : goal.returns-clause-goes
returns-clause-goes g c =
    let view = g.W.Stepwise.sees in let S = g.S.Iterator in let source = g.S.Source in let unit = g.W.Unit.EdgeLabel in
    let s = c.args.self.now in let now = c.match-self.self-inside in let r = reached g c in
    let At : List ℕ → Type 0 = λ w. IsReady S.can_next S.next_gives S.remaining (unit_as_read s.folds unit.unit) unit.width now.source (size unit.width w) in
    let Folds : Bool → Type 0 = λ b. MayReadAsRead source.may_read b now.source (view.read now.walk) in
    let Read : List ℕ → Type 0 = λ w. MayReadAsRead source.may_read s.folds now.source w in
    let may = subst Folds (sym r.as_before) (subst Read (sym r.read)
    (MayReadAsRead-kept S.can_next S.next_gives S.remaining unit.unit unit.width g.met.W.Unit.AsciiFold.as_wide source.may_read g.met.S.Source.kept s.folds s.source s.read r.took now.source c.requires r.run r.taken (subst At r.read r.ready))) in
    progress-reached r (first g c) may
