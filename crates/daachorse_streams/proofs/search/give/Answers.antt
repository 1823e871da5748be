-- The output of the best match tells its value and size, so the match is that which is left first.
use Rattle.std.proofs.Common.{◌≡◌, ◌+◌, ◌-◌, ◌<◌, ◌≤◌, ◌⊎◌, inl, inr, true, cond, [], ◌∷◌, ◌++◌, length, refl, sym, ap, ◌∙◌, append-nil, arith}
use Rattle.daachorse_core.specs.Outputs.{length_of}
use Rattle.daachorse_core.specs.Seen.{SeenUnits}
use Rattle.daachorse_model.specs.declared.Match.{Match}
use Rattle.daachorse_streams.specs.Searching.{given_of}
use Rattle.daachorse_streams.proofs.GivingLaws.{gave_key, gave_empty, output_within}
use Rattle.daachorse_streams.proofs.search.give.Given as given
use Rattle.daachorse_streams.proofs.search.give.Goals as goal
use Rattle.daachorse_streams.proofs.search.give.Goals.{Start}

-- the best is certain
is_certain : (g : given.Over) (c : Start g) → let s = c.args.search.now in (s.scan.decided ≡ true) ⊎ ((s.ended ≡ true) × (s.walked ≡ length s.ring.items))
is_certain g c = elim c.requires.certain [ inl decided ↦ inl decided | inr over ↦ inr (over.0, over.1 ∙ c.args.search.now.ring.ok.0) ]

pub to_match-found-requires : goal.to_match-found-requires
to_match-found-requires g c =
    let unit = g.A.Unit.EdgeLabel in
    omega (arith, output_within unit.width g.met.A.Unit.EdgeLabel.wide (g.A.Automaton.sees c.args.automaton.now) unit.unit c.requires.stands c.args.best c.requires.best c.output.ensures.value)

pub returns-then-found-clause-stands : goal.returns-then-found-clause-stands
returns-then-found-clause-stands g c =
    let unit = g.A.Unit.EdgeLabel in let found = c.to_match-found in
    let some : c.args.best.end - length_of c.output.result < c.args.best.end = omega (arith, c.if-found.true, ap (λ (x : Match g.row.V.Denot). x.start) found.ensures, ap (λ (x : Match g.row.V.Denot). x.end) found.ensures) in
    (gave_key unit.width g.met.A.Unit.EdgeLabel.wide (g.A.Automaton.sees c.args.automaton.now) unit.unit c.requires.stands c.args.best c.requires.best c.output.ensures.value
    (is_certain g (goal.at.returns-then-found-clause-stands g c).Start) found.ensures c.give.new.self (ap (λ (x : SeenUnits). x.since) c.give.ensures) some (ap (λ (x : SeenUnits). x.given) c.give.ensures) c.begin-search.result c.begin-search.ensures).0

pub returns-then-found-clause-given : goal.returns-then-found-clause-given
returns-then-found-clause-given g c =
    let unit = g.A.Unit.EdgeLabel in let found = c.to_match-found in
    let some : c.args.best.end - length_of c.output.result < c.args.best.end = omega (arith, c.if-found.true, ap (λ (x : Match g.row.V.Denot). x.start) found.ensures, ap (λ (x : Match g.row.V.Denot). x.end) found.ensures) in
    (gave_key unit.width g.met.A.Unit.EdgeLabel.wide (g.A.Automaton.sees c.args.automaton.now) unit.unit c.requires.stands c.args.best c.requires.best c.output.ensures.value
    (is_certain g (goal.at.returns-then-found-clause-given g c).Start) found.ensures c.give.new.self (ap (λ (x : SeenUnits). x.since) c.give.ensures) some (ap (λ (x : SeenUnits). x.given) c.give.ensures) c.begin-search.result c.begin-search.ensures).1

pub returns-then-passed_over-clause-stands : goal.returns-then-passed_over-clause-stands
returns-then-passed_over-clause-stands g c =
    let unit = g.A.Unit.EdgeLabel in let s = c.args.search.now in let found = c.to_match-found in
    let none : c.args.best.end ≤ c.args.best.end - length_of c.output.result = omega (arith, c.if-found.false, ap (λ (x : Match g.row.V.Denot). x.start) found.ensures, ap (λ (x : Match g.row.V.Denot). x.end) found.ensures) in
    (gave_empty unit.width g.met.A.Unit.EdgeLabel.wide (g.A.Automaton.sees c.args.automaton.now) unit.unit c.requires.stands c.args.best c.requires.best c.output.ensures.value
    (is_certain g (goal.at.returns-then-passed_over-clause-stands g c).Start) found.ensures s.seen refl none (sym (ap (λ b. cond b s.seen.given (s.seen.given + 1)) c.if-passed_over.true)) c.root.result c.root.ensures.text c.idle-search.result c.idle-search.ensures).0

pub returns-then-passed_over-clause-given : goal.returns-then-passed_over-clause-given
returns-then-passed_over-clause-given g c =
    let unit = g.A.Unit.EdgeLabel in let s = c.args.search.now in let found = c.to_match-found in
    let none : c.args.best.end ≤ c.args.best.end - length_of c.output.result = omega (arith, c.if-found.false, ap (λ (x : Match g.row.V.Denot). x.start) found.ensures, ap (λ (x : Match g.row.V.Denot). x.end) found.ensures) in
    let given = (gave_empty unit.width g.met.A.Unit.EdgeLabel.wide (g.A.Automaton.sees c.args.automaton.now) unit.unit c.requires.stands c.args.best c.requires.best c.output.ensures.value
    (is_certain g (goal.at.returns-then-passed_over-clause-given g c).Start) found.ensures s.seen refl none (sym (ap (λ b. cond b s.seen.given (s.seen.given + 1)) c.if-passed_over.true)) c.root.result c.root.ensures.text c.idle-search.result c.idle-search.ensures).1 in
    given ∙ ap (λ b. given_of unit.width (g.A.Automaton.sees c.args.automaton.now).content s ++ cond b [] (found.result ∷ [])) c.if-passed_over.true ∙ append-nil (given_of unit.width (g.A.Automaton.sees c.args.automaton.now).content s)

pub returns-clause-stands : goal.returns-clause-stands
returns-clause-stands g c =
    let unit = g.A.Unit.EdgeLabel in let s = c.args.search.now in let found = c.to_match-found in
    let none : c.args.best.end ≤ c.args.best.end - length_of c.output.result = omega (arith, c.if-found.false, ap (λ (x : Match g.row.V.Denot). x.start) found.ensures, ap (λ (x : Match g.row.V.Denot). x.end) found.ensures) in
    (gave_empty unit.width g.met.A.Unit.EdgeLabel.wide (g.A.Automaton.sees c.args.automaton.now) unit.unit c.requires.stands c.args.best c.requires.best c.output.ensures.value
    (is_certain g (goal.at.returns-clause-stands g c).Start) found.ensures c.give-2.new.self (ap (λ (x : SeenUnits). x.since) c.give-2.ensures) none (ap (λ (x : SeenUnits). x.given) c.give-2.ensures ∙ sym (ap (λ b. cond b s.seen.given (s.seen.given + 1)) c.if-passed_over.false)) c.root.result c.root.ensures.text c.idle-search.result c.idle-search.ensures).0

pub returns-clause-given : goal.returns-clause-given
returns-clause-given g c =
    let unit = g.A.Unit.EdgeLabel in let s = c.args.search.now in let found = c.to_match-found in
    let none : c.args.best.end ≤ c.args.best.end - length_of c.output.result = omega (arith, c.if-found.false, ap (λ (x : Match g.row.V.Denot). x.start) found.ensures, ap (λ (x : Match g.row.V.Denot). x.end) found.ensures) in
    let given = (gave_empty unit.width g.met.A.Unit.EdgeLabel.wide (g.A.Automaton.sees c.args.automaton.now) unit.unit c.requires.stands c.args.best c.requires.best c.output.ensures.value
    (is_certain g (goal.at.returns-clause-given g c).Start) found.ensures c.give-2.new.self (ap (λ (x : SeenUnits). x.since) c.give-2.ensures) none (ap (λ (x : SeenUnits). x.given) c.give-2.ensures ∙ sym (ap (λ b. cond b s.seen.given (s.seen.given + 1)) c.if-passed_over.false)) c.root.result c.root.ensures.text c.idle-search.result c.idle-search.ensures).1 in
    given ∙ ap (λ b. given_of unit.width (g.A.Automaton.sees c.args.automaton.now).content s ++ cond b [] (found.result ∷ [])) c.if-passed_over.false
