-- A label from 128 on is behind the ASCII characters, by its code, and one below is a character, whose code the view tells; a character without a code is in no key, so that its step ends at the root.
use Rattle.std.proofs.Common.{◌≡◌, ◌-◌, ◌∙◌, ap, subst, sym, arith}
use Rattle.std.specs.Prelude.{Some}
use Rattle.daachorse_model.specs.Units.{char_width}
use Rattle.daachorse_search.specs.Views.{HasFirst, SeesLook, TellsFirst}
use Rattle.daachorse_charwise_states.specs.Parts.{Parts, char_code}
use Rattle.daachorse_charwise_states.specs.StateRows.{sees_ascii}
use Rattle.daachorse_charwise_states.proofs.LabelLaws.{code_behind, unit_of_ascii}
use Rattle.daachorse_charwise_states.proofs.for_rows.ForRowsAutomaton.turn.Goals as goal

pub returns-then-label-ge-ASCII-clause-look : goal.returns-then-label-ge-ASCII-clause-look
returns-then-label-ge-ASCII-clause-look g c = λ unit stands.
    let P : Parts g.row.V.Denot → Type 0 = λ p. char_code p.coding unit ≡ Some (c.args.label - 128) → SeesLook (sees_ascii p) c.args.state unit c.turn.result in
    subst P c.self.view_is (c.turn.ensures.look unit) (code_behind c.args.self.now c.args.label unit stands c.if-label-ge-ASCII.true)

pub returns-then-label-ge-ASCII-clause-output : goal.returns-then-label-ge-ASCII-clause-output
returns-then-label-ge-ASCII-clause-output g c = λ unit stands.
    let P : Parts g.row.V.Denot → Type 0 = λ p. char_code p.coding unit ≡ Some (c.args.label - 128) → TellsFirst char_width (sees_ascii p) c.turn.result in
    subst P c.self.view_is (c.turn.ensures.output unit) (code_behind c.args.self.now c.args.label unit stands c.if-label-ge-ASCII.true)

pub returns-in-Some-clause-look : goal.returns-in-Some-clause-look
returns-in-Some-clause-look g c = λ unit stands.
    let named = c.from.ensures ∙ unit_of_ascii c.args.self.now c.args.label unit stands (omega (arith, c.if-label-ge-ASCII.false)) in
    let P : Parts g.row.V.Denot → Type 0 = λ p. SeesLook (sees_ascii p) c.args.state unit c.turn-in-Some.result in
    subst P c.self.view_is (c.turn-in-Some.ensures.look unit (ap (char_code c.self.inside.view.coding) (sym named) ∙ c.in-Some.ensures.0))

pub returns-in-Some-clause-output : goal.returns-in-Some-clause-output
returns-in-Some-clause-output g c = λ unit stands.
    let named = c.from.ensures ∙ unit_of_ascii c.args.self.now c.args.label unit stands (omega (arith, c.if-label-ge-ASCII.false)) in
    let P : Parts g.row.V.Denot → Type 0 = λ p. TellsFirst char_width (sees_ascii p) c.turn-in-Some.result in
    subst P c.self.view_is (c.turn-in-Some.ensures.output unit (ap (char_code c.self.inside.view.coding) (sym named) ∙ c.in-Some.ensures.0))

pub returns-in-None-clause-output : goal.returns-in-None-clause-output
returns-in-None-clause-output g c = λ unit stands.
    let P : Parts g.row.V.Denot → Type 0 = λ p. HasFirst char_width (sees_ascii p) c.root-root.result c.output_pos.result in
    subst P c.self.view_is c.output_pos.ensures
