-- What is kept is valid.
use Rattle.std.proofs.Common.{◌≡◌, List, sym, ap, ◌∙◌, subst, arith}
use Rattle.std.proofs.lemmas.Result.{IfOk-weaker}
use Rattle.daachorse_core.specs.declared.outputs.Output.{Output}
use Rattle.daachorse_charwise_states.specs.declared.state.State.{State}
use Rattle.daachorse_charwise_states.specs.Parts.{Parts}
use Rattle.daachorse_charwise_states.specs.Valid.{IsValid}
use Rattle.daachorse_charwise_states.specs.Views.{parts_of}
use Rattle.daachorse_charwise_states.proofs.states.States.elements.Goals as goal

pub returns-clause-valid : goal.returns-clause-valid
returns-clause-valid g c =
    let V : Type 0 = g.row.V.Denot in
    let own = c.self.inside in
    let same : parts_of {V = V} own.kind c.deref.result.now own.mapper c.deref-2.result.now own.num_states ≡ parts_of {V = V} own.kind own.states.items own.mapper own.outputs.items own.num_states =
    ap (λ (l : List State). parts_of {V = V} own.kind l own.mapper c.deref-2.result.now own.num_states) c.deref.ensures.value
    ∙ ap (λ (l : List (Output V)). parts_of {V = V} own.kind own.states.items own.mapper l own.num_states) c.deref-2.ensures.value in
    let P : Parts V → Type 0 = λ p. IsValid p in
    IfOk-weaker c.new.result _ _ (λ e is. subst P (sym (is ∙ same)) c.self.invariant) c.new.ensures.parts

pub returns-clause-few : goal.returns-clause-few
returns-clause-few g c =
    IfOk-weaker c.new.result _ _ (λ e is. (let same = ap (λ (p : Parts g.row.V.Denot). p.num_states) is in omega (arith, same))) c.new.ensures.parts
