-- The cached depths are those of the states.
use Rattle.std.proofs.Common.{ℕ, List, ◌∙◌, sym, subst}
use Rattle.daachorse_array.proofs.DepthLaws.{table_tells}
use Rattle.daachorse_search.specs.Views.{HasDepths}
use Rattle.daachorse_bytewise_states.specs.Parts.{child, count}
use Rattle.daachorse_bytewise_states.specs.Valid.{sees}
use Rattle.daachorse.specs.bytewise.Automata.{Automaton}
use Rattle.daachorse.proofs.bytewise.searched.PlainLends.depths.Goals as goal

pub returns-clause-right : goal.returns-clause-right
returns-clause-right g c =
    let kept = c.self.inside in
    let P : Automaton g.row.V.Denot → Type 0 = λ a. HasDepths (sees a.parts) c.deref.result.now in
    let Q : List ℕ → Type 0 = λ depths. HasDepths (sees kept.states) depths in
    subst P c.self.view_is (subst Q (sym c.deref.ensures.value) (table_tells (child kept.states) 256 (count kept.states) kept.depths.items c.self.invariant.depths))
