-- An automaton in hand has valid parts, its patterns are folded where haystacks are, and its filter passes.
use Rattle.std.proofs.Common.{ap, ◌∙◌, subst}
use Rattle.daachorse.specs.bytewise.Automata.{Automaton}
use Rattle.daachorse.specs.bytewise.WrittenForms.{IsAutomaton}
use Rattle.daachorse.proofs.bytewise.written.DoubleArrayAhoCorasick+V+A.serialize.Goals as goal

pub returns-clause-automaton : goal.returns-clause-automaton
returns-clause-automaton g c =
    let P : Automaton g.row.V.Denot → Type 0 = λ a. IsAutomaton g.V.Serializable.is_value a in
    subst P (ap (λ s. s.searched) c.self-inside.view_is ∙ c.self.view_is) (record { parts = c.serialize.ensures.automaton; folded = c.self-inside.invariant.folded; filter = c.self-inside.invariant.filter })
