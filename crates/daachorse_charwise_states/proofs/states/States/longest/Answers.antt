-- What is kept is valid, so that the elements are a tree and a right machine.
use Rattle.std.proofs.Common.{◌≡◌, ◌≢◌, ◌≤◌, ◌⊎◌, ℕ, List, [], subst}
use Rattle.daachorse_model.specs.Kinds.{is_leftmost}
use Rattle.daachorse_model.specs.Units.{char_width, size}
use Rattle.daachorse_charwise_states.specs.Parts.{Parts, content}
use Rattle.daachorse_charwise_states.proofs.CharLaws.{valid_machine}
use Rattle.daachorse_charwise_states.proofs.EdgeLaws.{valid_tree, valid_tells}
use Rattle.daachorse_charwise_states.proofs.states.States.longest.Goals as goal

pub depths_by_parents-requires : goal.depths_by_parents-requires
depths_by_parents-requires g c = record {
  tree = valid_tree c.in_ok-elements.elements.parts c.in_ok-elements.ensures.valid c.in_ok-elements.ensures.few;
  tell = valid_tells c.in_ok-elements.elements c.in_ok-elements.ensures.lettered.letters;
}

pub longest_text-requires-clause-machine : goal.longest_text-requires-clause-machine
longest_text-requires-clause-machine g c = (is_leftmost c.in_ok-elements.elements.parts.kind, valid_machine c.in_ok-elements.elements.parts c.in_ok-elements.ensures.valid)

pub longest_text-requires-clause-tree : goal.longest_text-requires-clause-tree
longest_text-requires-clause-tree g c = valid_tree c.in_ok-elements.elements.parts c.in_ok-elements.ensures.valid c.in_ok-elements.ensures.few

pub returns-clause-ok : goal.returns-clause-ok
returns-clause-ok g c =
    let longest = c.longest_text.result in
    let P : Parts g.row.V.Denot → Type 0 =
    λ p. ((w : List ℕ) → content p w ≢ [] → size char_width w ≤ longest) × ((longest ≡ 0) ⊎ ((w : List ℕ) × (content p w ≢ []) × (size char_width w ≡ longest))) in
    subst P c.in_ok-elements.ensures.parts (c.longest_text.ensures.none_longer, c.longest_text.ensures.some)
