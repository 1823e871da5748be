-- What was written one after another are the elements that hold the trie.
use Rattle.std.proofs.Common.{ℕ, ◌<◌, List, length, ◌∙◌, ap, arith}
use Rattle.daachorse_placement.specs.Layout.{Layout}
use Rattle.daachorse_bytewise_states.specs.declared.state.State.{State}
use Rattle.daachorse_bytewise_states.specs.Elements.{base_in, check_in, fail_in, output_in}
use Rattle.daachorse_bytewise_states.specs.Packing.{ElementsHoldTrie}
use Rattle.daachorse_bytewise_states.specs.Writing.{AreLabelled, AreVacant, HasWritten}

pub written-held : (l : Layout) (edges : List (List (ℕ × ℕ))) (labels fails positions : List ℕ) (old new : List (State ℕ)) → 0 < length edges → AreLabelled edges labels → AreVacant l old
    → HasWritten (length edges) l.idx l.bases labels fails positions old new → ElementsHoldTrie l edges fails positions new
written-held l edges labels fails positions old new some labelled vacant placed = record {
  size = placed.size ∙ vacant.size;
  states = record {
    base = placed.base;
    fail = placed.fail;
    output = placed.output;
    no_base = λ i less none. ap base_in (placed.others i none) ∙ (vacant.all i (omega (arith, less, vacant.size))).base;
    no_fail = λ i less none. ap fail_in (placed.others i none) ∙ (vacant.all i (omega (arith, less, vacant.size))).fail;
    no_output = λ i less none. ap output_in (placed.others i none) ∙ (vacant.all i (omega (arith, less, vacant.size))).output;
  };
  children = λ s c t less alive e. placed.check t less alive ∙ labelled.children s c t e;
  root = placed.check 0 some (λ e. omega (arith, e)) ∙ labelled.root;
  others = λ i less none u least. ap check_in (placed.others i none) ∙ (vacant.all i (omega (arith, less, placed.size))).check u least;
}
