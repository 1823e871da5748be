-- Among the elements that were passed no text with outputs is longer.
use Rattle.daachorse_array.specs.Arrays.{machine_of}
use Rattle.daachorse_array.proofs.LengthLaws.{IsLongestTo}
use Rattle.daachorse_array.proofs.lengths.longest_text.Given as goal

abbrev pub invariant-loop-element : goal.invariant-loop-element
invariant-loop-element g l =
    let view = g.E.Array.sees l.elements in
    record { so_far : IsLongestTo view.width (machine_of view (g.E.Keys.outputs l.elements)) view.count view.units l.element l.longest }
