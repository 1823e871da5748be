-- No text has a dead link where the searches are standard; where they are leftmost the dead texts are those of the dictionary.
use Rattle.std.proofs.Common.{◌≡◌, ◌≢◌}
use Rattle.daachorse_model.specs.declared.MatchKind.TheVariants.{Standard}
use Rattle.daachorse_model.specs.Units.{char_width}
use Rattle.daachorse_array.proofs.DeadLaws.{dead_leftmost, none_dead}
use Rattle.daachorse_search.specs.Views.{IsLeftmostView, IsStandard}
use Rattle.daachorse_charwise_states.specs.Parts.{Parts, machine}
use Rattle.daachorse_charwise_states.specs.Valid.{sees}

pub alive : {V : Type 0} (p : Parts V) → p.kind ≡ Standard → IsStandard (sees p)
alive p = none_dead char_width (machine p) p.kind

pub is_leftmost_automaton : {V : Type 0} (p : Parts V) → p.kind ≢ Standard → IsLeftmostView (sees p)
is_leftmost_automaton p = dead_leftmost char_width (machine p) p.kind
