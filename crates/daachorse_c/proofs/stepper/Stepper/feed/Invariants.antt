-- What was consumed so far is reported, as far as there was room.
use Rattle.std.proofs.Common.{◌≡◌, ℕ, ◌+◌, ◌-◌, ◌<◌, ◌≤◌, Bool, false, List, length}
use Rattle.daachorse_model.specs.declared.Match.{Match}
use Rattle.daachorse_model.specs.Units.{size}
use Rattle.daachorse_c.specs.Streams.{HasReported, IsOver, IsQuiet, KnowsEnd, dictionary_in, folds_in, kind_in, read_in}
use Rattle.daachorse_c.specs.Units.{IsOpenIn}
use Rattle.daachorse_c.proofs.Fed.{Fed}
use Rattle.daachorse_c.proofs.stepper.Stepper.feed.Given as goal

abbrev pub invariant-loop-written : goal.invariant-loop-written
invariant-loop-written g l = record {
  over : (a : g.row.S.Denot) (b : g.row.L.Denot) → IsOver a b l.fn.self → IsOver a b l.self;
  folds : folds_in l.self ≡ folds_in l.fn.self;
  search : kind_in l.self ≡ kind_in l.fn.self;
  dictionary : dictionary_in g.S.Unit.EdgeLabel.width g.S.Automaton.sees g.L.Automaton.sees l.self ≡ dictionary_in g.S.Unit.EdgeLabel.width g.S.Automaton.sees g.L.Automaton.sees l.fn.self;
  end : (ended : Bool) → KnowsEnd ended l.fn.self → (0 < length l.bytes → ended ≡ false) → KnowsEnd ended l.self;
  partial : IsOpenIn g.S.Unit.StreamUnit.which l.partial;
  within : l.taken ≤ length l.bytes;
  long : length l.out ≡ length l.fn.out;
  room : l.written ≤ length l.fn.out;
  quiet : l.written < length l.fn.out → IsQuiet g.S.Unit.EdgeLabel.width g.S.Automaton.sees g.L.Automaton.sees l.self;
  sized : size g.S.Unit.EdgeLabel.width (read_in l.self) + length l.partial ≡ size g.S.Unit.EdgeLabel.width (read_in l.fn.self) + length l.fn.partial + l.taken;
  fed : (reported : List (Match ℕ)) → HasReported g.S.Unit.EdgeLabel.width g.S.Automaton.sees g.L.Automaton.sees l.fn.self reported
      → Fed g.S.Unit.StreamUnit.which g.S.Unit.EdgeLabel.width g.S.Automaton.sees g.L.Automaton.sees l.bytes reported l.fn.self l.self l.fn.partial l.partial l.fn.out l.out l.taken l.written;
}

abbrev pub decreases-loop-written : goal.decreases-loop-written
decreases-loop-written g l = length l.bytes - l.taken
