-- Bytes come only before the end of a stream, and a stream whose last unit is whole may end.
use Rattle.std.proofs.Common.{◌≡◌, ℕ, ◌<◌, Bool, true, false, List, [], take, length, refl, ap, length-append, arith}
use Rattle.std.proofs.lemmas.List.{length-take, nil_from_length}
use Rattle.daachorse_model.specs.declared.MatchKind.{MatchKind}
use Rattle.daachorse_search.specs.Views.{AutomatonView}
use Rattle.daachorse_c.specs.declared.stream.Stream.{Stream}
use Rattle.daachorse_c.specs.declared.streams.Streams.TheVariants.{Bytes as OfBytes, Characters as OfCharacters}
use Rattle.daachorse_c.specs.declared.unit.Unit.{Unit}
use Rattle.daachorse_c.specs.Automata.{Automaton, Bytes, Characters}
use Rattle.daachorse_c.specs.Streams.{GoesOnOver, Spells}
use Rattle.daachorse_c.specs.Through.{GoesThrough}
use Rattle.daachorse_c.specs.Units.{spelled_in}

pub still_open : (ended : Bool) (size : ℕ) → (ended ≡ true → size ≡ 0) → 0 < size → ended ≡ false
still_open true size none some = absurd (omega (arith, none refl, some))
still_open false size none some = refl

-- no unit begins with no bytes
pub none_later : {which : Unit} {partial units later : List ℕ} (bytes : List ℕ) (n : ℕ) → Spells which partial (take n bytes) units later → partial ≡ [] → length bytes ≡ 0 → later ≡ []
none_later {which} {partial} {units} {later} bytes n s none empty =
    let long = ap length s.splits in
    nil_from_length later (omega (arith, long, ap length none, empty, length-take n bytes, length-append partial (take n bytes), length-append (spelled_in which units) later))

goes_ended : {P : Type 0} {which : Unit} {width : ℕ → ℕ} {sees : P → AutomatonView ℕ} {p : P} {kind : MatchKind} {folds : Bool} {s : Stream ℕ} → GoesOnOver which width sees p kind folds s → s.partial ≡ [] → GoesOnOver which width sees p kind folds (record s { ended = true })
goes_ended on none = record {
  serves = on.serves;
  marks = on.marks;
  stands = on.stands;
  unended = λ is. let no : true ≡ false = is in cc;
  reported = on.reported;
  counted = on.counted;
  partial = on.partial;
  whole = λ is. none;
}

pub through_ended-bytes : (a : Automaton) (s : Stream ℕ) → GoesThrough a (OfBytes s) → s.partial ≡ [] → GoesThrough a (OfBytes (record s { ended = true }))
through_ended-bytes (Bytes a) s on none = goes_ended on none
through_ended-bytes (Characters a) s on none = absurd on

pub through_ended-characters : (a : Automaton) (s : Stream ℕ) → GoesThrough a (OfCharacters s) → s.partial ≡ [] → GoesThrough a (OfCharacters (record s { ended = true }))
through_ended-characters (Bytes a) s on none = absurd on
through_ended-characters (Characters a) s on none = goes_ended on none
