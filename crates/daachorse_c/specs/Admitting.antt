-- Why a stream takes no bytes.
use Rattle.std.specs.Prelude.{◌≡◌, ◌⊎◌, ◌+◌, ◌<◌, ◌≤◌, ◌^◌, ℕ, true, List, ◌∷◌, [], ◌++◌, length, slice_index}
use Rattle.daachorse_model.specs.Units.{size}
use Rattle.daachorse_c.specs.declared.refusal.Refusal.{Refusal}
use Rattle.daachorse_c.specs.declared.refusal.Refusal.TheVariants.{InvalidUtf8, StreamEnded, StreamTooLong}
use Rattle.daachorse_c.specs.declared.stream.Stream.{Stream}
use Rattle.daachorse_c.specs.declared.unit.Unit.{Unit}
use Rattle.daachorse_c.specs.Streams.{read_by}
use Rattle.daachorse_c.specs.Units.{IsWrongIn}

module _ {N : Type 0} where
  -- so many bytes and matches could not be counted
  abbrev pub IsTooLong : (ℕ → ℕ) → Stream N → ℕ → ℕ → Type 0
  IsTooLong width s bytes room = (2 ^ 64 ≤ size width (read_by s.standing) + length s.partial + bytes) ⊎ (2 ^ 64 ≤ s.reported + room)

  -- no unit begins with the first of the bytes, after those of one that is partial
  abbrev pub IsWrongAtFirst : Unit → Stream N → List ℕ → Type 0
  IsWrongAtFirst which s bytes = (0 < length bytes) × IsWrongIn which (s.partial ++ slice_index bytes 0 ∷ [])

  -- why a stream consumes nothing
  abbrev pub IsNotAdmitted : Unit → (ℕ → ℕ) → Stream N → List ℕ → ℕ → Refusal → Type 0
  IsNotAdmitted which width s bytes room r =
      ((r ≡ StreamEnded) × (s.ended ≡ true) × (0 < length bytes)) ⊎ ((r ≡ StreamTooLong) × IsTooLong width s (length bytes) room) ⊎ ((r ≡ InvalidUtf8) × IsWrongAtFirst which s bytes)
