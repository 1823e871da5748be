-- What a gate has recorded, and when it is open.
use Rattle.std.specs.Prelude.{◌≡◌, ℕ, ◌-◌, ◌*◌, ◌<◌, ◌≤◌, ◌^◌, ◌/◌, min, ◌↔◌, IsTrue, List, length, take, drop, sum}
use Rattle.daachorse_prefilter.specs.declared.prefilter.gate.PrefilterGate.{PrefilterGate}

-- group k of 64 runs
abbrev pub group : List ℕ → ℕ → List ℕ
group gains k = take 64 (drop (k * 64) gains)

-- in each whole group of 64 runs at least 512 bytes were skipped
abbrev pub IsPaying : List ℕ → Type 0
IsPaying gains = (k : ℕ) → k < length gains / 64 → 512 ≤ sum (group gains k)

-- the runs after the last whole group
abbrev pub rest : List ℕ → List ℕ
rest gains = drop (length gains / 64 * 64) gains

-- the gate was made, and then just these gains were recorded
pub record HasRecorded (g : PrefilterGate) (gains : List ℕ) : Type 0 where
  pub runs : g.runs ≡ length (rest gains)
  pub skipped : g.skipped ≡ min (2 ^ 64 - 1) (sum (rest gains))
  pub enabled : IsTrue g.is_enabled ↔ IsPaying gains
