-- What the state of a scan over buckets tells of the windows of a text.
use Rattle.std.specs.Prelude.{◌≡◌, ℕ, ◌+◌, ◌-◌, ◌*◌, ◌<◌, ◌≤◌, true, false, List, drop}
use Rattle.daachorse_model.specs.Filter.{is_clear}
use Rattle.daachorse_prefilter.specs.Buckets.{lets, some_lets}

-- the window from q on begins at pos or after it, and is read to its end at the places from one on and before another
pub record EndsWithin (pos from to q : ℕ) : Type 0 where
  pub begun : pos ≤ q
  pub low : from ≤ q + 7
  pub high : q + 8 ≤ to

module _ (table text : List ℕ) (pos : ℕ) where
  -- the entries were read at each stride-th place before this one: for each window from pos on that has begun and that a bucket lets pass,
  -- the bit that the bucket has for it by now is 0
  pub record Shows (stride place state : ℕ) : Type 0 where
    pub bits : (q b : ℕ) → pos ≤ q → q + stride ≤ place → place ≤ q + 7 + stride → b < 8 → lets table b (drop q text) ≡ true
        → is_clear state (56 + 8 * (q + stride) - 8 * place + b) ≡ true

  -- no bucket lets one of the windows pass that end there
  pub record NoneWithin (from to : ℕ) : Type 0 where
    pub none : (q : ℕ) → EndsWithin pos from to q → some_lets table (drop q text) ≡ false

  -- the first of them that a bucket lets pass
  pub record IsFirstWithin (from to q : ℕ) : Type 0 where
    pub within : EndsWithin pos from to q
    pub passing : some_lets table (drop q text) ≡ true
    pub earlier : (k : ℕ) → k < q → EndsWithin pos from to k → some_lets table (drop k text) ≡ false
