-- What a profile's lists become where their length changes.
use Rattle.std.specs.Prelude.{ℕ, ◌-◌, ◌++◌, List, length, take, replicate}

-- the first n counts, and 0 for each that isn't there
abbrev pub first_counts : List ℕ → ℕ → List ℕ
first_counts counts n = take n counts ++ replicate (n - length counts) 0
