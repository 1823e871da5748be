-- What a search has seen.
use Rattle.std.specs.Prelude.{ℕ, List, [], ◌++◌}

-- the units read before the place from which the state counts, those read since, those of all that were looked up, and the number of matches given
pub record SeenUnits : Type 0 where
  pub before : List ℕ
  pub since : List ℕ
  pub looked : List ℕ
  pub given : ℕ

-- all units read
abbrev pub units : SeenUnits → List ℕ
units s = s.before ++ s.since

-- nothing was read
abbrev pub unread : SeenUnits
unread = record { before = []; since = []; looked = []; given = 0 }
