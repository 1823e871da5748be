-- A haystack in pieces: the matches of a piece as those of the whole haystack.
use Rattle.std.specs.Prelude.{◌≡◌, ℕ, List, ◌++◌, filter, map, nat_lt}
use Rattle.daachorse_model.specs.declared.Match.{Match}
use Rattle.daachorse_model.specs.Dictionary.{Dictionary}
use Rattle.daachorse_model.specs.Matches.{overlapping, shifted}
use Rattle.daachorse_model.specs.Units.{size}

-- those of the matches that end behind place p
abbrev pub ending_behind : {V : Type 0} → ℕ → List (Match V) → List (Match V)
ending_behind p ms = filter (λ m. nat_lt p m.end) ms

-- Cut behind front ++ carried, where `carried` has the longest key's units but one: the matches of the haystack are those of the beginning, and those in carried ++ rest that end behind `carried`.
abbrev pub IsCutInPieces : {V : Type 0} → (ℕ → ℕ) → Dictionary V → List ℕ → List ℕ → List ℕ → Type 0
IsCutInPieces width K front carried rest =
    overlapping width K (front ++ (carried ++ rest))
    ≡ overlapping width K (front ++ carried) ++ map (shifted (size width front)) (ending_behind (size width carried) (overlapping width K (carried ++ rest)))
