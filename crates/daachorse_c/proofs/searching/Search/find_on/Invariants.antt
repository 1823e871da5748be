-- What is written so far, and what is left.
use Rattle.std.proofs.Common.{◌≡◌, ℕ, ◌+◌, ◌-◌, ◌∷◌, drop, length}
use Rattle.daachorse_model.specs.declared.Match.{Match}
use Rattle.daachorse_c.specs.Held.{haystack_of, searched}
use Rattle.daachorse_c.specs.Places.{IsBehind, IsPlaceIn, left_of}
use Rattle.daachorse_c.proofs.Reported.{Reported}
use Rattle.daachorse_c.proofs.searching.Search.find_on.Given as goal

abbrev pub invariant-loop-written : goal.invariant-loop-written
invariant-loop-written l =
    let a = searched l.fn.self in let h = haystack_of l.fn.self in record {
      within : IsPlaceIn a h l.place.at;
      long : length l.out ≡ length l.fn.out;
      reported : Reported (left_of a h l.fn.place) (left_of a h l.place) l.fn.out l.out l.written;
      still : l.written ≡ 0 → l.place ≡ l.fn.place;
      last : (n : ℕ) → l.written ≡ n + 1
          → (m : Match ℕ) × (drop n (left_of a h l.fn.place) ≡ m ∷ left_of a h l.place) × IsBehind a h m l.place;
    }

abbrev pub decreases-loop-written : goal.decreases-loop-written
decreases-loop-written l = length l.fn.out - l.written
