-- What comes before the place is put in front, with its matches replaced, and what comes after it is left.
use Rattle.std.proofs.Common.{◌≤◌, length}
use Rattle.daachorse_streams.specs.Replaced.{AreParts, with_replacements_from}
use Rattle.daachorse_c.specs.Held.{haystack_of, searched}
use Rattle.daachorse_c.specs.Places.{IsPlaceIn, left_of}
use Rattle.daachorse_c.specs.Replacing.{replaced_by, replacement}
use Rattle.daachorse_c.proofs.Cut.{IsBegun}
use Rattle.daachorse_c.proofs.searching.Search.replace.Given as goal

abbrev pub invariant-loop-found : goal.invariant-loop-found
invariant-loop-found l =
    let a = searched l.self in let texts = l.texts in let h = haystack_of l.self in let left = left_of a h l.place in record {
      within : IsPlaceIn a h l.place.at;
      parts : AreParts (λ i. i ≤ length h) l.behind left;
      partial : IsBegun (replaced_by texts.bytes.now texts.ends.now h a)
          (with_replacements_from (replacement texts.bytes.now texts.ends.now h) h l.behind left) l.fn.out l.out l.size;
    }

abbrev pub decreases-loop-found : goal.decreases-loop-found
decreases-loop-found l = length (left_of (searched l.self) (haystack_of l.self) l.place)
