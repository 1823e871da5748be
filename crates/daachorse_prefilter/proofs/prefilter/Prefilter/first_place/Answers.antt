-- The scan is over the table and the window of the fields, and the text is read byte by byte.
use Rattle.std.proofs.Common.{ℕ, List, subst, sym}
use Rattle.daachorse_prefilter.specs.Filters.{admits}
use Rattle.daachorse_prefilter.specs.Places.{IsFirstPlace}
use Rattle.daachorse_prefilter.proofs.prefilter.Prefilter.first_place.Goals as goal

pub returns : goal.returns
returns g c =
    let P : List ℕ → Type 0 = λ text. IsFirstPlace (λ w. admits c.args.self.now w) text c.args.pos c.scan.result in
    subst P (sym (g.met.R.ByteReading.reads_each c.args.haystack.now)) (rw (← c.self.view_is) c.scan.ensures)
