-- The place moves on with the haystack: by the size of what is skipped.
use Rattle.std.proofs.Common.{◌≡◌, true, [], length, refl, ap, arith}
use Rattle.std.proofs.lemmas.List.{length-append}
use Rattle.daachorse_search.proofs.leftmost.skip_places.Goals as goal

pub returns-clause-skipped : goal.returns-clause-skipped
returns-clause-skipped g c =
    let width = g.U.EdgeLabel.width in let skip = c.skip.ensures.goes in let later = g.H.Haystack.rest c.skip.new.rest in
    record {
      front = skip.front;
      parts = skip.parts;
      none = skip.none;
      here = λ _. skip.here;
    }

-- a filter that is closed moves nothing on, and was not open for sure
pub returns-then-not-is_open-clause-skipped : goal.returns-then-not-is_open-clause-skipped
returns-then-not-is_open-clause-skipped g c =
    record {
      front = [];
      parts = refl;
      none = λ front rest parts fewer. absurd (omega (arith, fewer, ap length parts, length-append front rest));
      here = λ opened. (let open_now : c.is_open.result ≡ true = c.is_open.ensures.open opened in cc);
    }
