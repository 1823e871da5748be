-- What went to the end of nothing is all that is there, and the matches are those of the kind's search.
use Rattle.std.proofs.Common.{◌≡◌, ℕ, List, [], Option, Some, map, sym, ap, ◌∙◌, subst}
use Rattle.std.specs.Io.KnownBytes.{Appends}
use Rattle.daachorse_streams.specs.Replaced.{with_pieces}
use Rattle.daachorse.proofs.automaton.AhoCorasick.replace_all.Goals as goal

gathered_all : {O : Type 0} (taken : O → Option (List ℕ)) (gathered : O → List ℕ) → ((o : O) → taken o ≡ Some (gathered o))
    → (old new : O) (text : List ℕ) → gathered old ≡ [] → Appends (taken old) (taken new) text → gathered new ≡ text
gathered_all taken gathered known old new text none went =
    let from : Appends (Some []) (taken new) text = subst (λ t. Appends t (taken new) text) (known old ∙ ap Some none) went in
    let whole : Appends (Some []) (Some (gathered new)) text = subst (λ t. Appends (Some []) t text) (known new) from in
    whole

pub returns-clause-ok : goal.returns-clause-ok
returns-clause-ok g c =
    let (given, are, one_each, went) = c.in_ok-replace.ensures.whole in
    let text = with_pieces (g.S.Text.Piece.bytes c.args.haystack) c.matches_by_kind-matches.result (map g.S.Text.Piece.bytes given) in
    let whole = gathered_all _ g.S.Text.Gathers.gathered g.met.S.Text.Gathers.taken c.nothing-out.result c.replace.new.out text c.nothing-out.ensures went in
    rw (sym c.matches_by_kind-matches.ensures.left) (given, are, one_each, whole)
