-- The first call gave the first match, or nothing where the whole reader has none.
use Rattle.std.proofs.Common.{◌≡◌, ℕ, List, [], option_to_list, sym, ap, ◌∙◌, subst, arith}
use Rattle.std.specs.Prelude.{IfErr, IfOk}
use Rattle.daachorse_model.specs.Folding.{as_read}
use Rattle.daachorse_model.specs.Matches.{at_each_end, standard_after}
use Rattle.daachorse_model.specs.Units.{byte_width}
use Rattle.daachorse_model.proofs.StandardEnds.{standard-joined}
use Rattle.daachorse.specs.bytewise.Automata.{dictionary_of, states_of}
use Rattle.daachorse_streams.specs.ByKind.{non_overlapping}
use Rattle.daachorse_search.specs.Readers.{IsLasting}
use Rattle.daachorse_uses.specs.Copies.{matches_of}
use Rattle.daachorse_uses.specs.Found.{IsFirstRead}
use Rattle.daachorse_uses.proofs.ReadFound.{first_read}
use Rattle.daachorse_uses.proofs.stream.first_in_reader.Goals as goal

pub returns : goal.returns
returns g c =
    let words = c.args.words.now in
    let K = dictionary_of words in
    let each : (text : List ℕ)
    → at_each_end (λ t. option_to_list (standard_after byte_width K t)) [] (as_read words.folds text) ≡ matches_of words text =
    λ text.
    standard-joined byte_width K (λ v. omega arith) (as_read words.folds text)
    ∙ ap (λ kind. non_overlapping kind byte_width K (as_read words.folds text)) (sym c.requires.standard) in
    let first =
    first_read g.R.Read.remaining _ _ (states_of words) c.args.reader words.folds (matches_of words) each c.find_iter_from_reader.result
    c.next.new.self c.next.result c.find_iter_from_reader.ensures c.next.ensures.steps in
    record {
      ok = subst (λ r. IfOk r (IsFirstRead (g.R.Read.remaining c.args.reader) (matches_of words))) (sym c.transpose.ensures) first.0;
      err = subst (λ r. IfErr r IsLasting) (sym c.transpose.ensures) first.1;
    }
