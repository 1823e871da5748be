-- The calls gave one match more, an error, or nothing more.
use Rattle.std.proofs.Common.{[], refl, sym, subst}
use Rattle.std.proofs.lemmas.Result.{err_from_is_err_and}
use Rattle.daachorse_model.specs.Matches.{matches_after}
use Rattle.daachorse_model.specs.Units.{byte_width}
use Rattle.daachorse.specs.bytewise.Automata.{dictionary_of, states_of}
use Rattle.daachorse_search.specs.Beginnings.{BeginsReading}
use Rattle.daachorse_search.specs.Readers.{IsLasting}
use Rattle.daachorse_uses.proofs.ReadFound.{all_counted, error_lasts, none_counted, one_counted}
use Rattle.daachorse_uses.proofs.stream.count_in_reader.Goals as goal

pub loop-found-init : goal.loop-found-init
loop-found-init g c =
    let words = c.args.words.now in
    none_counted g.R.Read.remaining (λ p. matches_after byte_width (dictionary_of (record words { parts = p }))) (states_of words)
    c.args.reader words.folds c.into_iter-found-iterator.result
    (subst (BeginsReading (states_of words) c.args.reader (matches_after byte_width (dictionary_of words) []) words.folds)
    (sym c.into_iter-found-iterator.ensures.into_iter_gives) c.find_overlapping_iter_from_reader-found-items.ensures)

pub loop-found-preserved : goal.loop-found-preserved
loop-found-preserved g c =
    let words = c.args.words.now in let l = c.loop-found in
    one_counted g.R.Read.remaining (λ p. matches_after byte_width (dictionary_of (record words { parts = p }))) (states_of words)
    c.args.reader words.folds _ l.found-iterator c.next.new.self c.in-Some.found c.in_ok-found.field-0 l.count
    c.saturating_add-count.result l.invariant c.in-Some.ensures.steps c.in_ok-found.was c.saturating_add-count.ensures

pub returns-in_err-found : goal.returns-in_err-found
returns-in_err-found g c =
    let words = c.args.words.now in
    let p = err_from_is_err_and c.from_residual.result c.from_residual.ensures.1 in
    let lasts =
    error_lasts g.R.Read.remaining (λ p. matches_after byte_width (dictionary_of (record words { parts = p }))) _ (states_of words)
    c.args.reader words.folds _ (λ text. refl) c.loop-found.found-iterator c.next.new.self c.in-Some.found c.in_err-found.field-0.0
    c.in-Some.ensures.steps c.in_err-found.was in
    record {
      ok = rw p.1 tt;
      err = rw p.1 (subst IsLasting (sym p.2) lasts);
    }

pub returns : goal.returns
returns g c =
    let words = c.args.words.now in record {
      ok =
          all_counted g.R.Read.remaining (λ p. matches_after byte_width (dictionary_of (record words { parts = p }))) _ (states_of words)
          c.args.reader words.folds _ (λ text. refl) c.loop-found.found-iterator c.next.new.self c.loop-found.count c.loop-found.invariant
          c.in-None.ensures.steps;
      err = tt;
    }
