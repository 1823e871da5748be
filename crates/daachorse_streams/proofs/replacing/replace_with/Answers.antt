-- The haystack up to a match joins what went out before, and then the call for the match is made.
use Rattle.std.proofs.Common.{List, refl, subst, of_calls}
use Rattle.std.proofs.lemmas.Result.{err_from_is_err_and, on_ok_weaker, on_err_weaker}
use Rattle.std.specs.Io.KnownBytes.{Appends}
use Rattle.daachorse_model.specs.declared.Match.{Match}
use Rattle.daachorse_streams.specs.Replaced.{AppendsBeginning, AreParts}
use Rattle.daachorse_streams.proofs.Cuts.{parts_here}
use Rattle.daachorse_streams.proofs.InTurn.{ends, leads_on, stops_at, stops_before, stops_behind}
use Rattle.daachorse_streams.proofs.replacing.replace_with.Goals as goal

pub loop-found-init : goal.loop-found-init
loop-found-init g c = record {
  callable = c.requires.callable;
  parts = rw c.into_iter-found-iterator.ensures.into_iter_gives c.requires.parts;
  leads = rw c.into_iter-found-iterator.ensures.into_iter_gives (record { all = λ new h. h; some = λ new h. h });
}

pub part-matched-requires-clause-ends : goal.part-matched-requires-clause-ends
part-matched-requires-clause-ends g c =
    let P : List (Match g.row.V.Denot) → Type 0 = λ l. AreParts (g.P.Piece.may_cut c.args.haystack) c.loop-found.written l in
    parts_here _ c.in-Some.found.end c.next.new.self (subst P c.in-Some.ensures.steps c.loop-found.invariant.parts).4

pub returns-in_err-append-clause-beginning : goal.returns-in_err-append-clause-beginning
returns-in_err-append-clause-beginning g c =
    let p = err_from_is_err_and c.from_residual.result c.from_residual.ensures.1 in
    rw p.1 (stops_before c.loop-found.invariant.leads c.in-Some.found c.next.new.self c.in-Some.ensures.steps _
    (subst (AppendsBeginning _ _) c.part.ensures c.in_err-append.ensures.beginning))

pub returns-in_err-write-clause-beginning : goal.returns-in_err-write-clause-beginning
returns-in_err-write-clause-beginning g c =
    let p = err_from_is_err_and c.from_residual-in_err-write.result c.from_residual-in_err-write.ensures.1 in
    rw p.1 (stops_at c.loop-found.invariant.leads c.in-Some.found c.next.new.self c.in-Some.ensures.steps _ _ _ _
    (subst (Appends _ _) c.part.ensures c.in_ok-append.ensures.whole)
    (_, _, _, c.part-matched.ensures, refl, refl, c.in_err-write.ensures))

pub loop-found-preserved : goal.loop-found-preserved
loop-found-preserved g c = record {
  callable = search of_calls;
  parts =
      let P : List (Match g.row.V.Denot) → Type 0 = λ l. AreParts (g.P.Piece.may_cut c.args.haystack) c.loop-found.written l in
      (subst P c.in-Some.ensures.steps c.loop-found.invariant.parts).4;
  leads =
      leads_on c.loop-found.invariant.leads c.in-Some.found c.next.new.self c.in-Some.ensures.steps _ _ _
      (subst (Appends _ _) c.part.ensures c.in_ok-append.ensures.whole)
      (_, _, _, c.part-matched.ensures, refl, refl, c.in_ok-write.ensures);
}

pub returns : goal.returns
returns g c = record {
  whole =
      on_ok_weaker c.append-2.result
      (λ piece. ends c.loop-found.invariant.leads c.in-None.ensures.steps.0 c.end.result _ c.end.ensures.end
      (subst (Appends _ _) c.part-2.ensures piece)) c.append-2.ensures.whole;
  beginning =
      on_err_weaker c.append-2.result
      (λ piece. stops_behind c.loop-found.invariant.leads c.in-None.ensures.steps.0 c.end.result _ c.end.ensures.end
      (subst (AppendsBeginning _ _) c.part-2.ensures piece)) c.append-2.ensures.beginning;
}
