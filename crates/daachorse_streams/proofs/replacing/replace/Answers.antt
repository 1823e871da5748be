-- The haystack up to a match joins what went out before, and then the match's replacement.
use Rattle.std.proofs.Common.{List, subst}
use Rattle.std.proofs.lemmas.Result.{err_from_is_err_and, on_ok_weaker, on_err_weaker}
use Rattle.std.specs.Io.KnownBytes.{Appends}
use Rattle.daachorse_model.specs.declared.Match.{Match}
use Rattle.daachorse_streams.specs.Replaced.{AppendsBeginning, AreParts}
use Rattle.daachorse_streams.proofs.Cuts.{parts_here}
use Rattle.daachorse_streams.proofs.Pieces.{all_out, goes_on, refuses_before, refuses_behind, refuses_within}
use Rattle.daachorse_streams.proofs.replacing.replace.Goals as goal

pub loop-found-init : goal.loop-found-init
loop-found-init g c =
    rw c.into_iter-found-iterator.ensures.into_iter_gives
    (record { parts = c.requires.parts; puts = record { all = λ new h. h; some = λ new h. h } })

pub part-matched-requires-clause-ends : goal.part-matched-requires-clause-ends
part-matched-requires-clause-ends g c =
    let P : List (Match g.row.V.Denot) → Type 0 = λ l. AreParts (g.P.Piece.may_cut c.args.haystack) c.loop-found.place l in
    parts_here _ c.in-Some.found.end c.next.new.self (subst P c.in-Some.ensures.steps c.loop-found.invariant.parts).4

pub returns-in_err-append-clause-beginning : goal.returns-in_err-append-clause-beginning
returns-in_err-append-clause-beginning g c =
    let p = err_from_is_err_and c.from_residual.result c.from_residual.ensures.1 in
    rw p.1 (refuses_before c.loop-found.invariant.puts c.in-Some.found c.next.new.self c.in-Some.ensures.steps _
    (subst (AppendsBeginning _ _) c.part.ensures c.in_err-append.ensures.beginning))

pub returns-in_err-append-2-clause-beginning : goal.returns-in_err-append-2-clause-beginning
returns-in_err-append-2-clause-beginning g c =
    let p = err_from_is_err_and c.from_residual-in_err-append-2.result c.from_residual-in_err-append-2.ensures.1 in
    rw p.1 (refuses_within c.loop-found.invariant.puts c.in-Some.found c.next.new.self c.in-Some.ensures.steps c.replacement.result
    (_, c.part-matched.ensures, c.replacement.ensures)
    _ (subst (Appends _ _) c.part.ensures c.in_ok-append.ensures.whole) _ c.in_err-append-2.ensures.beginning)

pub loop-found-preserved : goal.loop-found-preserved
loop-found-preserved g c = record {
  parts =
      let P : List (Match g.row.V.Denot) → Type 0 = λ l. AreParts (g.P.Piece.may_cut c.args.haystack) c.loop-found.place l in
      (subst P c.in-Some.ensures.steps c.loop-found.invariant.parts).4;
  puts =
      goes_on c.loop-found.invariant.puts c.in-Some.found c.next.new.self c.in-Some.ensures.steps c.replacement.result
      (_, c.part-matched.ensures, c.replacement.ensures)
      _ (subst (Appends _ _) c.part.ensures c.in_ok-append.ensures.whole) _ c.in_ok-append-2.ensures.whole;
}

pub returns : goal.returns
returns g c = record {
  whole =
      on_ok_weaker c.append-2.result
      (λ piece. all_out c.loop-found.invariant.puts c.in-None.ensures.steps.0 c.end.result _ c.end.ensures.end
      (subst (Appends _ _) c.part-2.ensures piece)) c.append-2.ensures.whole;
  beginning =
      on_err_weaker c.append-2.result
      (λ piece. refuses_behind c.loop-found.invariant.puts c.in-None.ensures.steps.0 c.end.result _ c.end.ensures.end
      (subst (AppendsBeginning _ _) c.part-2.ensures piece)) c.append-2.ensures.beginning;
}
