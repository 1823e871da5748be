-- One link is written, and nothing else in the states changes.
use Rattle.std.proofs.Common.{◌<◌, length, get_or, sym, ap, arith}
use Rattle.daachorse_build.specs.declared.nfa_builder.NfaBuilderState.{NfaBuilderState}
use Rattle.daachorse_build.proofs.States.{link_set}
use Rattle.daachorse_build.proofs.nfa_builder.links.set_links.Goals as goal

pub loop-i-preserved : goal.loop-i-preserved
loop-i-preserved g c =
    let i = c.loop-i.i in
    let x = c.index-states-i.result in
    let low : i < length c.loop-i.states = omega arith in
    let less : i < length c.args.fails.now = omega arith in
    let r = link_set c.args.states.now c.loop-i.states c.args.fails.now i x _ low less c.index-states-i.is (ap (λ (s : NfaBuilderState g.row.L.Denot g.row.V.Denot g.row.A.Denot). record s { fail = get_or c.args.fails.now i 0 }) (sym c.index-states-i.is)) c.loop-i.invariant.kept c.loop-i.invariant.links in
    record { kept = r.0; links = r.1 }
