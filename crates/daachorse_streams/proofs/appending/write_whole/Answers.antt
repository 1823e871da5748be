-- One write more: what it took joins what was taken before.
use Rattle.daachorse_streams.proofs.Sending.{Appends-more}
use Rattle.daachorse_streams.proofs.appending.write_whole.Goals as goal

pub loop-rest-preserved : goal.loop-rest-preserved
loop-rest-preserved g c =
    let sent = c.loop-rest.invariant.sent in
    record { sent = Appends-more _ _ _ c.args.bytes.now sent.0 c.loop-rest.rest.now c.in_ok-n.n sent.1 sent.2 c.in_ok-n.ensures.bytes }
