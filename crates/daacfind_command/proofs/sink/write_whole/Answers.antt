-- One write more: what it took joins what was taken before.
use Rattle.std.proofs.Common.{rules}
use Rattle.daachorse.proofs.Sending.{Appends-more}
use Rattle.daacfind_command.proofs.sink.write_whole.Goals as goal

pub loop-rest-preserved : goal.loop-rest-preserved
loop-rest-preserved g c =
    let sent = c.loop-rest.invariant.sent in
    record {
      sent = Appends-more _ _ _ c.args.bytes.now sent.0 c.loop-rest.rest.now c.in_ok-n.n sent.1 sent.2 c.in_ok-n.ensures.taken;
      unfailed = search rules;
    }
