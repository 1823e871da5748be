-- However the pairs of the round are read, the state before is shifted past what they make alone.
use Rattle.std.proofs.Common.{ℕ, ◌+◌, ◌*◌, ◌%◌, ◌^◌, map, subst, sym, arith}
use Rattle.std.specs.Prelude.{bit_or}
use Rattle.daachorse_prefilter.specs.Scans.{HasEnded}
use Rattle.daachorse_prefilter.proofs.prefilter.scan.read_round.Goals.{then-num_pairs-eq16, else-num_pairs-eq16}
use Rattle.daachorse_prefilter.proofs.prefilter.scan.read_round.Goals as goal

pub returns : goal.returns
returns g c pos low bits =
    let text = map g.R.ByteReading.as_read c.args.haystack.now in
    elim c.if-num_pairs-eq16.branch [
      | then-num_pairs-eq16 w ↦
          let P : ℕ → Type 0 = λ n. HasEnded c.args.table.now text c.args.last pos (c.args.place + 1) n (bit_or ((c.args.state * 2 ^ n) % 2 ^ 32) w.read_sixteen-read.result) in
          rw w.read-is (subst P (sym w.if-num_pairs-eq16.true) (w.read_sixteen-read.ensures pos c.args.state (omega arith) bits))
      | else-num_pairs-eq16 w ↦ rw w.read-is (w.read_pairs-read.ensures pos c.args.state (omega arith) bits)
    ]
