-- A letter more was taken.
use Rattle.std.proofs.Common.{Ok, [], ◌∷◌, get_or, take}
use Rattle.daacgrep_command.specs.Flags.{flag_of}
use Rattle.daacgrep_command.specs.Options.{flag_or_unknown, letters_ask}
use Rattle.daacgrep_command.proofs.Requests.{letters_more, takes_then}
use Rattle.daacgrep_command.proofs.options.Options.take_flags.Goals as goal

pub loop-letter-preserved : goal.loop-letter-preserved
loop-letter-preserved g c =
    let l = c.loop-letter in
    let e = letters_more c.args.word.now c.args.letters.now l.letter-index c.loop-letter-test.true in
    let t = takes_then c.args.self.now l.self c.take_flag.new.self
    (letters_ask c.args.word.now (take l.letter-index c.args.letters.now))
    (flag_or_unknown c.args.word.now (flag_of (45 ∷ get_or c.args.letters.now l.letter-index 0 ∷ [])) ∷ [])
    (Ok tt) l.invariant.known l.invariant.taken c.in_ok-take_flag.ensures in
    record { known = rw e t.known; taken = rw e t.taken }
