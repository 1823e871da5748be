-- The letters so far were taken.
use Rattle.std.proofs.Common.{◌≡◌, take}
use Rattle.daacgrep_command.specs.Options.{AreKnown, joined, letters_ask, options_of}
use Rattle.daacgrep_command.proofs.options.Options.take_flags.Given as goal

abbrev pub invariant-loop-letter : goal.invariant-loop-letter
invariant-loop-letter g l = record {
  known : AreKnown (letters_ask l.fn.word (take l.letter-index l.letters));
  taken : l.self ≡ joined l.fn.self (options_of (letters_ask l.fn.word (take l.letter-index l.letters)));
}
