-- What the words so far asked for was taken.
use Rattle.std.proofs.Common.{◌≡◌, List, ◌++◌, drop, map}
use Rattle.daacgrep_command.specs.declared.options.Role.TheVariants.{Any}
use Rattle.daacgrep_command.specs.Options.{AreKnown, Request, options_of, requests}
use Rattle.daacgrep_command.proofs.options.Options.read_words.Given as goal

abbrev pub invariant-loop-word : goal.invariant-loop-word
invariant-loop-word g l = record {
  done : List Request;
  all : requests Any (map (λ w. w.now) l.words) ≡ done ++ requests l.role (map (λ w. w.now) (drop l.word-index l.words));
  known : AreKnown done;
  taken : l.options ≡ options_of done;
}
