-- The words among the tokens so far were counted, and behind these come those that are left.
use Rattle.std.proofs.Common.{◌≡◌, ◌++◌, count_by, map}
use Rattle.std.specs.Option.{is_some}
use Rattle.daachorse.specs.charwise.Automata.{dictionary_of}
use Rattle.daactok.specs.Tokens.{seen, tokens}
use Rattle.daachorse_uses.proofs.words.count_words.Given as goal

abbrev pub invariant-loop-token : goal.invariant-loop-token
invariant-loop-token g l = record {
  counted : l.words ≡ count_by (λ t. is_some t.value) (map seen l.yielded);
  parts : tokens l.fn.tokenizer.folds (dictionary_of l.fn.tokenizer) l.fn.text ≡ map seen l.yielded ++ l.token-iterator;
}
