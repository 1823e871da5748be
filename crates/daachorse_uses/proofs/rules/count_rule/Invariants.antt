-- The matches so far were counted, and behind them come those that are left.
use Rattle.std.proofs.Common.{◌≡◌, ◌==◌, ◌++◌, ◌^◌, ◌-◌, count_by, min}
use Rattle.daachorse_model.specs.Folding.{as_read}
use Rattle.daachorse_model.specs.Matches.{overlapping}
use Rattle.daachorse_model.specs.Units.{byte_width}
use Rattle.daachorse.specs.bytewise.Automata.{dictionary_of}
use Rattle.daachorse_uses.proofs.rules.count_rule.Given as goal

abbrev pub invariant-loop-found : goal.invariant-loop-found
invariant-loop-found l = record {
  counted : l.count ≡ min (count_by (λ m. m.value == l.rule) l.yielded) (2 ^ 64 - 1);
  parts : overlapping byte_width (dictionary_of l.fn.rules) (as_read l.fn.rules.folds l.fn.line) ≡ l.yielded ++ l.found-iterator.left;
}
