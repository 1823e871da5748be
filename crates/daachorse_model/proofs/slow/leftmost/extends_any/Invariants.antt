-- No pattern so far is a proper prefix of the text, so the answer is that of the patterns that are left.
use Rattle.std.proofs.Common.{◌≡◌, drop}
use Rattle.std.specs.List.{list_any}
use Rattle.daachorse_model.specs.Dictionary.{is_proper_prefix, registrations_of}
use Rattle.daachorse_model.proofs.slow.leftmost.extends_any.Given as goal

abbrev pub invariant-loop-pattern : goal.invariant-loop-pattern
invariant-loop-pattern g l =
    list_any (λ r. is_proper_prefix r.0 l.text) (registrations_of (drop l.pattern-index l.earlier)) ≡ list_any (λ r. is_proper_prefix r.0 l.text) (registrations_of l.earlier)
