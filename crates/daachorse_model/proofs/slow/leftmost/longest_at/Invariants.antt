-- The longest key among the beginnings of the text that are left, or else the longest so far, is the longest of all.
use Rattle.std.proofs.Common.{◌≡◌, ◌≤◌, [], length, take, drop, IfSome}
use Rattle.std.specs.Option.{option_or}
use Rattle.daachorse_model.specs.Dictionary.{values_of, registrations_of}
use Rattle.daachorse_model.specs.Leftmost.{longest_key}
use Rattle.daachorse_model.specs.Slow.{key_found}
use Rattle.daachorse_model.proofs.slow.leftmost.longest_at.Given as goal

abbrev pub invariant-loop-units : goal.invariant-loop-units
invariant-loop-units g l =
    let K = values_of (registrations_of l.patterns) in
    (option_or (longest_key K (take l.units l.text) (drop l.units l.text)) (key_found l.text l.best) ≡ longest_key K [] l.text)
    × IfSome l.best (λ b. b.units ≤ length l.text)
