-- The empty text leads to element 0 and to no other, so a state's text is empty just where the state is 0.
use Rattle.std.proofs.Common.{◌≡◌, rules}
use Rattle.daachorse_array.proofs.MachineLaws.{root-text, text-root}
use Rattle.daachorse_bytewise_states.proofs.ViewLaws.{seen_by, seen_machine}
use Rattle.daachorse_bytewise_states.proofs.view.ViewAutomaton.is_root.Goals as goal

pub returns : goal.returns
returns g c =
    let machine = seen_machine (seen_by c.self.view_is c.self.invariant) in (
      λ h. text-root _ _ _ _ _ machine c.args.state (let e : c.args.state ≡ 0 = search (rules, h) in e),
      λ h. let e : c.args.state ≡ 0 = root-text _ _ _ _ _ machine c.args.state c.requires h in search (rules, e),
    )
