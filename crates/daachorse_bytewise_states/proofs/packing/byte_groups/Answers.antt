-- The code of a byte is the byte.
use Rattle.daachorse_build.specs.Builders.{states_of}
use Rattle.daachorse_patterns.proofs.Groups.{groups-of}
use Rattle.daachorse_bytewise_states.proofs.packing.byte_groups.Goals as goal

pub returns-clause-ok : goal.returns-clause-ok
returns-clause-ok g c =
    let made = c.in_ok-groups.ensures.groups in
    let trie = made.trie (λ b. b) (λ s b t e r gives. gives.0) in
    let groups = made.groups (λ b. b) 256 (λ s b t e r gives. gives.0) (record { below = λ b r gives. gives.1; apart = λ s b d t u e f same. same }) in
    groups-of (λ b. b) 256 (states_of c.args.nfa.now) c.in_ok-groups.groups.items c.requires.trie trie groups
