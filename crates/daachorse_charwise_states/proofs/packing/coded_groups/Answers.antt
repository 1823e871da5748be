-- The code of a label is the mapper's.
use Rattle.daachorse_build.specs.Builders.{states_of}
use Rattle.daachorse_build.specs.Tables.{edges_of}
use Rattle.daachorse_patterns.proofs.Groups.{groups-of}
use Rattle.daachorse_charwise_states.specs.Packing.{code_in}
use Rattle.daachorse_charwise_states.proofs.Codes.{code_apart, code_given}
use Rattle.std.proofs.Common.{ℕ}
use Rattle.daachorse_charwise_states.proofs.packing.coded_groups.Goals as goal

pub returns-clause-ok : goal.returns-clause-ok
returns-clause-ok g c block two fits =
    let made = c.in_ok-groups.ensures.groups in
    let code : ℕ → ℕ = code_in c.args.mapper.now in
    let states = states_of c.args.nfa.now in
    let trie = made.trie code (λ s u t e r gives. gives) in
    let groups = made.groups code block (λ s u t e r gives. gives) (record {
      below = λ u r gives. code_given c.args.mapper.now c.requires.coding block two fits u r gives;
      apart = code_apart c.args.mapper.now c.requires.coding (edges_of states) c.requires.coded;
    }) in
    groups-of code block states c.in_ok-groups.groups.items c.requires.trie trie groups
