-- There is no key, so that each character of a key has a code.
use Rattle.std.proofs.Common.{[], refl}
use Rattle.daachorse_model.specs.declared.MatchKind.TheVariants.{Standard}
use Rattle.daachorse_model.specs.Dictionary.{dictionary}
use Rattle.daachorse_program_tests.proofs.paths.states_of_characters.Goals as goal

pub build-requires-clause-built : goal.build-requires-clause-built
build-requires-clause-built c =
    (dictionary Standard [], c.in_ok-nfa.ensures.ok.built, λ v w u key. absurd (key refl))
