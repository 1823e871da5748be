-- Texts are made of characters: the registered ones, and each unit of one.
use Rattle.std.proofs.Common.{ℕ, List, [], ◌∷◌, ◌++◌}
use Rattle.std.specs.Prelude.{IsTrue}
use Rattle.std.specs.Borrow.{Bor}
use Rattle.std.specs.Char.{IsScalar}
use Rattle.std.specs.List.{AllByRecursion}
use Rattle.std.specs.Str.{all_scalars, chars}
use Rattle.std.proofs.Math.Utf8.{scalar}
use Rattle.daachorse_model.proofs.Booleans.{both-true}
use Rattle.daachorse_charwise_states.specs.Texts.{AreTexts}
use Rattle.daachorse.specs.charwise.Building.{registrations_of_strings}

-- the registered texts are made of characters
pub registered_scalars : {V : Type 0} (patterns : List (Bor (List ℕ) × V)) → AllByRecursion (λ s. IsTrue (all_scalars (chars s.0.now))) patterns → AreTexts (registrations_of_strings patterns)
registered_scalars [] all = tt
registered_scalars (s ∷ patterns) all = (all.0, registered_scalars patterns all.1)

-- each unit of a text is a character
pub scalar_in : (v w : List ℕ) (u : ℕ) → IsTrue (all_scalars (v ++ u ∷ w)) → IsScalar u
scalar_in [] w u all = (both-true (scalar u) (all_scalars w) all).0
scalar_in (c ∷ v) w u all = scalar_in v w u (both-true (scalar c) (all_scalars (v ++ u ∷ w)) all).1
