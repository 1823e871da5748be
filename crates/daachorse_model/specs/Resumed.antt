-- Where a standard search stands that keeps apart what it read up to its last match, and what it read since.
use Rattle.std.specs.Prelude.{◌≡◌, ℕ, ◌≤◌, List, [], ◌++◌, All}
use Rattle.daachorse_model.specs.Units.{size}
use Rattle.daachorse_model.specs.Dictionary.{Dictionary}
use Rattle.daachorse_model.specs.Matches.{resume_place, standard, standard_from}

module _ {V : Type 0} (width : ℕ → ℕ) (K : Dictionary V) where
  -- The last match of the standard search over before ++ since ended with `before`, and none has ended after it.
  pub record IsResumed (before since : List ℕ) : Type 0 where
    pub no_empty : K [] ≡ []
    pub ended : All (λ m. m.end ≤ size width before) (standard width K (before ++ since))
    pub place : resume_place width K (before ++ since) ≡ size width before
    pub goes_on : (w : List ℕ) → standard width K ((before ++ since) ++ w) ≡ standard width K (before ++ since) ++ standard_from width K (size width before) since w
