-- The haystack up to the end of some matches, with each replaced, comes before what comes of the rest.
use Rattle.std.proofs.Common.{◌≡◌, ℕ, List, [], ◌∷◌, ◌++◌, refl, ap, ◌∙◌, append_assoc}
use Rattle.std.specs.Prelude.{slice_range}
use Rattle.daachorse_model.specs.declared.Match.{Match}
use Rattle.daachorse_model.specs.Matches.{last_end}
use Rattle.daachorse_streams.specs.Replaced.{with_replacements_from}

pub last_end-next : {V : Type 0} (s : ℕ) (xs : List (Match V)) (x : Match V) → last_end s (xs ++ x ∷ []) ≡ x.end
last_end-next s [] x = refl
last_end-next s (m ∷ ms) x = last_end-next m.end ms x

module _ {V : Type 0} (with : Match V → List ℕ) (bytes : List ℕ) where
  -- what comes of the bytes from s up to the end of the last of these matches
  abbrev pub replaced_before : ℕ → List (Match V) → List ℕ
  replaced_before s [] = []
  replaced_before s (m ∷ ms) = slice_range bytes s m.start ++ (with m ++ replaced_before m.end ms)

  pub with_replacements-split : (s : ℕ) (xs ys : List (Match V))
      → with_replacements_from with bytes s (xs ++ ys) ≡ replaced_before s xs ++ with_replacements_from with bytes (last_end s xs) ys
  with_replacements-split s [] ys = refl
  with_replacements-split s (m ∷ ms) ys =
      ap (λ l. slice_range bytes s m.start ++ (with m ++ l)) (with_replacements-split m.end ms ys) ∙ simp append_assoc refl
