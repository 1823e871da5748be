-- The end of a step, however many links lead there: the longest end that begins a key, and in a leftmost automaton what may still become a match.
use Rattle.std.proofs.Common.{ℕ, zero, suc, ◌+◌, ◌≤◌, inl, inr, List, [], ◌∷◌, ◌++◌, length, ap, arith, length-append}
use Rattle.daachorse_core.specs.Looks.{EndsAfter, StepEnds}
use Rattle.daachorse_model.specs.Dictionary.{Dictionary}
use Rattle.daachorse_model.specs.Prefixes.{IsPrefix, IsLong, IsLink, IsCut}
use Rattle.daachorse_model.specs.Best.{IsSteady, LeftSteps}
use Rattle.daachorse_model.proofs.BestLaws.{IsLeftCandidate, IsLeftCandidate-first, IsLeftCandidate-link, LeftSteps-turn, LeftSteps-foreign}
use Rattle.daachorse_model.proofs.Cuts.{LeftSteps-IsCut}
use Rattle.daachorse_model.proofs.Steps.{IsCandidate, IsCandidate-first, IsCandidate-link, IsLong-turn, IsLong-no_label}
use Rattle.daachorse_search.specs.Views.{AutomatonView, IsLeftmostView, IsStandard}

module _ {V : Type 0} (view : AutomatonView V) where
  abbrev K : Dictionary V
  K = view.content

  abbrev dead : List ℕ → Type 0
  dead = view.dead

  -- one link more before it
  pub StepEnds-link : (w s t : List ℕ) (u : ℕ) → (¬ IsPrefix K (w ++ u ∷ [])) → (¬ dead w) → IsLink K w s → StepEnds K dead s u t → StepEnds K dead w u t
  StepEnds-link w s t u stuck live link (inl foreign) = inl foreign
  StepEnds-link w s t u stuck live link (inr (n, ends)) = inr (suc n, (stuck, live, (s, link, ends)))

  after-length : (n : ℕ) (w t : List ℕ) (u : ℕ) → EndsAfter K dead n w u t → length t ≤ length w + 1
  after-length zero w t u (inl on) = omega (arith, ap length on.1, length-append w (u ∷ []))
  after-length zero w t u (inr (stuck, ends, empty)) = omega (arith, ap length empty)
  after-length (suc n) w t u (stuck, live, (s, link, ends)) = omega (arith, after-length n s t u ends, link.shorter)

  -- it is at most one unit longer
  pub StepEnds-length : (w t : List ℕ) (u : ℕ) → StepEnds K dead w u t → length t ≤ length w + 1
  StepEnds-length w t u (inl foreign) = omega (arith, ap length foreign.1)
  StepEnds-length w t u (inr (n, ends)) = after-length n w t u ends

  after-long : (n : ℕ) (w c t : List ℕ) (u : ℕ) → IsStandard view → IsCandidate K w u c → EndsAfter K dead n c u t → IsLong K (w ++ u ∷ []) t
  after-long zero w c t u alive h ends = IsLong-turn K dead w u c t h (alive c) ends
  after-long (suc n) w c t u alive h (stuck, live, (s, link, ends)) = after-long n w s t u alive (IsCandidate-link K w u c s h stuck link) ends

  -- with no dead link it is the longest end that begins a key
  pub StepEnds-long : (w t : List ℕ) (u : ℕ) → StepEnds K dead w u t → IsStandard view → IsLong K (w ++ u ∷ []) t
  StepEnds-long w t u (inl foreign) alive = IsLong-no_label K w u t foreign.0 foreign.1
  StepEnds-long w t u (inr (n, ends)) alive = after-long n w w t u alive (IsCandidate-first K w u) ends

  module _ (kind : IsLeftmostView view) where
    after-left : (n : ℕ) (all w c t : List ℕ) (u : ℕ) → IsSteady K all w → IsLeftCandidate K all w u c → EndsAfter K dead n c u t → LeftSteps K all u t
    after-left zero all w c t u steady h ends = LeftSteps-turn K dead kind all w u c t steady h ends
    after-left (suc n) all w c t u steady h (stuck, live, (s, link, ends)) =
        after-left n all w s t u steady (IsLeftCandidate-link K all w u c s steady h stuck (λ d. live ((kind _).1 d)) link) ends

    -- in a leftmost automaton the scan goes on there, or stops at the root
    pub StepEnds-left : (all w t : List ℕ) (u : ℕ) → IsSteady K all w → StepEnds K dead w u t → LeftSteps K all u t
    StepEnds-left all w t u steady (inl foreign) = LeftSteps-foreign K all w u t steady foreign.0 foreign.1
    StepEnds-left all w t u steady (inr (n, ends)) = after-left n all w w t u steady (IsLeftCandidate-first K all w u steady) ends

    -- and that is the cut of what was read
    pub StepEnds-cut : (all w t : List ℕ) (u : ℕ) → IsSteady K all w → StepEnds K dead w u t → IsCut K (all ++ u ∷ []) t
    StepEnds-cut all w t u steady ends = LeftSteps-IsCut K all u t (StepEnds-left all w t u steady ends)
