-- One item of a source further: the run grows at its end, and the source stays ready.
use Rattle.std.proofs.Common.{◌≡◌, ℕ, ◌+◌, ◌<◌, ◌^◌, List, [], ◌∷◌, ◌++◌, Option, Some, refl, ap, ◌∙◌, arith}
use Rattle.std.specs.Iterator.{Count, MakesProgress, Yields}
use Rattle.daachorse_model.specs.Units.{size}
use Rattle.daachorse_model.proofs.Suffixes.{size-push}
use Rattle.daachorse_haystack.specs.ByteSources.{Yields_append}
use Rattle.daachorse_haystack.specs.Sources.{IsReady}

pub Yields_push : {S A : Type 0} (steps : S → Option A → S → Type 0) (s : S) (xs : List A) (j : S) (x : A) (t : S) → Yields steps s xs j → steps j (Some x) t → Yields steps s (xs ++ x ∷ []) t
Yields_push steps s xs j x t run step = Yields_append steps s xs j (x ∷ []) t run (t, step, refl)

module _ {S U : Type 0} (can : S → Type 0) (steps : S → Option U → S → Type 0) (left : S → Count) (unit : U → ℕ) (width : ℕ → ℕ) where
  -- a source that is ready is so after one more unit
  pub IsReady-more : (s : S) (u : U) (t : S) (seen after : List ℕ) → IsReady can steps left unit width s (size width seen) → steps s (Some u) t → MakesProgress can left s (Some u) t
      → after ≡ seen ++ unit u ∷ [] → IsReady can steps left unit width t (size width after)
  IsReady-more s u t seen after ready step goes read =
      let on = goes.on ready.ends in
      let place : size width after ≡ size width seen + width (unit u) = ap (size width) read ∙ size-push width seen (unit u) in
      record { callable = on.0; ends = on.1; fits = λ xs rest run. omega (arith, ready.fits (u ∷ xs) rest (t, (step, goes), run), place) }

  -- and the place behind that unit fits
  pub IsReady-next : (s : S) (u : U) (t : S) (place : ℕ) → IsReady can steps left unit width s place → steps s (Some u) t → MakesProgress can left s (Some u) t → place + width (unit u) < 2 ^ 64
  IsReady-next s u t place ready step goes = omega (arith, ready.fits (u ∷ []) t (t, (step, goes), refl))
