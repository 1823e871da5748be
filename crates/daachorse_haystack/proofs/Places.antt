-- The place behind a character fits, since the decoder's source is ready at the place before it.
use Rattle.std.proofs.Common.{◌≡◌, ℕ, ◌+◌, ◌<◌, ◌^◌, Option, Some, arith}
use Rattle.std.specs.Iterator.{Count, MakesProgress}
use Rattle.daachorse_model.specs.Units.{char_width}
use Rattle.daachorse_haystack.specs.Sources.{IsReady}
use Rattle.daachorse_haystack.proofs.SourceLaws.{IsReady-next}
use Rattle.daachorse_haystack.specs.TextSources.{IsText, GivesCharacter}

module _ {S : Type 0} (can : S → Type 0) (steps : S → Option ℕ → S → Type 0) (left : S → Count) where
  pub place-fits : (source : S) (c : ℕ) (rest : S) (place bytes : ℕ) → IsReady (IsText can steps left) (GivesCharacter can steps left) left (λ (x : ℕ). x) char_width source place
      → GivesCharacter can steps left source (Some c) rest → MakesProgress (IsText can steps left) left source (Some c) rest → bytes ≡ char_width c → place + bytes < 2 ^ 64
  place-fits source c rest place bytes ready gave goes wide =
      omega (arith, IsReady-next (IsText can steps left) (GivesCharacter can steps left) left (λ (x : ℕ). x) char_width source c rest place ready gave goes, wide)
