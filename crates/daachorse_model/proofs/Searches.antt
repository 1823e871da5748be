-- Small steps of the definitions of the searches, for any widths and any dictionary: each computes.
use Rattle.std.proofs.Common.{◌≡◌, ℕ, zero, suc, ◌+◌, Bool, List, [], ◌∷◌, ◌++◌, length, None, sym, ap, ◌∙◌, arith, add-zero}
use Rattle.daachorse_model.specs.declared.Match.{Match}
use Rattle.daachorse_model.specs.Units.{size}
use Rattle.daachorse_model.specs.Dictionary.{Dictionary}
use Rattle.daachorse_model.specs.Leftmost.{key_with_value, leftmost_from}

-- `here` are the matches at an end: the first, and then `found`, or else `none`
abbrev pub first_or : {V : Type 0} → List (Match V) → List (Match V) → List (Match V) → List (Match V)
first_or here none found = elim here [ [] ↦ none | m ∷ _ ↦ m ∷ found ]

-- a text without values is no key
pub key_with_value-none : {V : Type 0} (K : Dictionary V) (t : List ℕ) → K t ≡ [] → key_with_value K t ≡ None
key_with_value-none K t e = rw e

-- the units that the match given last still has are passed over
pub leftmost_from-skip : {V : Type 0} (width : ℕ → ℕ) (K : Dictionary V) (s n k : ℕ) (after : Bool) (p w : List ℕ) → n ≡ length p + k
    → leftmost_from width K s n after (p ++ w) ≡ leftmost_from width K (s + size width p) k after w
leftmost_from-skip width K s n k after [] w e =
    let same : n ≡ k = omega arith in
    ap (λ m. leftmost_from width K s m after w) same ∙ ap (λ m. leftmost_from width K m k after w) (sym (add-zero s))
leftmost_from-skip width K s zero k after (u ∷ p) w e = absurd (omega arith)
leftmost_from-skip width K s (suc n) k after (u ∷ p) w e =
    leftmost_from-skip width K (s + width u) n k after p w (omega arith) ∙ ap (λ m. leftmost_from width K m k after w) (omega arith)
