-- A text as it is read, one unit more: what is read of it joins what was read.
use Rattle.std.proofs.Common.{◌≡◌, ℕ, Bool, true, false, List, [], ◌∷◌, ◌++◌, refl, sym, ap, ◌∙◌}
use Rattle.std.proofs.lemmas.List.{map-append}
use Rattle.daachorse_model.specs.Folding.{as_read, folded_unit}
use Rattle.daachorse_model.proofs.FoldLaws.{as_read-append}

pub as_read-nil : (folds : Bool) → as_read folds [] ≡ []
as_read-nil true = refl
as_read-nil false = refl

-- one unit is read as one unit
pub as_read-push : (folds : Bool) (w : List ℕ) (u : ℕ) → (v : ℕ) × (as_read folds (w ++ u ∷ []) ≡ as_read folds w ++ v ∷ [])
as_read-push true w u = (folded_unit u, map-append folded_unit w (u ∷ []))
as_read-push false w u = (u, refl)

-- what a stepper read, in the words of the automaton that it borrows
pub read_on : (folds option : Bool) (text more was now : List ℕ) → option ≡ folds → was ≡ as_read folds text → now ≡ was ++ as_read option more → now ≡ as_read folds (text ++ more)
read_on folds option text more was now same before step =
    step ∙ ap (λ l. l ++ as_read option more) before ∙ ap (λ b. as_read folds text ++ as_read b more) same ∙ sym (as_read-append folds text more)
