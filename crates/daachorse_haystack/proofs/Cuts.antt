-- Where a text is cut as it is read, so is the text as it is, since a folded unit is as wide.
use Rattle.std.proofs.Common.{◌≡◌, ℕ, ◌++◌, Bool, true, false, List, take, drop, length, sym, ap, ◌∙◌}
use Rattle.std.proofs.Math.Seq.{take-append_seam, drop-append_seam}
use Rattle.daachorse_model.specs.Folding.{folded_unit, as_read}
use Rattle.daachorse_model.specs.Units.{size}
use Rattle.daachorse_model.proofs.FoldLaws.{folded-cut, size-as_read}

-- the two parts of the text, as they are read
pub parts-as_read : (folds : Bool) (w front back : List ℕ) → as_read folds w ≡ front ++ back → (as_read folds (take (length front) w) ≡ front) × (as_read folds (drop (length front) w) ≡ back)
parts-as_read true w front back parts = folded-cut w front back parts
parts-as_read false w front back parts = (ap (take (length front)) parts ∙ take-append_seam front back, ap (drop (length front)) parts ∙ drop-append_seam front back)

-- the first part of the text takes as many bytes as it is
pub front-size : (width : ℕ → ℕ) → ((u : ℕ) → width (folded_unit u) ≡ width u) → (folds : Bool) (w front back : List ℕ) (bytes : ℕ) → as_read folds w ≡ front ++ back → bytes ≡ size width front → bytes ≡ size width (take (length front) w)
front-size width as_wide folds w front back bytes parts sized =
    sized ∙ ap (size width) (sym (parts-as_read folds w front back parts).0) ∙ size-as_read width as_wide folds (take (length front) w)
