-- Text after a beginning of it.
use Rattle.std.proofs.Common.{◌≡◌, ℕ, ◌<◌, ◌≤◌, ◌++◌, Bool, true, false, List, [], ◌∷◌, drop, take, length, refl, sym, ap, ◌∙◌, length-append, arith}
use Rattle.std.specs.Str.{chars}
use Rattle.std.proofs.lemmas.List.{take-append-drop}
use Rattle.std.proofs.lemmas.Str.{IsUtf8-drop, len_utf8_bounds}
use Rattle.daachorse_model.specs.Folding.{as_read, folded_unit}
use Rattle.daachorse_model.specs.Units.{char_width, size}
use Rattle.daachorse_model.proofs.FoldLaws.{char_width-folded, length-as_read, size-as_read}
use Rattle.daachorse_model.proofs.Suffixes.{size-bytes}
use Rattle.daachorse_haystack.proofs.Cuts.{front-size, parts-as_read}
use Rattle.daachorse_haystack.proofs.TextLaws.{seam, size-chars}
use Rattle.daachorse_c.specs.declared.unit.Unit.{Unit}
use Rattle.daachorse_c.specs.declared.unit.Unit.TheVariants.{Byte, Character}
use Rattle.daachorse_c.specs.Units.{IsTextIn, units_in, width_in}

-- each unit takes some bytes
pub wide : (unit : Unit) (u : ℕ) → 0 < width_in unit u
wide Byte u = omega arith
wide Character u = omega (arith, (len_utf8_bounds u).0)

-- so many bytes further on text goes on, which is read so
pub record GoesOnAs (unit : Unit) (folds : Bool) (h : List ℕ) (bytes : ℕ) (rest : List ℕ) : Type 0 where
  pub within : bytes ≤ length h
  pub text : IsTextIn unit (drop bytes h)
  pub reads : as_read folds (units_in unit (drop bytes h)) ≡ rest

pub behind_front : (unit : Unit) (folds : Bool) (h front rest : List ℕ) → IsTextIn unit h → as_read folds (units_in unit h) ≡ front ++ rest → GoesOnAs unit folds h (size (width_in unit) front) rest
behind_front Byte folds h front rest text is =
    let cut = parts-as_read folds h front rest is in
    record {
      within = omega (arith, size-bytes front, length-as_read folds h, ap length is, length-append front rest);
      text = tt;
      reads = ap (λ n. as_read folds (drop n h)) (size-bytes front) ∙ cut.1;
    }
behind_front Character folds h front rest text is =
    let w = chars h in
    let cut = parts-as_read folds w front rest is in
    let sized = front-size char_width char_width-folded folds w front rest (size char_width front) is refl in
    let s = seam h (take (length front) w) (drop (length front) w) (size char_width front) text (sym (take-append-drop (length front) w)) sized in
    record {
      within = s.boundary.0;
      text = IsUtf8-drop h (size char_width front) text s.boundary;
      reads = ap (as_read folds) s.rest ∙ cut.1;
    }

-- a folded unit is as wide
as_wide : (unit : Unit) (u : ℕ) → width_in unit (folded_unit u) ≡ width_in unit u
as_wide Byte u = refl
as_wide Character u = char_width-folded u

-- text takes as many bytes as its units do, as they are read
pub size-read : (unit : Unit) (folds : Bool) (h : List ℕ) → IsTextIn unit h → size (width_in unit) (as_read folds (units_in unit h)) ≡ length h
size-read Byte folds h text = size-as_read (width_in Byte) (as_wide Byte) folds h ∙ size-bytes h
size-read Character folds h text = size-as_read char_width char_width-folded folds (chars h) ∙ size-chars h text

-- nothing is read of no bytes alone
pub none_read : (unit : Unit) (folds : Bool) (h : List ℕ) → IsTextIn unit h → length h ≡ 0 → as_read folds (units_in unit h) ≡ []
none_read unit folds h text none = by (as_read folds (units_in unit h)) (size-read unit folds h text)
  where
    by : (w : List ℕ) → size (width_in unit) w ≡ length h → w ≡ []
    by [] sized = refl
    by (u ∷ w) sized = absurd (omega (arith, sized, none, wide unit u))

-- the first unit is as wide as it is read
pub first_read : (unit : Unit) (folds : Bool) (w : List ℕ) (u : ℕ) (rest : List ℕ) → as_read folds w ≡ u ∷ rest → (c : ℕ) × (more : List ℕ) × (w ≡ c ∷ more) × (width_in unit u ≡ width_in unit c)
first_read unit true [] u rest is = absurd (omega (arith, ap length is))
first_read unit true (c ∷ w) u rest is = let same : folded_unit c ≡ u = cc in (c, w, refl, ap (width_in unit) (sym same) ∙ as_wide unit c)
first_read unit false [] u rest is = absurd (omega (arith, ap length is))
first_read unit false (c ∷ w) u rest is = let same : c ≡ u = cc in (c, w, refl, ap (width_in unit) (sym same))
