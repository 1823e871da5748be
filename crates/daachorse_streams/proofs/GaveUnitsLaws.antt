-- The units that a loop took from a source are those that its search read.
use Rattle.std.proofs.Common.{
  ◌≡◌,
  ℕ,
  ◌+◌,
  ◌<◌,
  ◌^◌,
  Bool,
  true,
  false,
  List,
  [],
  ◌∷◌,
  ◌++◌,
  length,
  map,
  Option,
  Some,
  refl,
  sym,
  ap,
  ◌∙◌,
  append-nil,
  arith,
}
use Rattle.std.proofs.lemmas.List.{map-append}
use Rattle.std.proofs.lemmas.Grind.{flat_map-append}
use Rattle.std.specs.Prelude.{flat_map}
use Rattle.std.specs.Iterator.{Count, MakesProgress, Yields}
use Rattle.daachorse_model.specs.Folding.{as_read, folded_unit}
use Rattle.daachorse_model.specs.Units.{size}
use Rattle.daachorse_model.proofs.FoldLaws.{as_read-append, size-as_read}
use Rattle.daachorse_haystack.specs.Sources.{IsReady}
use Rattle.daachorse_haystack.proofs.SourceLaws.{IsReady-more, IsReady-next, Yields_push}

-- a unit is as wide as it is read
pub sized_unit : {U : Type 0} (unit : U → ℕ) (form : U → List ℕ) (width : ℕ → ℕ) → ((u : ℕ) → width (folded_unit u) ≡ width u)
    → (folds : Bool) (u : U) → length (form u) ≡ width (unit u)
    → length (form u) ≡ size width (as_read folds (unit u ∷ []))
sized_unit unit form width as_wide folds u long = omega (arith, long, size-as_read width as_wide folds (unit u ∷ []))

-- the bytes of one unit more
pub form_more : {U : Type 0} (form : U → List ℕ) (units : List U) (u : U) → flat_map form (units ++ u ∷ []) ≡ flat_map form units ++ form u
form_more form units u = flat_map-append form units (u ∷ []) ∙ ap (λ l. flat_map form units ++ l) (append-nil (form u))

module _ {S U : Type 0} (can : S → Type 0) (steps : S → Option U → S → Type 0) (left : S → Count) (unit : U → ℕ) (width : ℕ → ℕ)
    (folds : Bool) (source : S) where
  -- the source gave these units, which were read, and stands at s
  pub record GaveUnits (units : List U) (read : List ℕ) (s : S) : Type 0 where
    pub took : Yields steps source units s
    pub ready : IsReady can steps left unit width s (size width (map unit units))
    pub is : read ≡ as_read folds (map unit units)

  pub gave-first : IsReady can steps left unit width source 0 → (read : List ℕ) → read ≡ [] → GaveUnits [] read source
  gave-first ready read none = record { took = refl; ready = ready; is = none ∙ nothing folds }
    where
      nothing : (b : Bool) → [] ≡ as_read b []
      nothing true = refl
      nothing false = refl

  module _ (as_wide : (u : ℕ) → width (folded_unit u) ≡ width u) {units : List U} {read : List ℕ} {s : S} (h : GaveUnits units read s) where
    -- the place behind the next unit fits
    pub gave-fits : (u : U) (t : S) → steps s (Some u) t → MakesProgress can left s (Some u) t → size width read + width (unit u) < 2 ^ 64
    gave-fits u t took goes =
        omega (
          arith,
          ap (size width) h.is,
          size-as_read width as_wide folds (map unit units),
          IsReady-next can steps left unit width s u t (size width (map unit units)) h.ready took goes,
        )

    -- one unit more
    pub gave-more : (u : U) (t : S) (after : List ℕ) → steps s (Some u) t → MakesProgress can left s (Some u) t
        → after ≡ read ++ as_read folds (unit u ∷ []) → GaveUnits (units ++ u ∷ []) after t
    gave-more u t after took goes reads =
        let pushed = map-append unit units (u ∷ []) in
        record {
          took = Yields_push steps source units s u t h.took took;
          ready = IsReady-more can steps left unit width s u t (map unit units) (map unit (units ++ u ∷ [])) h.ready took goes pushed;
          is = reads ∙ ap (λ l. l ++ as_read folds (unit u ∷ [])) h.is ∙ sym (as_read-append folds (map unit units) (unit u ∷ []))
              ∙ ap (as_read folds) (sym pushed);
        }
