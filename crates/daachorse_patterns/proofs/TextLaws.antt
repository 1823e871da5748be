-- What a build reads of texts is what it reads of their registrations: folding goes text by text, and twice is once. So what stands as it is read has folded keys.
use Rattle.std.proofs.Common.{◌≡◌, ℕ, ◌⊎◌, Bool, true, false, List, [], ◌∷◌, map, refl, sym, ap, ◌∙◌, subst}
use Rattle.std.specs.Prelude.{Result}
use Rattle.std.proofs.lemmas.Simd.{map-map}
use Rattle.daachorse_core.specs.Refusals.{IsOutOfMemory}
use Rattle.daachorse_core.specs.declared.errors.DaachorseError.{DaachorseError}
use Rattle.daachorse_core.specs.declared.errors.DaachorseError.TheVariants.{InvalidConversion}
use Rattle.daachorse_model.specs.declared.MatchKind.{MatchKind}
use Rattle.daachorse_model.specs.Dictionary.{dictionary}
use Rattle.daachorse_model.specs.Folding.{folded, all_as_read, folded_texts, texts_as_read}
use Rattle.daachorse_model.specs.Prefixes.{IsKey}
use Rattle.daachorse_model.proofs.FoldLaws.{folded-again}
use Rattle.daachorse_patterns.specs.Building.{IsBuildRefusalWithin, Limits}
use Rattle.daachorse_patterns.specs.Patterns.{AreIndexed, HasNoValue}
use Rattle.daachorse_patterns.proofs.FoldingLaws.{folded_keys}
use Rattle.daachorse_patterns.proofs.IndexLaws.{AreIndexed-texts, values_refused}

module _ {V : Type 0} where
  first-folded : (rs : List (List ℕ × V)) → map (λ r. r.0) (texts_as_read true rs) ≡ map folded (map (λ r. r.0) rs)
  first-folded [] = refl
  first-folded (r ∷ rs) = ap (λ ws. folded r.0 ∷ ws) (first-folded rs)

  -- the texts of registrations as they are read
  pub first-as_read : (folds : Bool) (rs : List (List ℕ × V)) → map (λ r. r.0) (texts_as_read folds rs) ≡ all_as_read folds (map (λ r. r.0) rs)
  first-as_read true rs = first-folded rs
  first-as_read false rs = refl

  folded_texts-again : (rs : List (List ℕ × V)) → texts_as_read true (texts_as_read true rs) ≡ texts_as_read true rs
  folded_texts-again [] = refl
  folded_texts-again (r ∷ rs) = ap (λ w. (w, r.1) ∷ texts_as_read true (texts_as_read true rs)) (folded-again r.0) ∙ ap (λ l. (folded r.0, r.1) ∷ l) (folded_texts-again rs)

  pub texts_as_read-again : (folds : Bool) (rs : List (List ℕ × V)) → texts_as_read folds (texts_as_read folds rs) ≡ texts_as_read folds rs
  texts_as_read-again true rs = folded_texts-again rs
  texts_as_read-again false rs = refl

  -- what was read is read as it is
  pub read_stands : (folds : Bool) (rs read : List (List ℕ × V)) → read ≡ texts_as_read folds rs → texts_as_read folds read ≡ read
  read_stands folds rs read is = ap (texts_as_read folds) is ∙ texts_as_read-again folds rs ∙ sym is

  -- what is lent of folded copies was read, where texts are folded
  pub lent_read : (folds : Bool) (rs lent copies : List (List ℕ × V)) → folds ≡ true → lent ≡ copies → copies ≡ folded_texts rs → lent ≡ texts_as_read folds rs
  lent_read folds rs lent copies on lends copied = lends ∙ copied ∙ ap (λ f. texts_as_read f rs) (sym on)

  -- the keys of texts that stand as they are read are folded where texts are
  pub keys-as_read : (folds : Bool) (kind : MatchKind) (rs : List (List ℕ × V)) → texts_as_read folds rs ≡ rs → folds ≡ true → (k : List ℕ) → IsKey (dictionary kind rs) k → folded k ≡ k
  keys-as_read folds kind rs stands on k key =
      let P : List (List ℕ × V) → Type 0 = λ l. IsKey (dictionary kind l) k in
      let same : texts_as_read true rs ≡ rs = ap (λ f. texts_as_read f rs) (sym on) ∙ stands in
      folded_keys kind rs k (subst P (sym same) key)

module _ {V E : Type 0} (gives : ℕ → Result V E → Type 0) where
  -- texts as they are read have the values of the texts
  pub AreIndexed-as_read : (folds : Bool) (i : ℕ) (ts : List (List ℕ)) (rs : List (List ℕ × V)) → AreIndexed gives i ts rs → AreIndexed gives i (all_as_read folds ts) (texts_as_read folds rs)
  AreIndexed-as_read true i ts rs was = AreIndexed-texts gives folded i ts rs was
  AreIndexed-as_read false i ts rs was = was

  -- why the values are refused is why the build is, as it reads the texts
  pub values_refused-as_read : {P : Type 0} (folds : Bool) (units : P → List ℕ) (width : ℕ → ℕ) (limits : Limits) (kind : MatchKind) (ts : List P) (e : DaachorseError)
      → IsOutOfMemory e ⊎ ((e ≡ InvalidConversion (record {})) × HasNoValue gives ts) → IsBuildRefusalWithin gives width limits kind (all_as_read folds (map units ts)) e
  values_refused-as_read true units width limits kind ts e why =
      rw (map-map folded units ts) (values_refused gives (λ t. folded (units t)) width limits kind ts e why)
  values_refused-as_read false units width limits kind ts e why = values_refused gives units width limits kind ts e why
