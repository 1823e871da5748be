-- Items that are read as they are or folded: each is as wide as its item, so a source is ready for a search either way.
use Rattle.std.proofs.Common.{◌≡◌, ℕ, ◌+◌, ◌≤◌, Bool, true, false, List, [], ◌∷◌, ◌++◌, map, length, Option, Some, None, refl, sym, ap, ◌∙◌, subst, is_some, arith}
use Rattle.std.proofs.lemmas.List.{map-append}
use Rattle.std.specs.Iterator.{Count, MakesProgress, Yields, items_left}
use Rattle.daachorse_model.specs.Folding.{folded_unit, folded, as_read}
use Rattle.daachorse_model.specs.Units.{size}
use Rattle.daachorse_model.proofs.FoldLaws.{size-as_read, size-folded}
use Rattle.daachorse_haystack.specs.Readings.{GivesAsRead, MayReadAsRead, unit_as_read}
use Rattle.daachorse_haystack.specs.Sources.{IsReady}

-- the units that items are read as are the units of the items, as they are read
pub units-as_read : {U : Type 0} (folds : Bool) (unit : U → ℕ) (xs : List U) → map (unit_as_read folds unit) xs ≡ as_read folds (map unit xs)
units-as_read false unit xs = refl
units-as_read true unit [] = refl
units-as_read true unit (x ∷ xs) = ap (λ l. folded_unit (unit x) ∷ l) (units-as_read true unit xs)

-- whether a call makes progress depends on whether it gives an item, whatever the item is
pub MakesProgress-same : {S A B : Type 0} (can : S → Type 0) (left : S → Count) (s : S) (o : Option A) (r : Option B) (t : S) → is_some o ≡ is_some r → MakesProgress can left s o t → MakesProgress can left s r t
MakesProgress-same can left s None None t same p = record { on = p.on; keeps = p.keeps; rests = p.rests }
MakesProgress-same can left s None (Some y) t same p = cc
MakesProgress-same can left s (Some x) None t same p = cc
MakesProgress-same can left s (Some x) (Some y) t same p = record { on = p.on; keeps = p.keeps; rests = p.rests }

module _ {S U : Type 0} (fold : U → U) (unit : U → ℕ) (is_folded : (u : U) → unit (fold u) ≡ folded_unit (unit u)) (can : S → Type 0) (steps : S → Option U → S → Type 0) (left : S → Count) where
  -- a call took this item of the source, and gave it as it is read
  pub record Took (folds : Bool) (s : S) (u : U) (t : S) : Type 0 where
    pub item : U
    pub took : steps s (Some item) t
    pub goes : MakesProgress can left s (Some item) t
    pub is : unit u ≡ unit_as_read folds unit item

  pub took_as_read : (folds : Bool) (s : S) (u : U) (t : S) → GivesAsRead fold steps folds s (Some u) t → MakesProgress can left s (Some u) t → Took folds s u t
  took_as_read folds s u t (None, gave, is) goes = cc
  took_as_read true s u t (Some x, gave, is) goes =
      let same : u ≡ fold x = cc in
      record { item = x; took = gave; goes = MakesProgress-same can left s (Some u) (Some x) t refl goes; is = ap unit same ∙ is_folded x }
  took_as_read false s u t (Some x, gave, is) goes =
      let same : u ≡ x = cc in
      record { item = x; took = gave; goes = MakesProgress-same can left s (Some u) (Some x) t refl goes; is = ap unit same }

  -- the source ended
  pub ended_as_read : (folds : Bool) (s t : S) → GivesAsRead fold steps folds s None t → steps s None t
  ended_as_read folds s t (None, gave, is) = gave
  ended_as_read folds s t (Some x, gave, is) = cc

module _ {S U : Type 0} (can : S → Type 0) (steps : S → Option U → S → Type 0) (left : S → Count) (unit : U → ℕ) (width : ℕ → ℕ) (as_wide : (u : ℕ) → width (folded_unit u) ≡ width u) where
  as_large : (folds : Bool) (xs : List U) → size width (map (unit_as_read folds unit) xs) ≡ size width (map unit xs)
  as_large folds xs = ap (size width) (units-as_read folds unit xs) ∙ size-as_read width as_wide folds (map unit xs)

  pub IsReady-as_read : (folds : Bool) (s : S) (place : ℕ) → IsReady can steps left unit width s place → IsReady can steps left (unit_as_read folds unit) width s place
  IsReady-as_read folds s place ready = record {
    callable = ready.callable;
    ends = ready.ends;
    fits = λ xs rest run. omega (arith, ready.fits xs rest run, as_large folds xs);
  }

  pub IsReady-as_it_is : (folds : Bool) (s : S) (place : ℕ) → IsReady can steps left (unit_as_read folds unit) width s place → IsReady can steps left unit width s place
  IsReady-as_it_is folds s place ready = record {
    callable = ready.callable;
    ends = ready.ends;
    fits = λ xs rest run. omega (arith, ready.fits xs rest run, as_large folds xs);
  }

  module _ (may_read : S → List ℕ → Type 0) where
    pub MayReadAsRead-ready : ((s : S) (read : List ℕ) → may_read s read → IsReady can steps left unit width s (size width read))
        → (folds : Bool) (s : S) (read : List ℕ) → MayReadAsRead may_read folds s read → IsReady can steps left (unit_as_read folds unit) width s (size width read)
    MayReadAsRead-ready ready false s read may = ready s read may
    MayReadAsRead-ready ready true s read may =
        let P : ℕ → Type 0 = λ place. IsReady can steps left (unit_as_read true unit) width s place in
        subst P (sym (size-folded width as_wide may.0) ∙ ap (size width) may.2) (IsReady-as_read true s (size width may.0) (ready s may.0 may.1))

    pub MayReadAsRead-kept : ((s : S) (read : List ℕ) (xs : List U) (t : S) → may_read s read → Yields steps s xs t → length xs + items_left left t ≤ items_left left s
        → IsReady can steps left unit width t (size width (read ++ map unit xs)) → may_read t (read ++ map unit xs))
        → (folds : Bool) (s : S) (read : List ℕ) (xs : List U) (t : S) → MayReadAsRead may_read folds s read → Yields steps s xs t → length xs + items_left left t ≤ items_left left s
        → IsReady can steps left (unit_as_read folds unit) width t (size width (read ++ map (unit_as_read folds unit) xs)) → MayReadAsRead may_read folds t (read ++ map (unit_as_read folds unit) xs)
    MayReadAsRead-kept kept false s read xs t may took fewer ready = kept s read xs t may took fewer ready
    MayReadAsRead-kept kept true s read xs t may took fewer ready =
        let now : List ℕ = may.0 ++ map unit xs in
        let same : folded now ≡ read ++ map (unit_as_read true unit) xs =
        map-append folded_unit may.0 (map unit xs)
        ∙ ap (λ w. w ++ folded (map unit xs)) may.2
        ∙ ap (λ w. read ++ w) (sym (units-as_read true unit xs)) in
        let P : ℕ → Type 0 = λ place. IsReady can steps left unit width t place in
        let place : size width (read ++ map (unit_as_read true unit) xs) ≡ size width now = ap (size width) (sym same) ∙ size-folded width as_wide now in
        (now, kept s may.0 xs t may.1 took fewer (subst P place (IsReady-as_it_is true t (size width (read ++ map (unit_as_read true unit) xs)) ready)), same)
