-- Items with the values of their indexes, one by one, and by their texts.
use Rattle.std.proofs.Common.{◌≡◌, ℕ, ◌+◌, ◌⊎◌, List, [], ◌∷◌, ◌++◌, length, map, refl, sym, ap, ◌∙◌, subst, arith, inl, inr}
use Rattle.std.specs.Prelude.{Result, Ok}
use Rattle.std.proofs.lemmas.List.{length-map}
use Rattle.daachorse_core.specs.Refusals.{IsOutOfMemory}
use Rattle.daachorse_core.specs.declared.errors.DaachorseError.{DaachorseError}
use Rattle.daachorse_core.specs.declared.errors.DaachorseError.TheVariants.{InvalidArgument, AutomatonScale, InvalidConversion, InvalidAutomaton, OutOfMemory}
use Rattle.daachorse_model.specs.declared.MatchKind.{MatchKind}
use Rattle.daachorse_patterns.specs.Building.{IsBuildRefusalWithin, IsRefusalWithin, Limits}
use Rattle.daachorse_patterns.specs.Patterns.{AreIndexed, HasNoValue, texts_of}

module _ {V E : Type 0} (gives : ℕ → Result V E → Type 0) where
  -- one item more
  pub AreIndexed-push : {T : Type 0} (i j : ℕ) (ts : List T) (rs : List (T × V)) (t : T) (v : V) → AreIndexed gives i ts rs → j ≡ i + length ts → gives j (Ok v) → AreIndexed gives i (ts ++ t ∷ []) (rs ++ (t, v) ∷ [])
  AreIndexed-push i j [] [] t v was at value = let P : ℕ → Type 0 = λ n. gives n (Ok v) in (refl, subst P (omega (arith, at)) value, tt)
  AreIndexed-push i j [] (r ∷ rs) t v was at value = absurd was
  AreIndexed-push i j (x ∷ ts) [] t v was at value = absurd was
  AreIndexed-push i j (x ∷ ts) (r ∷ rs) t v was at value = (was.0, was.1, AreIndexed-push (i + 1) j ts rs t v was.2 (omega (arith, at)) value)

  -- the texts of items have the values of the items
  pub AreIndexed-texts : {P : Type 0} (units : P → List ℕ) (i : ℕ) (ts : List P) (rs : List (P × V)) → AreIndexed gives i ts rs → AreIndexed gives i (map units ts) (texts_of units rs)
  AreIndexed-texts units i [] [] was = tt
  AreIndexed-texts units i [] (r ∷ rs) was = absurd was
  AreIndexed-texts units i (t ∷ ts) [] was = absurd was
  AreIndexed-texts units i (t ∷ ts) (r ∷ rs) was = (ap units was.0, was.1, AreIndexed-texts units (i + 1) ts rs was.2)

  -- what the items are with their values
  pub AreIndexed-map : {P T : Type 0} (f : P → T) (i : ℕ) (ts : List P) (rs : List (P × V)) → AreIndexed gives i ts rs → map (λ r. f r.0) rs ≡ map f ts
  AreIndexed-map f i [] [] was = refl
  AreIndexed-map f i [] (r ∷ rs) was = absurd was
  AreIndexed-map f i (t ∷ ts) [] was = absurd was
  AreIndexed-map f i (t ∷ ts) (r ∷ rs) was = ap (λ x. f x ∷ map (λ r. f r.0) rs) was.0 ∙ ap (λ l. f t ∷ l) (AreIndexed-map f (i + 1) ts rs was.2)

  -- why the values are refused is why the build is
  pub values_refused : {P : Type 0} (units : P → List ℕ) (width : ℕ → ℕ) (limits : Limits) (kind : MatchKind) (ts : List P) (e : DaachorseError) → IsOutOfMemory e ⊎ ((e ≡ InvalidConversion (record {})) × HasNoValue gives ts) → IsBuildRefusalWithin gives width limits kind (map units ts) e
  values_refused units width limits kind ts e (inl memory) =
      let P : DaachorseError → Type 0 = λ x. IsBuildRefusalWithin gives width limits kind (map units ts) x in subst P (sym memory) tt
  values_refused units width limits kind ts e (inr (is, none)) =
      rw is (none.0, none.1, omega (arith, none.2, length-map ts units), none.3)

  -- a refusal of patterns with the values of their indexes is one of the build
  pub refused_build : (width : ℕ → ℕ) (limits : Limits) (kind : MatchKind) (texts : List (List ℕ)) (rs : List (List ℕ × V)) → AreIndexed gives 0 texts rs → (e : DaachorseError) → IsRefusalWithin width limits kind rs e → IsBuildRefusalWithin gives width limits kind texts e
  refused_build width limits kind texts rs indexed (InvalidArgument _) refused = (rs, indexed, refused)
  refused_build width limits kind texts rs indexed (AutomatonScale _) refused = (rs, indexed, refused)
  refused_build width limits kind texts rs indexed (InvalidConversion _) refused = absurd refused
  refused_build width limits kind texts rs indexed (InvalidAutomaton _) refused = absurd refused
  refused_build width limits kind texts rs indexed (OutOfMemory _) refused = tt
