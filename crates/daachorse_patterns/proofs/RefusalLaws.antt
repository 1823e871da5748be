-- Why a step of a build refuses is why the build does.
use Rattle.std.proofs.Common.{◌≡◌, ℕ, ◌+◌, ◌<◌, ◌≤◌, List, [], ◌∷◌, ◌++◌, length, get_or, map, take, drop, Option, Some, None, refl, sym, ap, ◌∙◌, subst, arith}
use Rattle.std.specs.Prelude.{All, IfSome, IsSomeAnd}
use Rattle.std.proofs.lemmas.List.{drop_more, map_push, map-append, take-append-drop, take_more}
use Rattle.std.specs.declared.cmp.Ordering.{Ordering}
use Rattle.daachorse_core.specs.declared.errors.DaachorseError.{DaachorseError}
use Rattle.daachorse_core.specs.declared.errors.DaachorseError.TheVariants.{InvalidArgument, AutomatonScale, InvalidConversion, InvalidAutomaton, OutOfMemory}
use Rattle.daachorse_core.specs.declared.errors.Limit.{Limit}
use Rattle.daachorse_core.specs.declared.errors.Limit.TheVariants.{NumElements, Outputs, OutputPos, PatternValues, StateId}
use Rattle.daachorse_core.specs.Refusals.{IsRefusal}
use Rattle.daachorse_model.specs.declared.MatchKind.{MatchKind}
use Rattle.daachorse_model.specs.Dictionary.{dictionary, kept_registrations}
use Rattle.daachorse_model.specs.Units.{size}
use Rattle.daachorse_build.specs.declared.nfa_builder.NfaBuilder.{NfaBuilder}
use Rattle.daachorse_build.specs.Builders.{Registered, states_of, count_of, kind_of}
use Rattle.daachorse_build.specs.Holds.{HasMorePrefixes, in_units}
use Rattle.daachorse_build.proofs.Fitting.{enough}
use Rattle.daachorse_patterns.specs.Building.{Fit, IsPassed, IsRefusalWithin, Limits}
use Rattle.daachorse_patterns.specs.Patterns.{texts_of}
use Rattle.daachorse_patterns.specs.Prefixes.{HasMoreProperPrefixes}
use Rattle.daachorse_patterns.specs.Tries.{HasTexts}

-- ---- registrations
module _ {P V : Type 0} (units : P → List ℕ) (patterns : List (P × V)) (i : ℕ) (p : P × V) (inside : i < length patterns) (is : p ≡ get_or patterns i p) where
  -- one pattern more
  pub texts_more : texts_of units (take i patterns) ++ (units p.0, p.1) ∷ [] ≡ texts_of units (take (i + 1) patterns)
  texts_more =
      sym (map_push (λ x. (units x.0, x.1)) (take i patterns) p)
      ∙ ap (texts_of units) (ap (λ x. take i patterns ++ x ∷ []) is ∙ sym (take_more patterns i p inside))

  -- the registrations around one pattern
  pub texts_around : texts_of units patterns ≡ texts_of units (take i patterns) ++ (units p.0, p.1) ∷ texts_of units (drop (i + 1) patterns)
  texts_around =
      let rest : p ∷ drop (i + 1) patterns ≡ drop i patterns = ap (λ y. y ∷ drop (i + 1) patterns) is ∙ sym (drop_more patterns i p inside) in
      let parts : take i patterns ++ p ∷ drop (i + 1) patterns ≡ patterns = ap (λ z. take i patterns ++ z) rest ∙ take-append-drop i patterns in
      ap (texts_of units) (sym parts) ∙ map-append (λ x. (units x.0, x.1)) (take i patterns) (p ∷ drop (i + 1) patterns)

-- one text more, by its labels
units_more : {L V : Type 0} (unit : L → ℕ) (labels : List (List L × V)) (rs : List (List ℕ × V)) (x : List L) (text : List ℕ) (v : V) → in_units unit labels ≡ rs → map unit x ≡ text → in_units unit (labels ++ (x, v) ∷ []) ≡ rs ++ (text, v) ∷ []
units_more {L} {V} unit labels rs x text v is same =
    let f : List L × V → List ℕ × V = λ r. (map unit r.0, r.1) in
    map_push f labels (x, v) ∙ ap (λ l. l ++ (map unit x, v) ∷ []) is ∙ ap (λ y. rs ++ (y, v) ∷ []) same

module _ {L V A : Type 0} (cmp : L → L → Ordering) (unit : L → ℕ) (width : ℕ → ℕ) where
  pub HasTexts-push : (b d : NfaBuilder L V A) (rs : List (List ℕ × V)) (x : List L) (text : List ℕ) (v : V) → HasTexts cmp unit width b rs → map unit x ≡ text
      → ((labels : List (List L × V)) → Registered cmp unit width b labels → Registered cmp unit width d (labels ++ (x, v) ∷ [])) → HasTexts cmp unit width d (rs ++ (text, v) ∷ [])
  HasTexts-push b d rs x text v was same added = record {
    labels = was.labels ++ (x, v) ∷ [];
    registered = added was.labels was.registered;
    units = units_more unit was.labels rs x text v was.units same;
  }

  -- texts that were registered fit
  pub Fit-texts : (b : NfaBuilder L V A) (rs : List (List ℕ × V)) → HasTexts cmp unit width b rs → length (states_of b) ≤ 4294967296 → All (λ r. size width r.0 ≤ 4294967295) rs → Fit width (kind_of b) rs
  Fit-texts b rs was fits short = record {
    short = short;
    few = λ more.
        let P : List (List ℕ × V) → Type 0 = λ xs. HasMorePrefixes (dictionary (kind_of b) xs) 4294967295 in
        enough cmp unit width (kind_of b) (states_of b) was.labels was.registered.holds 4294967295 (omega (arith, fits)) (subst P (sym was.units) more);
  }

  -- as many patterns are kept as are counted
  pub HasTexts-count : (b : NfaBuilder L V A) (rs : List (List ℕ × V)) → HasTexts cmp unit width b rs → count_of b ≡ length (kept_registrations (kind_of b) rs)
  HasTexts-count b rs was = was.registered.count ∙ ap (λ xs. length (kept_registrations (kind_of b) xs)) was.units

  -- a pattern with which there are too many prefixes, by its texts
  pub prefixes_more : (b : NfaBuilder L V A) (rs : List (List ℕ × V)) (x : List L) (text : List ℕ) (v : V) → HasTexts cmp unit width b rs → map unit x ≡ text
      → ((labels : List (List L × V)) → Registered cmp unit width b labels → HasMorePrefixes (dictionary (kind_of b) (in_units unit (labels ++ (x, v) ∷ []))) 4294967295)
      → HasMorePrefixes (dictionary (kind_of b) (rs ++ (text, v) ∷ [])) 4294967295
  prefixes_more b rs x text v was same told =
      let P : List (List ℕ × V) → Type 0 = λ xs. HasMorePrefixes (dictionary (kind_of b) xs) 4294967295 in
      subst P (units_more unit was.labels rs x text v was.units same) (told was.labels was.registered)

-- ---- refusals
module _ {V : Type 0} (width : ℕ → ℕ) (limits : Limits) (kind : MatchKind) (all : List (List ℕ × V)) where
  -- why a pattern is refused is why the build is
  pub add_refused : (before after : List (List ℕ × V)) (text : List ℕ) (value : V) → all ≡ before ++ (text, value) ∷ after → Fit width kind before → (e : DaachorseError) (long passed : Type 0)
      → (long → 4294967295 < size width text) → (passed → (size width text ≤ 4294967295) × HasMorePrefixes (dictionary kind (before ++ (text, value) ∷ [])) 4294967295)
      → IsRefusal long StateId passed e → IsRefusalWithin width limits kind all e
  add_refused before after text value parts fit (InvalidArgument _) long passed much tells refused =
      (before, (text, value), record { after = after; parts = parts; fit = fit }, much refused)
  add_refused before after text value parts fit (AutomatonScale s) long passed much tells refused =
      let P : Limit → Type 0 = λ limit. IsPassed width limits kind all limit in
      let told = tells refused.1 in
      subst P (sym refused.0) (before, (text, value), record { after = after; parts = parts; fit = fit }, told.0, told.1)
  add_refused before after text value parts fit (InvalidConversion _) long passed much tells refused = absurd refused
  add_refused before after text value parts fit (InvalidAutomaton _) long passed much tells refused = absurd refused
  add_refused before after text value parts fit (OutOfMemory _) long passed much tells refused = tt

  -- more patterns are kept than may be, and all of them fit
  pub count_refused : (n : ℕ) (e : DaachorseError) → n ≡ length (kept_registrations kind all) → Fit width kind all → (e ≡ AutomatonScale (record { limit = PatternValues })) × IsSomeAnd limits.patterns (λ m. m < n) → IsRefusalWithin width limits kind all e
  count_refused n e count fit refused =
      let P : DaachorseError → Type 0 = λ x. IsRefusalWithin width limits kind all x in
      let Q : ℕ → Type 0 = λ k. IsSomeAnd limits.patterns (λ m. m < k) in
      subst P (sym refused.0) (fit, subst Q count refused.1)

  -- a build whose elements are made refuses for what it refuses for without them
  pub refused_before : (e : DaachorseError) → IsRefusalWithin width (record { patterns = limits.patterns; parents = None }) kind all e → IsRefusalWithin width limits kind all e
  refused_before (InvalidArgument _) refused = refused
  refused_before (AutomatonScale s) refused = go s.limit refused
    where
      go : (limit : Limit) → IsPassed width (record { patterns = limits.patterns; parents = None }) kind all limit → IsPassed width limits kind all limit
      go StateId passed = passed
      go PatternValues passed = passed
      go Outputs passed = passed
      go NumElements passed = absurd passed.2
      go OutputPos passed = absurd passed
  refused_before (InvalidConversion _) refused = absurd refused
  refused_before (InvalidAutomaton _) refused = absurd refused
  refused_before (OutOfMemory _) refused = tt

  -- why the elements are refused is why the build is
  pub elements_refused : Fit width kind all → IfSome limits.patterns (λ n. length (kept_registrations kind all) ≤ n) → (e : DaachorseError) (passed : Type 0) → (passed → IsSomeAnd limits.parents (λ n. HasMoreProperPrefixes (dictionary kind all) n)) → IsRefusal ⊥ NumElements passed e → IsRefusalWithin width limits kind all e
  elements_refused fit few (InvalidArgument _) passed tells refused = absurd refused
  elements_refused fit few (AutomatonScale s) passed tells refused =
      rw refused.0 (fit, few, tells refused.1)
  elements_refused fit few (InvalidConversion _) passed tells refused = absurd refused
  elements_refused fit few (InvalidAutomaton _) passed tells refused = absurd refused
  elements_refused fit few (OutOfMemory _) passed tells refused = tt

-- why the outputs are refused is why the build is: where the patterns have a limit of their own, there are no more outputs than patterns
pub outputs_refused : {V : Type 0} (width : ℕ → ℕ) (patterns parents : Option ℕ) (kind : MatchKind) (all : List (List ℕ × V)) → IfSome patterns (λ n. n ≤ 4294967295) → IfSome patterns (λ n. length (kept_registrations kind all) ≤ n) → Fit width kind all
    → (e : DaachorseError) (passed : Type 0) → (passed → 4294967295 < length (kept_registrations kind all)) → IsRefusal ⊥ Outputs passed e → IsRefusalWithin width (record { patterns = patterns; parents = parents }) kind all e
outputs_refused width patterns parents kind all low few fit (InvalidArgument _) passed tells refused = absurd refused
outputs_refused width None parents kind all low few fit (AutomatonScale s) passed tells refused =
    rw refused.0 (fit, refl, tells refused.1)
outputs_refused width (Some n) parents kind all low few fit (AutomatonScale s) passed tells refused =
    let many = tells refused.1 in absurd (omega (arith, low, few, many))
outputs_refused width patterns parents kind all low few fit (InvalidConversion _) passed tells refused = absurd refused
outputs_refused width patterns parents kind all low few fit (InvalidAutomaton _) passed tells refused = absurd refused
outputs_refused width patterns parents kind all low few fit (OutOfMemory _) passed tells refused = tt
