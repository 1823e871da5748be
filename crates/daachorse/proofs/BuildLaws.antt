-- From the trie of all patterns and the codes of their characters to what the states are built of, and why that is refused.
use Rattle.std.proofs.Common.{◌≡◌, ◌≤◌, ℕ, List, [], length, ◌∷◌, map, refl, ap, subst, inl, inr}
use Rattle.std.specs.Prelude.{IsTrue, Result}
use Rattle.std.specs.Borrow.{Bor}
use Rattle.std.specs.List.{AllByRecursion}
use Rattle.std.specs.Str.{all_scalars, chars}
use Rattle.daachorse_core.specs.declared.errors.DaachorseError.{DaachorseError}
use Rattle.daachorse_core.specs.declared.errors.DaachorseError.TheVariants.{InvalidArgument, AutomatonScale, InvalidConversion, InvalidAutomaton, OutOfMemory}
use Rattle.daachorse_core.specs.declared.errors.Limit.TheVariants.{NumElements}
use Rattle.daachorse_core.specs.Refusals.{IsRefusal}
use Rattle.daachorse_model.specs.declared.MatchKind.{MatchKind}
use Rattle.daachorse_model.specs.Dictionary.{dictionary, kept_registrations}
use Rattle.daachorse_model.specs.Units.{char_width}
use Rattle.daachorse_charwise_states.specs.Codings.{Coding, IsCodingOf}
use Rattle.daachorse_patterns.specs.Building.{Fit}
use Rattle.daachorse_patterns.specs.Patterns.{AreIndexed}
use Rattle.daachorse_patterns.proofs.IndexLaws.{refused_build}
use Rattle.daachorse_charwise_states.specs.Packing.{AreCoded, NeedsManyBlocks}
use Rattle.daachorse.specs.charwise.Building.{AreCodesOf, IsBuildRefusal, IsRefusalOf, char_limits, registrations_of_strings}
use Rattle.daachorse.specs.charwise.Frequencies.{AreFrequencies}
use Rattle.daachorse.proofs.CodedLaws.{coded}
use Rattle.daachorse.proofs.TextLaws.{registered_scalars}

texts_in : {V : Type 0} (patterns : List (Bor (List ℕ) × V)) → map (λ p. chars p.0.now) patterns ≡ map (λ r. r.0) (registrations_of_strings patterns)
texts_in [] = refl
texts_in (p ∷ patterns) = ap (λ texts. chars p.0.now ∷ texts) (texts_in patterns)

-- the codes are those of the characters of the patterns
module _ {V : Type 0} (patterns : List (Bor (List ℕ) × V)) (freqs : List ℕ) (coding : Coding) (counted : AreFrequencies (map (λ p. chars p.0.now) patterns) freqs) (codes : IsCodingOf freqs coding) where
  counted_texts : AreFrequencies (map (λ r. r.0) (registrations_of_strings patterns)) freqs
  counted_texts = let P : List (List ℕ) → Type 0 = λ texts. AreFrequencies texts freqs in subst P (texts_in patterns) counted

  pub codes_of : AreCodesOf (map (λ r. r.0) (registrations_of_strings patterns)) coding
  codes_of = (freqs, counted_texts, codes)

  pub coded_keys : AllByRecursion (λ p. IsTrue (all_scalars (chars p.0.now))) patterns → (kind : MatchKind) → AreCoded coding (dictionary kind (registrations_of_strings patterns))
  coded_keys texts kind = coded kind (registrations_of_strings patterns) freqs coding (registered_scalars patterns texts) counted_texts codes

-- the elements run out, or memory does
pub elements_refused : {V : Type 0} (kind : MatchKind) (rs : List (List ℕ × V)) (coding : Coding) → Fit char_width kind rs → length (kept_registrations kind rs) ≤ 4294967295 → AreCodesOf (map (λ r. r.0) rs) coding
    → (e : DaachorseError) (many : Type 0) → (many → NeedsManyBlocks coding (dictionary kind rs)) → IsRefusal ⊥ NumElements many e → IsRefusalOf kind rs e
elements_refused kind rs coding fit few codes (InvalidArgument _) many needs refused = absurd refused
elements_refused kind rs coding fit few codes (AutomatonScale s) many needs refused =
    inr (record { limit = ap (λ l. AutomatonScale (record { limit = l })) refused.0; fit = fit; outputs = few; coding = coding; codes = codes; blocks = needs refused.1 })
elements_refused kind rs coding fit few codes (InvalidConversion _) many needs refused = absurd refused
elements_refused kind rs coding fit few codes (InvalidAutomaton _) many needs refused = absurd refused
elements_refused kind rs coding fit few codes (OutOfMemory _) many needs refused = inl tt

-- a refusal of patterns with the values of their indexes is one of the texts
pub refused_with_values : {V E : Type 0} (gives : ℕ → Result V E → Type 0) (kind : MatchKind) (texts : List (List ℕ)) (rs : List (List ℕ × V)) → AreIndexed gives 0 texts rs
    → (e : DaachorseError) → IsRefusalOf kind rs e → IsBuildRefusal gives kind texts e
refused_with_values gives kind texts rs indexed e (inl refused) = inl (refused_build gives char_width char_limits kind texts rs indexed e refused)
refused_with_values gives kind texts rs indexed e (inr out) = inr (rs, indexed, out)
