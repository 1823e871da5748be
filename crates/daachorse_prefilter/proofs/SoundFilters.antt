-- A filter that passes at each key is sound for the dictionary with a test that is, over bytes and over characters.
use Rattle.std.proofs.Common.{◌≡◌, ℕ, Bool, List, ◌++◌, Option, Some, None, refl}
use Rattle.std.proofs.lemmas.Str.{encodes-append}
use Rattle.std.specs.Prelude.{encode_utf8_all}
use Rattle.daachorse_model.specs.Dictionary.{Dictionary}
use Rattle.daachorse_prefilter.specs.Filters.{Filter, PassesKeys, admits}
use Rattle.daachorse_prefilter.proofs.KeyLaws.{passes_before}
use Rattle.daachorse_prefilter.proofs.PlaceLaws.{both_pass}
use Rattle.daachorse_haystack.specs.Filters.{IsSoundFor}
use Rattle.daachorse_prefilter.specs.Asked.{lets_pass}
use Rattle.daachorse_prefilter.specs.Buckets.{may_begin}

module _ {V : Type 0} (K : Dictionary V) where
  -- of what passes at each beginning, both the test and the filter do
  pub sound_tested : (tested : List ℕ → Bool) (spell : List ℕ → List ℕ) (filter : Option Filter) → IsSoundFor (λ w. tested (spell w)) K → IsSoundFor (λ w. lets_pass (may_begin None) filter (spell w)) K → IsSoundFor (λ w. lets_pass tested filter (spell w)) K
  sound_tested tested spell None first second = λ key rest is_key. refl
  sound_tested tested spell (Some f) first second = λ key rest is_key. both_pass (tested (spell (key ++ rest))) (admits f (spell (key ++ rest))) (first key rest is_key) (second key rest is_key)

  sound_for : (spell : List ℕ → List ℕ) → ((v w : List ℕ) → spell (v ++ w) ≡ spell v ++ spell w) → (filter : Option Filter) → PassesKeys spell K filter → IsSoundFor (λ w. lets_pass (may_begin None) filter (spell w)) K
  sound_for spell joined None passes = λ key rest is_key. refl
  sound_for spell joined (Some f) passes = passes_before spell joined K f passes

  pub sound_bytes : (filter : Option Filter) → PassesKeys (λ w. w) K filter → IsSoundFor (λ w. lets_pass (may_begin None) filter w) K
  sound_bytes filter passes = sound_for (λ w. w) (λ v w. refl) filter passes

  pub sound_chars : (filter : Option Filter) → PassesKeys encode_utf8_all K filter → IsSoundFor (λ w. lets_pass (may_begin None) filter (encode_utf8_all w)) K
  sound_chars filter passes = sound_for encode_utf8_all encodes-append filter passes
