-- Each character of a pattern occurs in the patterns, so it has a frequency and a code.
use Rattle.std.proofs.Common.{◌≡◌, ◌≢◌, ℕ, ◌+◌, ◌<◌, ◌≤◌, Bool, true, false, cond, List, [], ◌∷◌, ◌++◌, map, refl, ap, ◌∙◌, arith}
use Rattle.std.specs.Prelude.{IsTrue, is_some, nat_eq, count_by, slice_index}
use Rattle.std.specs.List.{list_any}
use Rattle.std.specs.Str.{all_scalars}
use Rattle.std.proofs.lemmas.Bool.{eq-eqb}
use Rattle.std.proofs.lemmas.Slice.Eq.{bytes_eq-Decides}
use Rattle.daachorse_model.specs.declared.MatchKind.{MatchKind}
use Rattle.daachorse_model.specs.declared.MatchKind.TheVariants.{Standard, LeftmostLongest, LeftmostFirst}
use Rattle.daachorse_model.specs.Dictionary.{dictionary, is_proper_prefix, kept_registrations, values_of, without_extensions}
use Rattle.daachorse_model.specs.Units.{same_text}
use Rattle.daachorse_charwise_states.specs.Codings.{Coding, IsCodingOf}
use Rattle.daachorse_patterns.proofs.Keys.{of_key}
use Rattle.daachorse_charwise_states.specs.Packing.{AreCoded}
use Rattle.daachorse_charwise_states.specs.Texts.{AreTexts}
use Rattle.daachorse_charwise_states.proofs.Codes.{char_code-of}
use Rattle.daachorse.specs.charwise.Frequencies.{AreFrequencies, concatenation}
use Rattle.daachorse.proofs.CountLaws.{count-append}
use Rattle.daachorse.proofs.TextLaws.{scalar_in}

-- how often u is in a text, and in the texts of registrations
abbrev often : ℕ → List ℕ → ℕ
often u w = count_by (nat_eq u) w

module _ {V : Type 0} (u : ℕ) where
  abbrev in_all : List (List ℕ × V) → ℕ
  in_all rs = often u (concatenation (map (λ r. r.0) rs))

  -- the first text is one of all
  in_first : (r : List ℕ × V) (rs : List (List ℕ × V)) → in_all (r ∷ rs) ≡ often u r.0 + in_all rs
  in_first r rs = count-append u r.0 (concatenation (map (λ r. r.0) rs))

  -- registrations that are left out take characters away, and bring none
  without_fewer : (before : List (List ℕ)) (rs : List (List ℕ × V)) → in_all (without_extensions before rs) ≤ in_all rs
  without_fewer before [] = omega arith
  without_fewer before (r ∷ rs) = go (list_any (λ p. is_proper_prefix p r.0) before) (without_fewer (r.0 ∷ before) rs)
    where
      go : (b : Bool) → in_all (without_extensions (r.0 ∷ before) rs) ≤ in_all rs
          → in_all (cond b (without_extensions (r.0 ∷ before) rs) (r ∷ without_extensions (r.0 ∷ before) rs)) ≤ in_all (r ∷ rs)
      go true fewer = omega (arith, fewer, in_first r rs)
      go false fewer = omega (arith, fewer, in_first r rs, in_first r (without_extensions (r.0 ∷ before) rs))

  kept_fewer : (kind : MatchKind) (rs : List (List ℕ × V)) → in_all (kept_registrations kind rs) ≤ in_all rs
  kept_fewer Standard rs = omega arith
  kept_fewer LeftmostLongest rs = omega arith
  kept_fewer LeftmostFirst rs = without_fewer [] rs

  -- a key is one of the texts
  key_among : (rs : List (List ℕ × V)) (w : List ℕ) → values_of rs w ≢ [] → often u w ≤ in_all rs
  key_among [] w key = absurd (key refl)
  key_among (r ∷ rs) w key = go (same_text r.0 w) refl (key_among rs w) key
    where
      go : (b : Bool) → same_text r.0 w ≡ b → (values_of rs w ≢ [] → often u w ≤ in_all rs) → cond b (r.1 ∷ values_of rs w) (values_of rs w) ≢ [] → often u w ≤ in_all (r ∷ rs)
      go true is rest key = let same : often u r.0 ≡ often u w = ap (often u) ((bytes_eq-Decides r.0 w).0 is) in omega (arith, same, in_first r rs)
      go false is rest key = omega (arith, rest key, in_first r rs)

-- each unit of a key is a character that has a code, where the patterns are texts and the codes are those of their characters
pub coded : {V : Type 0} (kind : MatchKind) (rs : List (List ℕ × V)) (freqs : List ℕ) (coding : Coding) → AreTexts rs → AreFrequencies (map (λ r. r.0) rs) freqs → IsCodingOf freqs coding → AreCoded coding (dictionary kind rs)
coded {V} kind rs freqs coding texts counted codes v w u key =
    let character = scalar_in v w u (of_key (λ t. IsTrue (all_scalars t)) kind rs texts (v ++ u ∷ w) key) in
    let among = key_among u (kept_registrations kind rs) (v ++ u ∷ w) key in
    let fewer = kept_fewer u kind rs in
    let here = count-append u v (u ∷ w) in
    let self : often u (u ∷ []) ≡ 1 = ap (λ b. 0 + cond b 1 0) (eq-eqb u u refl) in
    let one : often u (u ∷ w) ≡ often u (u ∷ []) + often u w = count-append u (u ∷ []) w in
    let some : 0 < slice_index freqs u = omega (arith, counted.counts u, among, fewer, here, one, self) in
    ap is_some (char_code-of coding u character) ∙ (codes.coded u).1 some
