-- A filter that passes at each text that was shown to it passes at each key, since each key is the text of a registration.
use Rattle.std.proofs.Common.{◌≡◌, ◌≢◌, ℕ, true, List, [], ◌∷◌, ◌++◌, map, Option, Some, None, refl, ap}
use Rattle.std.specs.Prelude.{All, IfSome}
use Rattle.std.proofs.lemmas.List.Elements.{All-cons, All-head, All-nil, All-tail, recursion_from_All}
use Rattle.daachorse_model.specs.declared.MatchKind.{MatchKind}
use Rattle.daachorse_model.specs.Dictionary.{dictionary}
use Rattle.daachorse_build.proofs.KeyTexts.{of_key}
use Rattle.daachorse_patterns.specs.Patterns.{texts_of}
use Rattle.daachorse_prefilter.specs.Filters.{Filter, PassesAtPatterns, PassesKeys, admits}

module _ {V : Type 0} where
  -- the texts of registrations, in bytes
  abbrev pub words : (List ℕ → List ℕ) → List (List ℕ × V) → List (List ℕ)
  words spell rs = map spell (map (λ r. r.0) rs)

  pub words-push : (spell : List ℕ → List ℕ) (rs : List (List ℕ × V)) (r : List ℕ × V) → words spell (rs ++ r ∷ []) ≡ words spell rs ++ spell r.0 ∷ []
  words-push spell [] r = refl
  words-push spell (q ∷ rs) r = ap (λ ws. spell q.0 ∷ ws) (words-push spell rs r)

  -- what holds of each registered text holds of each key
  pub key_holds : (Q : List ℕ → Type 0) (kind : MatchKind) (rs : List (List ℕ × V)) → All (λ r. Q r.0) rs → (w : List ℕ) → dictionary kind rs w ≢ [] → Q w
  key_holds Q kind rs all = of_key Q kind rs (recursion_from_All (λ r. Q r.0) rs all)

  each_word : (P : List ℕ → Type 0) (spell : List ℕ → List ℕ) (rs : List (List ℕ × V)) → All P (words spell rs) → All (λ r. P (spell r.0)) rs
  each_word P spell [] all = All-nil (λ r. P (spell r.0))
  each_word P spell (r ∷ rs) all =
      All-cons (λ r. P (spell r.0)) r rs (All-head P (spell r.0) (words spell rs) all) (each_word P spell rs (All-tail P (spell r.0) (words spell rs) all))

  -- the filter passes at each key
  pub sound_passes : (spell : List ℕ → List ℕ) (rs : List (List ℕ × V)) (filter : Option Filter) → IfSome filter (λ f. PassesAtPatterns f (words spell rs)) → (kind : MatchKind) → PassesKeys spell (dictionary kind rs) filter
  sound_passes spell rs None sound kind = tt
  sound_passes spell rs (Some f) sound kind = λ k key. key_holds (λ w. admits f (spell w) ≡ true) kind rs (each_word (λ p. admits f p ≡ true) spell rs sound) k key

-- the texts of patterns with values
pub texts-first : {P V : Type 0} (units : P → List ℕ) (ps : List (P × V)) → map (λ r. r.0) (texts_of units ps) ≡ map (λ p. units p.0) ps
texts-first units [] = refl
texts-first units (p ∷ ps) = ap (λ ws. units p.0 ∷ ws) (texts-first units ps)
