-- What the patterns mean: from the list of registrations to a map from texts to values.
use Rattle.std.specs.Prelude.{map, encode_utf8_all, ℕ, Bool, true, false, ◌&&◌, cond, ◌==◌, List, [], ◌∷◌}
use Rattle.std.specs.Borrow.{Bor}
use Rattle.std.specs.List.{list_any}
use Rattle.daachorse_model.specs.declared.MatchKind.{MatchKind}
use Rattle.daachorse_model.specs.declared.MatchKind.TheVariants.{Standard, LeftmostLongest, LeftmostFirst}
use Rattle.daachorse_model.specs.Units.{same_text}

-- p is a beginning of w
abbrev pub is_prefix : List ℕ → List ℕ → Bool
is_prefix [] w = true
is_prefix (a ∷ p) [] = false
is_prefix (a ∷ p) (u ∷ w) = a == u && is_prefix p w

-- p is a beginning of w, and shorter
abbrev pub is_proper_prefix : List ℕ → List ℕ → Bool
is_proper_prefix p [] = false
is_proper_prefix [] (u ∷ w) = true
is_proper_prefix (a ∷ p) (u ∷ w) = a == u && is_proper_prefix p w

module _ {V : Type 0} where
  -- the registrations, less each whose text has a proper prefix among the texts before it
  abbrev pub without_extensions : List (List ℕ) → List (List ℕ × V) → List (List ℕ × V)
  without_extensions before [] = []
  without_extensions before (r ∷ rs) =
      let rest = without_extensions (r.0 ∷ before) rs in
      cond (list_any (λ p. is_proper_prefix p r.0) before) rest (r ∷ rest)

  -- the registrations that count: under `LeftmostFirst` none that extends an earlier text
  abbrev pub kept_registrations : MatchKind → List (List ℕ × V) → List (List ℕ × V)
  kept_registrations Standard rs = rs
  kept_registrations LeftmostLongest rs = rs
  kept_registrations LeftmostFirst rs = without_extensions [] rs

  -- the values of a text, in order of registration; none where it is no key
  abbrev pub values_of : List (List ℕ × V) → List ℕ → List V
  values_of [] w = []
  values_of (r ∷ rs) w = cond (same_text r.0 w) (r.1 ∷ values_of rs w) (values_of rs w)

-- the registrations that a slice of patterns and values stands for
abbrev pub registrations_of : {V : Type 0} → List (Bor (List ℕ) × V) → List (List ℕ × V)
registrations_of patterns = map (λ p. (p.0.now, p.1)) patterns

-- the registrations of texts as registrations of their UTF-8
abbrev pub in_bytes : {V : Type 0} → List (List ℕ × V) → List (List ℕ × V)
in_bytes rs = map (λ r. (encode_utf8_all r.0, r.1)) rs

-- a dictionary: the values of each text, and none where it is no key
abbrev pub Dictionary : Type 0 → Type 0
Dictionary V = List ℕ → List V

-- the dictionary that a build makes of its registrations
abbrev pub dictionary : {V : Type 0} → MatchKind → List (List ℕ × V) → Dictionary V
dictionary kind rs = values_of (kept_registrations kind rs)
