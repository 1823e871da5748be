-- Links of leftmost searches, where some states stop. For a standard search no state stops.
use Rattle.std.specs.Prelude.{◌≡◌, ℕ, Bool, false, ◌||◌, ◌⊎◌, cond, map, List, [], ◌∷◌, Option, Some, None, option_map, unwrap_or}
use Rattle.daachorse_model.specs.Dictionary.{Dictionary}
use Rattle.daachorse_model.specs.Prefixes.{IsLink, IsDead}
use Rattle.daachorse_model.specs.Paths.{is_reached, Leads}

module _ {A : Type 0} (child : ℕ → A → Option ℕ) (stops : ℕ → Bool) where
  -- whether the walk of w from s comes to a state that stops
  abbrev pub meets : ℕ → List A → Bool
  meets s [] = stops s
  meets s (c ∷ w) = stops s || unwrap_or (option_map (λ t. meets t w) (child s c)) false

  -- whether the walk of w from s comes to a state that stops, before its end
  abbrev pub meets_early : ℕ → List A → Bool
  meets_early s [] = false
  meets_early s (c ∷ w) = stops s || unwrap_or (option_map (λ t. meets_early t w) (child s c)) false

  -- the longest end of w that is the text of a state, or `None` where the walk from an earlier place comes to a state that stops
  abbrev pub long_unless_stop : List A → Option (List A)
  long_unless_stop [] = Some []
  long_unless_stop (c ∷ w) = cond (is_reached child (c ∷ w)) (Some (c ∷ w)) (cond (meets 0 (c ∷ w)) None (long_unless_stop w))

  -- the leftmost link of c ∷ w: `None` where it is dead
  abbrev pub left_link : A → List A → Option (List A)
  left_link c w = cond (meets 0 (c ∷ w)) None (long_unless_stop w)

-- f is the state of that text, and the dead state where there is none
abbrev pub IsStateOf : {A : Type 0} → (ℕ → A → Option ℕ) → Option (List A) → ℕ → Type 0
IsStateOf child None f = f ≡ 1
IsStateOf child (Some x) f = Leads child x f

-- f is the leftmost link of t
abbrev pub IsLeftFailOf : {A : Type 0} → (ℕ → A → Option ℕ) → (ℕ → Bool) → ℕ → ℕ → Type 0
IsLeftFailOf {A} child stops t f = (c : A) (w : List A) → Leads child (c ∷ w) t → IsStateOf child (left_link child stops c w) f

-- The link f of the text w is dead just where that of the dictionary K is; else it is the state of that link.
abbrev pub LinksLeft : {L V : Type 0} → Dictionary V → (L → ℕ) → (ℕ → L → Option ℕ) → List L → ℕ → Type 0
LinksLeft {L} K unit child w f =
    ((f ≡ 1) × IsDead K (map unit w)) ⊎ ((s : List L) × Leads child s f × IsLink K (map unit w) (map unit s) × (¬ IsDead K (map unit w)))
