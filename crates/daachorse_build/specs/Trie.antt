-- A trie by what a label leads to from a state. State 0 is the root, and 1 is no state of the trie.
use Rattle.std.specs.Prelude.{◌≡◌, ◌≢◌, ℕ, ◌<◌, List, ◌∷◌, map, Option, Some}
use Rattle.daachorse_model.specs.Dictionary.{Dictionary}
use Rattle.daachorse_model.specs.Paths.{is_reached, Leads}
use Rattle.daachorse_model.specs.Prefixes.{IsLink, long}

-- n states, each but 0 and 1 the child of exactly one state, by exactly one label
pub record IsTrie {A : Type 0} (child : ℕ → A → Option ℕ) (n : ℕ) : Type 0 where
  pub two : 1 < n
  pub bounds : (s : ℕ) (c : A) (t : ℕ) → child s c ≡ Some t → (s < t) × (s ≢ 1) × (1 < t) × (t < n)
  pub one_parent : (s : ℕ) (c : A) (s' : ℕ) (c' : A) (t : ℕ) → child s c ≡ Some t → child s' c' ≡ Some t → (s ≡ s') × (c ≡ c')
  pub reached : (t : ℕ) → 1 < t → t < n → (s : ℕ) × (c : A) × (child s c ≡ Some t)

-- f is the state of the longest proper suffix of the text of t that is the text of a state
abbrev pub IsFailOf : {A : Type 0} → (ℕ → A → Option ℕ) → ℕ → ℕ → Type 0
IsFailOf {A} child t f = (c : A) (w : List A) → Leads child (c ∷ w) t → Leads child (long (is_reached child) w) f

-- f is the state of the link that the dictionary K has at the text w
abbrev pub LinksTo : {L V : Type 0} → Dictionary V → (L → ℕ) → (ℕ → L → Option ℕ) → List L → ℕ → Type 0
LinksTo {L} K unit child w f = (s : List L) × Leads child s f × IsLink K (map unit w) (map unit s)
