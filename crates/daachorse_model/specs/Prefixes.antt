-- The prefixes of the keys: the states of an Aho-Corasick automaton, its failure links, its listing.
use Rattle.std.specs.Prelude.{◌≡◌, ◌≢◌, ◌⊎◌, ◌↔◌, ℕ, ◌+◌, ◌<◌, ◌≤◌, Bool, true, false, cond, IsTrue, List, [], ◌∷◌, ◌++◌, length, Option, Some, None, Contains, IsSortedByKey, flat_map, nat_eq}
use Rattle.std.specs.List.{IsDistinct, list_any, starts_with}
use Rattle.std.specs.Cmp.Lexicographic.{slice_cmp}
use Rattle.std.specs.Ordering.{nat_cmp}
use Rattle.std.specs.declared.cmp.Ordering.TheVariants.{Greater}
use Rattle.daachorse_model.specs.Units.{same_text}
use Rattle.daachorse_model.specs.Dictionary.{Dictionary, values_of}

-- s is an end of w
abbrev pub IsSuffix : List ℕ → List ℕ → Type 0
IsSuffix s w = (front : List ℕ) × (front ++ s ≡ w)

-- exactly n texts pass
pub record PassesAt (P : List ℕ → Bool) (n : ℕ) : Type 0 where
  pub texts : List (List ℕ)
  pub distinct : IsDistinct same_text texts
  pub exactly : (w : List ℕ) → IsTrue (P w) ↔ Contains texts w
  pub count : length texts ≡ n

module _ {V : Type 0} (K : Dictionary V) where
  -- w has a value
  abbrev pub IsKey : List ℕ → Type 0
  IsKey w = K w ≢ []

  -- w is empty or begins a key
  abbrev pub IsPrefix : List ℕ → Type 0
  IsPrefix w = (w ≡ []) ⊎ ((x : List ℕ) × IsKey (w ++ x))

  -- with some unit behind it w begins a key
  abbrev pub HasChild : List ℕ → Type 0
  HasChild w = (u : ℕ) × IsPrefix (w ++ u ∷ [])

  -- exactly n texts are prefixes of keys
  pub record HasPrefixes (n : ℕ) : Type 0 where
    pub texts : List (List ℕ)
    pub distinct : IsDistinct same_text texts
    pub exactly : (w : List ℕ) → IsPrefix w ↔ Contains texts w
    pub count : length texts ≡ n

  -- s is the longest end of w that is a prefix of a key: the state after w
  pub record IsLong (w s : List ℕ) : Type 0 where
    pub ends : IsSuffix s w
    pub begins : IsPrefix s
    pub longest : (t : List ℕ) → IsSuffix t w → IsPrefix t → length t ≤ length s

  -- s is the failure link of w: the longest end of w that is a prefix of a key and is not w
  pub record IsLink (w s : List ℕ) : Type 0 where
    pub ends : IsSuffix s w
    pub shorter : length s < length w
    pub begins : IsPrefix s
    pub longest : (t : List ℕ) → IsSuffix t w → length t < length w → IsPrefix t → length t ≤ length s

  -- the key k stands in w after a, with b behind it
  pub record Occurs (w a k b : List ℕ) : Type 0 where
    pub parts : w ≡ a ++ (k ++ b)
    pub key : IsKey k

  -- some key occurs in w and starts before its end s does
  abbrev pub StartsBefore : List ℕ → List ℕ → Type 0
  StartsBefore w s = (a : List ℕ) × (k : List ℕ) × (b : List ℕ) × Occurs w a k b × (length a + length s < length w)

  -- the failure link of w is dead: a key occurs in w and starts before the link does
  abbrev pub IsDead : List ℕ → Type 0
  IsDead w = (s : List ℕ) × IsLink w s × StartsBefore w s

  -- the leftmost failure link: `None` where it is dead
  abbrev pub IsLeftFail : List ℕ → Option (List ℕ) → Type 0
  IsLeftFail w None = IsDead w
  IsLeftFail w (Some s) = IsLink w s × ¬ StartsBefore w s

  -- the state of a leftmost search after w: its longest end, or the root where a key starts before that end
  abbrev pub IsCut : List ℕ → List ℕ → Type 0
  IsCut w c = (IsLong w c × ¬ StartsBefore w c) ⊎ ((c ≡ []) × ((s : List ℕ) → IsLong w s → StartsBefore w s))

  -- the keys in byte order, each with its values in order
  pub record IsListing (entries : List (List ℕ × V)) : Type 0 where
    pub sorted : IsSortedByKey (λ r. r.0) (slice_cmp nat_cmp) entries
    pub same : (w : List ℕ) → values_of entries w ≡ K w

-- The same as functions, for a test `known` that says which texts are prefixes of keys.

-- the longest end of w that is known
abbrev pub long : {A : Type 0} → (List A → Bool) → List A → List A
long known [] = []
long known (u ∷ w) = cond (known (u ∷ w)) (u ∷ w) (long known w)

-- the failure link of u ∷ w
abbrev pub link : (List ℕ → Bool) → List ℕ → List ℕ
link known [] = []
link known (u ∷ w) = long known w

module _ {V : Type 0} (K : Dictionary V) where
  -- w has a value
  abbrev pub is_key : List ℕ → Bool
  is_key w = elim (K w) [ [] ↦ false | _ ∷ _ ↦ true ]

  -- a key begins w, where t was read before it
  abbrev pub key_begins : List ℕ → List ℕ → Bool
  key_begins t [] = is_key t
  key_begins t (u ∷ w) = cond (is_key t) true (key_begins (t ++ u ∷ []) w)

  -- the longest known end of w, or `None` where a key begins before it
  abbrev pub long_unless_key : (List ℕ → Bool) → List ℕ → Option (List ℕ)
  long_unless_key known [] = Some []
  long_unless_key known (u ∷ w) =
      cond (known (u ∷ w)) (Some (u ∷ w)) (cond (key_begins [] (u ∷ w)) None (long_unless_key known w))

  -- the leftmost failure link of a known text: `None` where it is dead
  abbrev pub left_fail : (List ℕ → Bool) → List ℕ → Option (List ℕ)
  left_fail known [] = Some []
  left_fail known (u ∷ w) = cond (key_begins [] (u ∷ w)) None (long_unless_key known w)

  -- the state of a leftmost search after w
  abbrev pub cut : (List ℕ → Bool) → List ℕ → List ℕ
  cut known w = elim (long_unless_key known w) [ Some l ↦ l | None ↦ [] ]

-- the beginnings of t ++ w that are longer than t
abbrev pub fronts : List ℕ → List ℕ → List (List ℕ)
fronts t [] = []
fronts t (u ∷ w) = (t ++ u ∷ []) ∷ fronts (t ++ u ∷ []) w

-- each text once
abbrev pub each_once : List (List ℕ) → List (List ℕ)
each_once [] = []
each_once (w ∷ ws) = let rest = each_once ws in cond (list_any (same_text w) rest) rest (w ∷ rest)

module _ {V : Type 0} where
  -- w begins the text of a registration, or is empty
  abbrev pub begins_entry : List (List ℕ × V) → List ℕ → Bool
  begins_entry rs [] = true
  begins_entry rs (u ∷ w) = list_any (λ r. starts_with nat_eq r.0 (u ∷ w)) rs

  -- the prefixes of the registered texts, each once: as many as `num_states` says
  abbrev pub prefixes : List (List ℕ × V) → List (List ℕ)
  prefixes rs = each_once ([] ∷ flat_map (λ r. fronts [] r.0) rs)

  -- the entry before the first whose text comes after its own
  abbrev pub insert_entry : List ℕ × V → List (List ℕ × V) → List (List ℕ × V)
  insert_entry r [] = r ∷ []
  insert_entry r (q ∷ qs) = elim (slice_cmp nat_cmp r.0 q.0) [ Greater ↦ q ∷ insert_entry r qs | _ ↦ r ∷ q ∷ qs ]

  -- the registrations in byte order of their texts, equal ones as they were registered
  abbrev pub listing : List (List ℕ × V) → List (List ℕ × V)
  listing [] = []
  listing (r ∷ rs) = insert_entry r (listing rs)
