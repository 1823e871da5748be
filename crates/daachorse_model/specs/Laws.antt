-- What the lists of matches promise, in the words of the subject.
use Rattle.std.specs.Prelude.{◌≡◌, ◌≢◌, ℕ, Bool, ◌+◌, ◌≤◌, List, [], ◌∷◌, ◌++◌, length, Contains, ⊤, Some, find, map, slice_get}
use Rattle.daachorse_model.specs.declared.Match.{Match}
use Rattle.daachorse_model.specs.Units.{size}
use Rattle.daachorse_model.specs.Folding.{as_read}
use Rattle.daachorse_model.specs.Dictionary.{Dictionary, is_prefix}
use Rattle.daachorse_model.specs.Matches.{shifted}
use Rattle.daachorse_model.specs.Prefixes.{IsKey}

-- the haystack has a key where the match says, and the match has one of its values
pub record IsOccurrence {V : Type 0} (width : ℕ → ℕ) (K : Dictionary V) (h : List ℕ) (m : Match V) : Type 0 where
  pub before : List ℕ
  pub key : List ℕ
  pub after : List ℕ
  pub splits : h ≡ before ++ (key ++ after)
  pub starts : m.start ≡ size width before
  pub ends : m.end ≡ size width before + size width key
  pub has : Contains (K key) m.value

-- the match is an occurrence in the haystack as it is read, and the part of the haystack there is the key as it is read
pub record IsReadOccurrence {V : Type 0} (folds : Bool) (width : ℕ → ℕ) (K : Dictionary V) (h : List ℕ) (m : Match V) : Type 0 where
  pub occurs : IsOccurrence width K (as_read folds h) m
  pub before : List ℕ
  pub part : List ℕ
  pub after : List ℕ
  pub splits : h ≡ before ++ (part ++ after)
  pub front : as_read folds before ≡ occurs.before
  pub key : as_read folds part ≡ occurs.key

-- the value was registered for a text that is w as it is read
pub record IsRegistered {V : Type 0} (folds : Bool) (patterns : List (List ℕ × V)) (w : List ℕ) (v : V) : Type 0 where
  pub text : List ℕ
  pub reads : as_read folds text ≡ w
  pub given : Contains patterns (text, v)

-- no match starts before the one before it ends, the first not before s; none ends before it starts
abbrev pub Follows : {V : Type 0} → ℕ → List (Match V) → Type 0
Follows s [] = ⊤
Follows s (m ∷ ms) = (s ≤ m.start) × (m.start ≤ m.end) × Follows m.end ms

-- the match is the longest key that occurs at its start, with the first value of that key
pub record IsLongestAtStart {V : Type 0} (width : ℕ → ℕ) (K : Dictionary V) (h : List ℕ) (m : Match V) : Type 0 where
  pub before : List ℕ
  pub key : List ℕ
  pub after : List ℕ
  pub splits : h ≡ before ++ (key ++ after)
  pub starts : m.start ≡ size width before
  pub ends : m.end ≡ m.start + size width key
  pub value : slice_get (K key) 0 ≡ Some m.value
  pub longest : (k rest : List ℕ) → key ++ after ≡ k ++ rest → K k ≢ [] → length k ≤ length key

-- the match is the earliest registration whose text occurs at its start
pub record IsEarliestAtStart {V : Type 0} (width : ℕ → ℕ) (registrations : List (List ℕ × V)) (h : List ℕ) (m : Match V) : Type 0 where
  pub before : List ℕ
  pub rest : List ℕ
  pub key : List ℕ
  pub splits : h ≡ before ++ rest
  pub starts : m.start ≡ size width before
  pub earliest : find (λ r. is_prefix r.0 rest) registrations ≡ Some (key, m.value)
  pub ends : m.end ≡ m.start + size width key

-- the unit stands in no key
abbrev pub StandsInNoKey : {V : Type 0} → Dictionary V → ℕ → Type 0
StandsInNoKey K u = (k : List ℕ) → IsKey K k → ¬ Contains k u

-- the unit cuts each haystack: what is found is what is found before it, and then what is found behind it, shifted to where that begins
abbrev pub IsCutBy : {V : Type 0} → (ℕ → ℕ) → (List ℕ → List (Match V)) → ℕ → Type 0
IsCutBy width found u = (front back : List ℕ) → found (front ++ u ∷ back) ≡ found front ++ map (shifted (size width (front ++ u ∷ []))) (found back)
