-- A scan for the leftmost match from one place of a haystack: what it answers.
use Rattle.std.specs.Prelude.{◌≡◌, ℕ, ◌+◌, ◌*◌, ◌≤◌, ◌<◌, Bool, true, false, List, [], ◌∷◌, ◌++◌, length, take, count_by, Option, None, Some, IfSome}
use Rattle.std.specs.declared.num.NonZeroU32.{NonZeroU32}
use Rattle.daachorse_model.specs.Units.{size}
use Rattle.daachorse_model.specs.Dictionary.{Dictionary}
use Rattle.daachorse_model.specs.Prefixes.{IsCut, IsKey}
use Rattle.daachorse_model.specs.Best.{IsBest, IsBestSoFar, IsSteady, NoneStarts}
use Rattle.daachorse_search.specs.declared.best.Scanned.{Scanned}
use Rattle.daachorse_search.specs.declared.best.Scanned.TheVariants.{Best, Clear}
use Rattle.daachorse_search.specs.Views.{AutomatonView}

-- no key has more than m units
abbrev pub HasNoLongerKey : {V : Type 0} → Dictionary V → ℕ → Type 0
HasNoLongerKey K m = (k : List ℕ) → IsKey K k → length k ≤ m

-- a leftmost search is not at the root behind any of the first units of the text, up to n of them
abbrev pub PendsBefore : {V : Type 0} → Dictionary V → ℕ → List ℕ → Type 0
PendsBefore K n text = (k : ℕ) → 0 < k → k < n → ¬ IsCut K (take k text) []

module _ {V : Type 0} (width : ℕ → ℕ) (view : AutomatonView V) where
  -- the outputs from the position on begin with the first value of the key
  pub record IsOutputOf (position : ℕ) (key : List ℕ) : Type 0 where
    pub place : view.has_output position
    pub value : V
    pub others : List V
    pub more : List (V × ℕ)
    pub has : view.content key ≡ value ∷ others
    pub first : view.outputs position ≡ (value, size width key) ∷ more

  -- The best in `text` is the key `key` after `front`. The scan took no turn for a unit that lies further past its start than a key is long, and one more.
  pub record IsTheBest (text : List ℕ) (position end before turns : ℕ) : Type 0 where
    pub front : List ℕ
    pub key : List ℕ
    pub best : IsBest view.content text front key
    pub ends : end ≡ size width (front ++ key)
    pub output : IsOutputOf position key
    pub most : turns ≤ before + 2 * length text
    pub near : (m : ℕ) → HasNoLongerKey view.content m → turns ≤ before + 2 * (length front + m + 1)
    pub least : before + count_by view.has_label (front ++ key) ≤ turns
    pub first : before + count_by view.has_label (take 1 text) ≤ turns

  -- Nothing starts in the units of `text` before `rest`: in the first of them, and in all where the scan may not stop. Where it may, it does so the first time that it is at the root.
  pub record IsClear (text : List ℕ) (may_stop : Bool) (end before turns : ℕ) : Type 0 where
    pub front : List ℕ
    pub rest : List ℕ
    pub parts : text ≡ front ++ rest
    pub none : NoneStarts view.content (length front) text
    pub no_empty : view.content [] ≡ []
    pub ends : end ≡ size width front
    pub some : 0 < length text → 0 < length front
    pub all : may_stop ≡ false → rest ≡ []
    pub first_root : may_stop ≡ true → PendsBefore view.content (length front) text
    pub most : turns ≤ before + 2 * length front
    pub least : before + count_by view.has_label front ≤ turns

  abbrev pub IsBestScan : List ℕ → Bool → ℕ → ℕ → Scanned → Type 0
  IsBestScan text may_stop before turns (Best found) = IsTheBest text found.position.value found.end before turns
  IsBestScan text may_stop before turns (Clear end) = IsClear text may_stop end before turns

  -- the best in w ends where so many bytes of `text` are to come, and its output is at this position
  pub record IsFound (text w : List ℕ) (m : ℕ × ℕ) : Type 0 where
    pub front : List ℕ
    pub key : List ℕ
    pub best : IsBest view.content w front key
    pub ends : size width text ≡ size width (front ++ key) + m.1
    pub output : IsOutputOf m.0 key

  -- that is so, or nothing occurs in w
  abbrev pub IsFoundSoFar : List ℕ → List ℕ → Option (ℕ × ℕ) → Type 0
  IsFoundSoFar text w None = IsBestSoFar view.content w None
  IsFoundSoFar text w (Some m) = IsFound text w m

  -- a scan of `text` that has read all but `left`, and stands at a state with the text t
  pub record IsScanning (text left t : List ℕ) (best : Option (ℕ × ℕ)) (before turns : ℕ) : Type 0 where
    pub seen : List ℕ
    pub parts : text ≡ seen ++ left
    pub steady : IsSteady view.content seen t
    pub found : IsFoundSoFar text seen best
    pub counted : turns + length t ≤ before + 2 * length seen
    pub least : before + count_by view.has_label seen ≤ turns

  -- The scan of `text` read all but `left`: to the end of the match that ends first, at a state with the text t, or as far as nothing starts.
  pub record ScansToMatch (text left t : List ℕ) (may_stop : Bool) (position : Option NonZeroU32) (before turns : ℕ) : Type 0 where
    pub fewer : size width left ≤ size width text
    pub some : IfSome position (λ p. IsScanning text left t (Some (p.value, size width left)) before turns)
    pub none : position ≡ None → (end : ℕ) → end + size width left ≡ size width text → IsClear text may_stop end before turns
