-- A scan for the leftmost match, unit by unit: what it keeps of the units that it read.
use Rattle.std.specs.Prelude.{◌≡◌, ℕ, ◌+◌, ◌≤◌, Bool, true, false, cond, List, [], ◌++◌, length, Option, None, Some}
use Rattle.daachorse_model.specs.Units.{size}
use Rattle.daachorse_model.specs.Best.{IsBest, IsBestSoFar, IsSteady}
use Rattle.daachorse_search.specs.BestScans.{HasNoLongerKey, IsOutputOf}
use Rattle.daachorse_search.specs.Views.{AutomatonView}
use Rattle.daachorse_streams.specs.declared.scan.Pending.{Pending}
use Rattle.daachorse_streams.specs.declared.scan.Scan.{Scan}
use Rattle.daachorse_model.specs.Prefixes.{HasChild}

module _ {V : Type 0} (width : ℕ → ℕ) (view : AutomatonView V) where
  -- The best in w, which begins at a place, is pending, with the units `behind` after it. Where it is decided it stays the best, whatever follows; else the text t that the scan stands at has a child.
  pub record IsPending (from : ℕ) (w t : List ℕ) (at : Pending) (decided : Bool) (behind : List ℕ) : Type 0 where
    pub front : List ℕ
    pub key : List ℕ
    pub best : IsBest view.content w front key
    pub rest : behind ≡ best.rest
    pub ends : at.end ≡ from + size width (front ++ key)
    pub output : IsOutputOf width view at.position.value key
    pub final : decided ≡ true → (d : List ℕ) → IsBest view.content (w ++ d) front key
    pub child : decided ≡ false → HasChild view.content t
    pub near : (m : ℕ) → HasNoLongerKey view.content m → length w ≤ length front + m + 1

  -- that is so, or nothing occurs in w
  abbrev pub IsPendingSoFar : ℕ → List ℕ → List ℕ → Option Pending → Bool → List ℕ → Type 0
  IsPendingSoFar from w t None decided behind = IsBestSoFar view.content w None × (decided ≡ false) × (behind ≡ [])
  IsPendingSoFar from w t (Some at) decided behind = IsPending from w t at decided behind

  -- a scan that began at a place and read w, of which `behind` come after the best match
  pub record IsScan (from : ℕ) (w : List ℕ) (scan : Scan) (behind : List ℕ) : Type 0 where
    pub reached : view.reached scan.state
    pub place : scan.place ≡ from + size width w
    pub steady : scan.decided ≡ false → IsSteady view.content w (view.text scan.state)
    pub pending : IsPendingSoFar from w (view.text scan.state) scan.best scan.decided behind

module _ {V : Type 0} (view : AutomatonView V) where
  -- how many turns the links of the scan's state may still take
  abbrev pub depth : Scan → ℕ
  depth scan = cond scan.decided 0 (length (view.text scan.state))
