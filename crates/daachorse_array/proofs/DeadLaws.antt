-- No text has a dead link where the searches are standard; where they are leftmost the dead texts are those of the dictionary.
use Rattle.std.proofs.Common.{◌≡◌, ◌≢◌, ℕ, Bool, true, false, List, refl, sym, subst}
use Rattle.daachorse_model.specs.declared.MatchKind.{MatchKind}
use Rattle.daachorse_model.specs.declared.MatchKind.TheVariants.{Standard, LeftmostLongest, LeftmostFirst}
use Rattle.daachorse_model.specs.Kinds.{is_leftmost}
use Rattle.daachorse_model.specs.Best.{IsLeftmost}
use Rattle.daachorse_array.specs.Machines.{Machine, content, dead_in}

-- a kind is standard, or one of the leftmost
pub kind_standard : (kind : MatchKind) → is_leftmost kind ≡ false → kind ≡ Standard
kind_standard Standard is = refl
kind_standard LeftmostLongest is = absurd (cc)
kind_standard LeftmostFirst is = absurd (cc)

pub leftmost_kind : (kind : MatchKind) → kind ≢ Standard → is_leftmost kind ≡ true
leftmost_kind Standard other = absurd (other refl)
leftmost_kind LeftmostLongest other = refl
leftmost_kind LeftmostFirst other = refl

module _ {V : Type 0} (width : ℕ → ℕ) (a : Machine V) (kind : MatchKind) where
  pub none_dead : kind ≡ Standard → (w : List ℕ) → ¬ dead_in width a (is_leftmost kind) w
  none_dead standard w d = let D : MatchKind → Type 0 = λ k. dead_in width a (is_leftmost k) w in subst D standard d

  pub dead_leftmost : kind ≢ Standard → IsLeftmost (content width a) (dead_in width a (is_leftmost kind))
  dead_leftmost other w =
      let to : Bool → Type 0 = λ b. dead_in width a b w in
      let is = leftmost_kind kind other in
      (λ d. subst to is d, λ d. subst to (sym is) d)
