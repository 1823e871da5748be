-- What each kind means: each of the three computes.
use Rattle.std.proofs.Common.{◌≡◌, ℕ, true, false, List, [], refl}
use Rattle.daachorse_model.specs.declared.MatchKind.{MatchKind}
use Rattle.daachorse_model.specs.declared.MatchKind.TheVariants.{Standard, LeftmostLongest, LeftmostFirst}
use Rattle.daachorse_model.specs.Kinds.{is_leftmost_first}
use Rattle.daachorse_model.specs.Dictionary.{kept_registrations, without_extensions}

-- only `LeftmostFirst` drops registrations
pub kept_registrations-first : {V : Type 0} (kind : MatchKind) (rs : List (List ℕ × V)) → is_leftmost_first kind ≡ true → kept_registrations kind rs ≡ without_extensions [] rs
kept_registrations-first Standard rs e = cc
kept_registrations-first LeftmostLongest rs e = cc
kept_registrations-first LeftmostFirst rs e = refl

pub kept_registrations-all : {V : Type 0} (kind : MatchKind) (rs : List (List ℕ × V)) → is_leftmost_first kind ≡ false → kept_registrations kind rs ≡ rs
kept_registrations-all Standard rs e = refl
kept_registrations-all LeftmostLongest rs e = refl
kept_registrations-all LeftmostFirst rs e = cc
