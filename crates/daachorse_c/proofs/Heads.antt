-- A list of matches that begins with one.
use Rattle.std.proofs.Common.{◌≡◌, List, [], ◌∷◌}
use Rattle.daachorse_model.specs.declared.Match.{Match}

module _ {V : Type 0} where
  pub heads : (x m : Match V) (xs ms : List (Match V)) → x ∷ xs ≡ m ∷ ms → x ≡ m
  heads x m xs ms e = cc

  pub tails : (x m : Match V) (xs ms : List (Match V)) → x ∷ xs ≡ m ∷ ms → xs ≡ ms
  tails x m xs ms e = cc

  pub no_match : (m : Match V) (ms : List (Match V)) → [] ≡ m ∷ ms → ⊥
  no_match m ms e = cc
