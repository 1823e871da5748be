-- What is certain is one list, and it grows.
use Rattle.std.proofs.Common.{◌≡◌, ℕ, List, [], ◌∷◌, ◌++◌, length, sym, ap, ◌∙◌, append_assoc, append-nil, length-append, arith}
use Rattle.daachorse_model.specs.declared.Match.{Match}
use Rattle.daachorse_model.specs.Dictionary.{Dictionary}
use Rattle.daachorse_model.specs.Leftmost.{leftmost}
use Rattle.daachorse_model.specs.Certain.{AreCertain}

-- two lists that begin each other
begin_each_other : {A : Type 0} (xs ys r s : List A) → xs ≡ ys ++ r → ys ≡ xs ++ s → xs ≡ ys
begin_each_other xs ys [] s p q = p ∙ append-nil ys
begin_each_other xs ys (m ∷ r) s p q = absurd (omega (arith, ap length p, ap length q, length-append ys (m ∷ r), length-append xs s))

module _ {V : Type 0} (width : ℕ → ℕ) (K : Dictionary V) where
  pub certain_one : (c : List ℕ) (ms ns : List (Match V)) → AreCertain width K c ms → AreCertain width K c ns → ms ≡ ns
  certain_one c ms ns a b =
      let p = a.1 ns b.0 in
      let q = b.1 ms a.0 in
      begin_each_other ms ns p.0 q.0 p.1 q.1

  pub certain_begins : (c : List ℕ) (ms : List (Match V)) → AreCertain width K c ms → (rest : List (Match V)) × (leftmost width K c ≡ ms ++ rest)
  certain_begins c ms a = ((a.0 []).0, sym (ap (leftmost width K) (append-nil c)) ∙ (a.0 []).1)

  pub certain_grows : (c d : List ℕ) (ms ns : List (Match V)) → AreCertain width K c ms → AreCertain width K (c ++ d) ns → (rest : List (Match V)) × (ns ≡ ms ++ rest)
  certain_grows c d ms ns a b = b.1 ms (λ e. ((a.0 (d ++ e)).0, ap (leftmost width K) (append_assoc c d e) ∙ (a.0 (d ++ e)).1))
