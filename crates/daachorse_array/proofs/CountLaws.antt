-- A text that leads to an element is shorter than the number of texts that do, since its beginnings are such texts.
use Rattle.std.proofs.Common.{◌≡◌, ℕ, suc, ◌<◌, Bool, List, length, take, drop, get_or, Option, sym, ap, ◌∙◌, arith}
use Rattle.std.specs.Prelude.{Contains}
use Rattle.std.proofs.lemmas.List.{take-append-drop, get_or_default}
use Rattle.daachorse_model.specs.Paths.{walk, is_reached, Leads}
use Rattle.daachorse_model.specs.Prefixes.{PassesAt, HasPrefixes}
use Rattle.daachorse_array.specs.Machines.{Machine, IsMachine, IsCounted, content}
use Rattle.daachorse_array.proofs.MachineLaws.{fore, back}
use Rattle.daachorse_array.proofs.PathLaws.{takes_fit, walk-split, reached_element}

-- the texts that lead to an element of a right machine are the prefixes of its keys
pub counted-prefixes : {V : Type 0} (width : ℕ → ℕ) (a : Machine V) (leftmost : Bool) (n m k : ℕ) → IsMachine width a leftmost n m
    → IsCounted a k → HasPrefixes (content width a) k
counted-prefixes width a leftmost n m k h counted = record {
  texts = counted.texts;
  distinct = counted.distinct;
  exactly = λ w. (
    λ p. (counted.exactly w).0 (back width a leftmost n m h w p),
    λ c. fore width a leftmost n m h w ((counted.exactly w).1 c),
  );
  count = counted.count;
}

module _ (child : ℕ → ℕ → Option ℕ) (n : ℕ) (counted : PassesAt (is_reached child) n) where
  pub shorter-counted : (w : List ℕ) (i : ℕ) → Leads child w i → length w < n
  shorter-counted w i e = takes_fit n w (λ k. (at k).0) below same
    where
      at : (k : ℕ) → Contains counted.texts (take k w)
      at k =
          let halves = walk-split child 0 i (take k w) (drop k w) (ap (λ v. walk child 0 v) (take-append-drop k w) ∙ e) in
          (counted.exactly (take k w)).0 (reached_element child (take k w) halves.0 halves.1)

      below : (k : ℕ) → k < suc (length w) → (at k).0 < n
      below k h = omega (arith, (at k).1, counted.count)

      same : (j k : ℕ) → (at j).0 ≡ (at k).0 → take j w ≡ take k w
      same j k e =
          let left : get_or counted.texts (at j).0 (take j w) ≡ take j w = (at j).2 in
          let right : get_or counted.texts (at k).0 (take k w) ≡ take k w = (at k).2 in
          sym left ∙ (get_or_default counted.texts (at j).0 (take j w) (take k w) (at j).1
          ∙ (ap (λ q. get_or counted.texts q (take k w)) e ∙ right))
