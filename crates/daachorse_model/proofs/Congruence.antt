-- Dictionaries that give each text the same values are one dictionary, so all that is said of one holds of the other.
use Rattle.std.proofs.Common.{◌≡◌, ℕ, List, subst}
use Rattle.daachorse_model.specs.Dictionary.{Dictionary}

module _ {V : Type 0} (K L : Dictionary V) (same : (w : List ℕ) → K w ≡ L w) where
  pub dictionary-same : K ≡ L
  dictionary-same = λ i. λ w. same w i

  -- a fact of the one is a fact of the other: that a text is a prefix of a key, that an end is the longest, an output chain
  pub carry : (P : Dictionary V → Type 0) → P K → P L
  carry P p = subst P dictionary-same p
