-- What was copied from a reader with a text in place of each match.
use Rattle.std.proofs.Common.{ℕ, List, Option, Result, Ok, Err, subst}
use Rattle.std.specs.Prelude.{OnOk}
use Rattle.std.specs.Io.KnownBytes.{Appends}
use Rattle.std.specs.declared.io.Error.{Error}
use Rattle.daachorse_model.specs.declared.Match.{Match}
use Rattle.daachorse_model.specs.Dictionary.{Dictionary}
use Rattle.daachorse_streams.proofs.Appended.{IsReplaced-exact}
use Rattle.daachorse_uses.specs.Copies.{CopiesRead, IsCopiedWith, WritesText}

module _ {V O : Type 0} (K : Dictionary V) (known : Option (List ℕ)) (matches : List ℕ → List (Match V))
    (part : Option (List ℕ) → Option (List ℕ) → List ℕ → Type 0) (taken : O → Option (List ℕ)) (text : Match V → List ℕ) where
  -- with no error it is the text's copy, to its end
  pub copied : (r : Result (Unit {0}) Error) (old new : O) → CopiesRead K known matches part taken text r old new
      → OnOk r (IsCopiedWith known matches text (taken old) (taken new))
  copied (Ok x) old new h = record {
    bytes = h.units;
    all = h.all;
    copied = IsReplaced-exact (λ s. s.now) taken h.units (WritesText part taken text) text
        (λ f m was is g may.
        subst (λ o. Appends (taken was) (taken o) (text m)) may.5 (subst (λ o. Appends (taken o) (taken may.2.now) (text m)) may.4 may.6))
        (matches h.units) tt old new h.replaced;
  }
  copied (Err e) old new h = tt
