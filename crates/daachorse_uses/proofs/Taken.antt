-- The bytes that a source took from its reader are a beginning of those that the reader had, or all of them.
use Rattle.std.proofs.Common.{◌≡◌, ℕ, List, [], ◌∷◌, ◌++◌, Option, Some, None, ap, ◌∙◌, subst, append-nil}
use Rattle.std.specs.Prelude.{IfSome}
use Rattle.std.specs.Io.KnownBytes.{Consumes, IsAtEnd}
use Rattle.std.specs.Iterator.{Yields}
use Rattle.std.proofs.KnownBytes.{Consumes-nil, Consumes-trans}
use Rattle.daachorse_search.specs.Readers.{GivesByte, Reading, to_give, to_read}

-- what was taken is a beginning of what was known
some_taken : (a b : Option (List ℕ)) (text : List ℕ) → Consumes a b text → IfSome a (λ all. (rest : List ℕ) × (all ≡ text ++ rest))
some_taken None b text took = tt
some_taken (Some xs) None text took = absurd took
some_taken (Some xs) (Some ys) text took = (ys, took)

-- what was taken to the end is all of it
all_taken : (a b : Option (List ℕ)) (text : List ℕ) → Consumes a b text → IsAtEnd b → IfSome a (λ all. all ≡ text)
all_taken None b text took ends = tt
all_taken (Some xs) None text took ends = absurd took
all_taken (Some xs) (Some ys) text took ends = took ∙ ap (λ l. text ++ l) ends ∙ append-nil text

module _ {R : Type 0} (known : R → Option (List ℕ)) where
  taken : (s : Reading R) (bytes : List ℕ) (t : Reading R) → Yields (GivesByte known) s bytes t
      → Consumes (to_give known s) (to_give known t) bytes
  taken s [] t same = subst (λ (x : Reading R). Consumes (to_give known s) (to_give known x) []) same (Consumes-nil (to_give known s))
  taken s (b ∷ bytes) t (j, gave, run) =
      Consumes-trans (to_give known s) (to_give known j) (to_give known t) (b ∷ []) bytes gave.0 (taken j bytes t run)

  module _ (reader : R) (left : Option (List ℕ)) (s : Reading R) (fresh : s ≡ to_read reader) (same : known reader ≡ left)
      (bytes : List ℕ) (t : Reading R) (run : Yields (GivesByte known) s bytes t) where
    was : to_give known s ≡ left
    was = ap (λ (x : Reading R). to_give known x) fresh ∙ same

    pub some_read : IfSome left (λ all. (rest : List ℕ) × (all ≡ bytes ++ rest))
    some_read =
        subst (λ o. IfSome o (λ all. (rest : List ℕ) × (all ≡ bytes ++ rest))) was
        (some_taken (to_give known s) (to_give known t) bytes (taken s bytes t run))

    pub all_read : (u : Reading R) → GivesByte known t None u → u.failure ≡ None → IfSome left (λ all. all ≡ bytes)
    all_read u ends whole =
        subst (λ o. IfSome o (λ all. all ≡ bytes)) was
        (all_taken (to_give known s) (to_give known t) bytes (taken s bytes t run) (ends.3 whole))
