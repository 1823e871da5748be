-- Items read one by one: those so far are taken of the bytes, and then what is left.
use Rattle.std.proofs.Common.{◌≡◌, ℕ, zero, suc, ◌<◌, List, [], ◌∷◌, ◌++◌, Some, None, refl, ap, sym, ◌∙◌, arith}
use Rattle.daachorse_core.specs.declared.errors.DaachorseError.{DaachorseError}
use Rattle.daachorse_core.specs.declared.errors.DaachorseError.TheVariants.{InvalidArgument, AutomatonScale, InvalidConversion, InvalidAutomaton, OutOfMemory}
use Rattle.daachorse_serializer.specs.Forms.{Taken, Refuses, over, take_items, then_take}
use Rattle.daachorse_serializer.specs.Laws.{over_is_some, then_take_is_some}

module _ {X : Type 0} (t : List ℕ → Taken X) where
  pub no_items : (bytes : List ℕ) → take_items t 0 bytes ≡ Some ([], bytes)
  unfolding take_items
  no_items bytes = refl

  -- one more is taken of what is left
  pub next_item : (n : ℕ) (bytes rest after : List ℕ) (xs : List X) (x : X) → take_items t n bytes ≡ Some (xs, rest) → t rest ≡ Some (x, after)
      → take_items t (suc n) bytes ≡ Some (xs ++ x ∷ [], after)
  unfolding take_items
  next_item zero bytes rest after xs x e h =
      let pair : ([], bytes) ≡ (xs, rest) = cc in
      let none : [] ≡ xs = ap (λ (q : List X × List ℕ). q.0) pair in
      let same : bytes ≡ rest = ap (λ (q : List X × List ℕ). q.1) pair in
      ap (λ b. then_take (t b) (λ y mid. Some (y ∷ [], mid))) same ∙ (ap (λ r. then_take r (λ y mid. Some (y ∷ [], mid))) h ∙ ap (λ zs. Some (zs ++ x ∷ [], after)) none)
  next_item (suc n) bytes rest after xs x e h =
      let first = then_take_is_some (t bytes) (λ y mid. over (λ ys. y ∷ ys) (take_items t n mid)) xs rest e in
      let later = over_is_some (λ ys. first.0 ∷ ys) (take_items t n first.1.0) xs rest first.1.1.1 in
      let whole : Some (first.0 ∷ later.0, rest) ≡ Some (xs, rest) = sym (ap (over (λ ys. first.0 ∷ ys)) later.1) ∙ first.1.1.1 in
      let pair : (first.0 ∷ later.0, rest) ≡ (xs, rest) = cc in
      let same : first.0 ∷ later.0 ≡ xs = ap (λ (q : List X × List ℕ). q.0) pair in
      ap (λ r. then_take r (λ y mid. over (λ ys. y ∷ ys) (take_items t (suc n) mid))) first.1.1.0
      ∙ (ap (over (λ ys. first.0 ∷ ys)) (next_item n first.1.0 rest after later.0 x later.1 h) ∙ ap (λ zs. Some (zs ++ x ∷ [], after)) same)

  -- where nothing is taken of what is left, no more items are
  pub no_next_item : (n m : ℕ) (bytes rest : List ℕ) (xs : List X) → n < m → take_items t n bytes ≡ Some (xs, rest) → t rest ≡ None → take_items t m bytes ≡ None
  unfolding take_items
  no_next_item n zero bytes rest xs less e none = absurd (omega arith)
  no_next_item zero (suc m) bytes rest xs less e none =
      let pair : ([], bytes) ≡ (xs, rest) = cc in
      let same : bytes ≡ rest = ap (λ (q : List X × List ℕ). q.1) pair in
      ap (λ b. then_take (t b) (λ y mid. over (λ ys. y ∷ ys) (take_items t m mid))) same ∙ ap (λ r. then_take r (λ y mid. over (λ ys. y ∷ ys) (take_items t m mid))) none
  no_next_item (suc n) (suc m) bytes rest xs less e none =
      let first = then_take_is_some (t bytes) (λ y mid. over (λ ys. y ∷ ys) (take_items t n mid)) xs rest e in
      let later = over_is_some (λ ys. first.0 ∷ ys) (take_items t n first.1.0) xs rest first.1.1.1 in
      let small : n < m = omega arith in
      ap (λ r. then_take r (λ y mid. over (λ ys. y ∷ ys) (take_items t m mid))) first.1.1.0
      ∙ ap (over (λ ys. first.0 ∷ ys)) (no_next_item n m first.1.0 rest later.0 small later.1 none)

-- a refusal stays one where nothing makes nothing
pub refuses_along : {X Y : Type 0} (e : DaachorseError) (a : Taken X) (b : Taken Y) → (a ≡ None → b ≡ None) → Refuses e a → Refuses e b
refuses_along (InvalidArgument x) a b k r = k r
refuses_along (AutomatonScale x) a b k r = k r
refuses_along (InvalidConversion x) a b k r = k r
refuses_along (InvalidAutomaton x) a b k r = k r
refuses_along (OutOfMemory x) a b k r = tt
