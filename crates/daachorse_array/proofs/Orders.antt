-- The order of texts: an end keeps two texts apart that differ at a unit, and a text comes before what goes on with it.
use Rattle.std.proofs.Common.{◌≡◌, ℕ, ◌<◌, inl, inr, List, [], ◌∷◌, ◌++◌, refl, arith}
use Rattle.std.specs.Cmp.Lexicographic.{slice_cmp}
use Rattle.std.specs.Ordering.{nat_cmp}
use Rattle.std.specs.declared.cmp.Ordering.{Ordering}
use Rattle.std.specs.declared.cmp.Ordering.TheVariants.{Less, Equal}
use Rattle.std.proofs.lemmas.Bool.Decides.{nat_tests}
use Rattle.daachorse_array.specs.Trees.{Diverges}

abbrev pub order : List ℕ → List ℕ → Ordering
order = slice_cmp nat_cmp

cmp-less : (a b : ℕ) → a < b → nat_cmp a b ≡ Less
cmp-less a b h = grind (arith, nat_tests)

pub cmp-same : (a : ℕ) → nat_cmp a a ≡ Equal
cmp-same a = grind (arith, nat_tests)

pub Diverges-order : (v w : List ℕ) → Diverges v w → order v w ≡ Less
Diverges-order [] w d = absurd d
Diverges-order (a ∷ v) [] d = absurd d
Diverges-order (a ∷ v) (b ∷ w) (inl h) = rw (cmp-less a b h) refl
Diverges-order (a ∷ v) (b ∷ w) (inr d) = rw (d.0, cmp-same b) (Diverges-order v w d.1)

-- what goes on behind the first text changes nothing
pub Diverges-on : (v w x : List ℕ) → Diverges v w → Diverges (v ++ x) w
Diverges-on [] w x d = absurd d
Diverges-on (a ∷ v) [] x d = absurd d
Diverges-on (a ∷ v) (b ∷ w) x (inl h) = inl h
Diverges-on (a ∷ v) (b ∷ w) x (inr d) = inr (d.0, Diverges-on v w x d.1)

pub Diverges-last : (v : List ℕ) (a b : ℕ) → a < b → Diverges (v ++ a ∷ []) (v ++ b ∷ [])
Diverges-last [] a b h = inl h
Diverges-last (u ∷ v) a b h = inr (refl, Diverges-last v a b h)

pub order-longer : (v : List ℕ) (a : ℕ) (x : List ℕ) → order v (v ++ a ∷ x) ≡ Less
order-longer [] a x = refl
order-longer (u ∷ v) a x = rw (cmp-same u) (order-longer v a x)

pub order-itself : (v : List ℕ) → order v v ≡ Equal
order-itself [] = refl
order-itself (u ∷ v) = rw (cmp-same u) (order-itself v)
